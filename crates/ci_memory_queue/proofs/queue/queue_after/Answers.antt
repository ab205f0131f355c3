use Rattle.ci_memory_queue.proofs.Commits.{right_after}
use Rattle.ci_memory_queue.proofs.queue.queue_after.Goals as goal

-- what is noted covers what the commit leaves
pub returns : goal.returns
returns c = λ k jobs indexes right.
    right_after c.args.queue _ c.in_ok-notes.notes c.args.changes.now c.args.rows.now indexes jobs k c.in_ok-classes.was c.in_ok-notes.ensures right
