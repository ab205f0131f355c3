use Rattle.ci_memory_queue.proofs.Commits.{lines_right_after}
use Rattle.ci_memory_queue.proofs.lines.lines_after.Goals as goal

-- what is noted covers what the commit leaves
pub returns : goal.returns
returns c = λ k jobs indexes right.
    lines_right_after c.args.lines _ c.in_ok-notes.notes c.args.changes.now c.args.rows.now indexes jobs k c.in_ok-lines.was c.in_ok-notes.ensures right
