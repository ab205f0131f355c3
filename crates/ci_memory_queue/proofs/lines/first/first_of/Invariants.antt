use Rattle.std.specs.Prelude.{ℕ, length, Contains, Ok}
use Rattle.ci_store.specs.Prelude.{LoadsBy}
use Rattle.ci_memory_queue.specs.First.{IsInGroup}
use Rattle.ci_memory_queue.proofs.lines.first.first_of.Given as goal

-- those that are in the group are left
abbrev pub invariant-loop-job : goal.invariant-loop-job
invariant-loop-job g l =
    LoadsBy {A = Unit {0}} g.T.Store.honest g.T.Store.holds g.T.Store.leaves l.fn.store l.store (Ok tt)
    (λ k _. (job pipeline : ℕ) → IsInGroup l.order k l.project l.group job pipeline → Contains l.fn.jobs.keys job → Contains l.jobs.keys job)

abbrev pub decreases-loop-job : goal.decreases-loop-job
decreases-loop-job g l = length l.jobs.keys
