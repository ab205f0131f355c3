use Rattle.std.specs.Prelude.{◌≡◌, ℕ, true, length, Contains, Ok, Some}
use Rattle.ci_store.specs.Prelude.{LoadsBy}
use Rattle.ci_memory_queue.specs.Covers.{asks_at, is_pending_at}
use Rattle.ci_memory_queue.proofs.heads.first_pending.Given as goal

-- those that are pending and ask this are left
abbrev pub invariant-loop-first : goal.invariant-loop-first
invariant-loop-first g l =
    LoadsBy {A = Unit {0}} g.T.Store.honest g.T.Store.holds g.T.Store.leaves l.fn.store l.store (Ok tt)
    (λ k _. (job : ℕ) → is_pending_at k.board job ≡ true → asks_at k.state job ≡ Some l.asks → Contains l.fn.jobs.keys job → Contains l.jobs.keys job)

abbrev pub decreases-loop-first : goal.decreases-loop-first
decreases-loop-first g l = length l.jobs.keys
