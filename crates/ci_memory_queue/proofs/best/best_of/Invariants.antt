use Rattle.std.proofs.Common.{◌≡◌, take, ℕ, true, Ok, Some}
use Rattle.ci_store.specs.Prelude.{LoadsBy}
use Rattle.ci_server_lookups.specs.Prelude.{IsKept}
use Rattle.ci_memory_queue.specs.declared.queue.Asks.{Asks}
use Rattle.ci_memory_queue.specs.Covers.{asks_at, is_pending_at, IsAmong}
use Rattle.ci_memory_queue.specs.Offers.{IsBest}
use Rattle.ci_memory_queue.proofs.best.best_of.Given as goal

-- the best of the classes so far
abbrev pub invariant-loop-class : goal.invariant-loop-class
invariant-loop-class g l =
    LoadsBy {A = Unit {0}} g.T.Store.honest g.T.Store.holds g.T.Store.leaves l.fn.store l.store (Ok tt)
    (λ k _. ((asks : Asks) (job : ℕ) → is_pending_at k.board job ≡ true → asks_at k.state job ≡ Some asks → IsAmong l.fn.classes asks job → IsAmong l.classes asks job)
    × (IsKept k → IsBest k l.runner (take l.class-index l.classes) l.best))
