use Rattle.std.proofs.Common.{drop, Ok}
use Rattle.ci_store.specs.Prelude.{LoadsBy}
use Rattle.ci_memory.specs.Alone.{Accounts}
use Rattle.ci_memory.specs.Looks.{IsLooked}
use Rattle.ci_memory.proofs.pipelines.redundant.look.Given as goal

-- with those that are left it is right
abbrev pub invariant-loop-number : goal.invariant-loop-number
invariant-loop-number g l =
    LoadsBy {A = Unit {0}} g.T.Store.honest g.T.Store.holds g.T.Store.leaves l.fn.store l.store (Ok tt)
    (λ k _. Accounts l.fn.known k → IsLooked k (drop l.number-index l.number-items) l.looked)
