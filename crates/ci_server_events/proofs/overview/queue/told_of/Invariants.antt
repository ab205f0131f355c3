use Rattle.std.proofs.Common.{◌≡◌, ◌++◌, drop, map, Ok, Some}
use Rattle.ci_store.specs.Prelude.{LoadsBy}
use Rattle.ci_server_lookups.specs.Prelude.{IsKept}
use Rattle.ci_server_events.specs.Told.{row_told}
use Rattle.ci_server_events.proofs.overview.queue.told_of.Given as goal

-- what is told, with the rows that are left, is all that is to be told
abbrev pub invariant-loop-row : goal.invariant-loop-row
invariant-loop-row g l =
    LoadsBy {A = Unit {0}} g.T.Store.honest g.T.Store.holds g.T.Store.leaves l.fn.store l.store (Ok tt)
    (λ k _. IsKept k → map (λ x. Some x) l.told.items ++ map (row_told k.state k.board) (drop l.row-index l.rows) ≡ map (row_told k.state k.board) l.rows)
