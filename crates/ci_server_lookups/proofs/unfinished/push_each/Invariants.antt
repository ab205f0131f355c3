use Rattle.std.proofs.Common.{◌≡◌, ℕ, take, ◌||◌, Ok}
use Rattle.std.specs.List.{list_any}
use Rattle.ci_store.specs.Prelude.{LoadsBy}
use Rattle.ci_server_lookups.specs.Prelude.{has_number, opens}
use Rattle.ci_server_lookups.proofs.unfinished.push_each.Given as goal

-- the pipelines that aren't finished by one of the rows so far are added
abbrev pub invariant-loop-row : goal.invariant-loop-row
invariant-loop-row g l =
    LoadsBy {A = Unit {0}} g.T.Store.honest g.T.Store.holds g.T.Store.leaves l.fn.store l.store (Ok tt)
    (λ k _. (n : ℕ) → has_number n l.numbers.items ≡ (has_number n l.fn.numbers.items || list_any (opens k.state n) (take l.row-index l.rows)))
