use Rattle.std.proofs.Common.{[], ◌∷◌}
use Rattle.ci_store.specs.Prelude.{bound_value}
use Rattle.ci_store_sqlite.proofs.Looking.{looked_so, by_params}
use Rattle.ci_store_sqlite.proofs.load.list_within.Goals as goal

pub returns : goal.returns
returns g c = looked_so c.list.ensures (λ k at found. by_params (λ i. bound_value (c.in_ok-first.ensures i) ∷ bound_value (c.in_ok-last.ensures i) ∷ []))
