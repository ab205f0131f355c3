use Rattle.std.proofs.Common.{◌∙◌, [], ◌∷◌}
use Rattle.ci_store.specs.Prelude.{bound_value}
use Rattle.ci_store_sqlite.specs.Prelude.{number}
use Rattle.ci_store_sqlite.proofs.Looking.{looked_so, by_params}
use Rattle.ci_store_rows.proofs.Attempts.{plain_select_by, last_found}
use Rattle.ci_store_sqlite.proofs.load.last_by.Goals as goal

pub one-requires : goal.one-requires
one-requires g c = plain_select_by

pub returns : goal.returns
returns g c =
    looked_so c.one.ensures
    (λ k at found h.
    last_found g.S.Store c.args.conn.now c.one.new.conn k at c.args.runner found
    (by_params ((λ i. bound_value (c.in_ok-runner.ensures i) ∷ bound_value (c.in_ok-only.ensures i) ∷ [])
    ∙ (λ i. number c.args.runner ∷ number 1 ∷ [])) h))
