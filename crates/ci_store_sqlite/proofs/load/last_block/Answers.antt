use Rattle.std.proofs.Common.{◌∙◌, [], ◌∷◌}
use Rattle.ci_store.specs.Prelude.{bound_value}
use Rattle.ci_store_sqlite.specs.Prelude.{number}
use Rattle.ci_store_rows.proofs.Blocks.{plain_select_last, last_found}
use Rattle.ci_store_sqlite.proofs.Looking.{looked_so, by_params}
use Rattle.ci_store_sqlite.proofs.load.last_block.Goals as goal

pub one-requires : goal.one-requires
one-requires g c = plain_select_last

pub returns : goal.returns
returns g c =
    looked_so c.one.ensures
    (λ k at found h.
    last_found g.S.Store c.args.conn.now c.one.new.conn k at.now c.args.attempt found
    (by_params ((λ i. bound_value (c.in_ok-attempt.ensures i) ∷ bound_value (c.in_ok-only.ensures i) ∷ []) ∙ (λ i. number c.args.attempt ∷ number 1 ∷ [])) h))
