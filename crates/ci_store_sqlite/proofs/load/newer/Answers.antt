use Rattle.std.proofs.Common.{◌∙◌, [], ◌∷◌}
use Rattle.ci_store.specs.Prelude.{Text, bound_value}
use Rattle.ci_store_sqlite.specs.Prelude.{number}
use Rattle.ci_store_sqlite.proofs.Looking.{looked_so, by_params}
use Rattle.ci_store_rows.proofs.Pipelines.{plain_select_newer, newer_found}
use Rattle.ci_store_sqlite.proofs.load.newer.Goals as goal

pub one-requires : goal.one-requires
one-requires g c = plain_select_newer

pub returns : goal.returns
returns g c =
    looked_so c.one.ensures
    (λ k at found h.
    newer_found g.S.Store c.args.conn.now c.one.new.conn k at c.args.pipeline.now found
    (by_params ((λ i. bound_value (c.in_ok-project.ensures i) ∷ bound_value (c.text.ensures i) ∷ bound_value (c.to_sql.ensures i) ∷ bound_value (c.in_ok-id.ensures i) ∷ bound_value (c.in_ok-only.ensures i) ∷ [])
    ∙ (λ i. number c.args.pipeline.now.project ∷ Text c.args.pipeline.now.git_ref ∷ number (c.kind_number-kind.ensures i) ∷ number c.args.pipeline.now.id ∷ number 1 ∷ [])) h))
