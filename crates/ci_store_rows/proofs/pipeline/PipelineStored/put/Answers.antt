use Rattle.std.proofs.Common.{[], ◌∷◌, ◌∙◌}
use Rattle.ci_store.specs.Prelude.{Text, bound_value}
use Rattle.ci_store_rows.specs.Prelude.{number}
use Rattle.ci_store_rows.proofs.Pipelines.{pipeline_puts}
use Rattle.ci_store_rows.proofs.pipeline.PipelineStored.put.Goals as goal

pub returns-clause-makes : goal.returns-clause-makes
returns-clause-makes g c clean inside =
    let x = c.args.self.now in
    pipeline_puts x _ _ _ g.S.Store c.args.tx.now.conn.now c.put.new.tx.conn.now c.put.result _
    ((λ i. bound_value (c.in_ok-id.ensures i) ∷ bound_value (c.in_ok-project.ensures i) ∷ bound_value (c.text.ensures i) ∷ bound_value (c.to_sql.ensures i) ∷ bound_value (c.to_sql-2.ensures i) ∷ bound_value (c.in_ok-created.ensures i) ∷ [])
    ∙ (λ i. number x.id ∷ number x.project ∷ Text x.git_ref ∷ number (c.kind_number.ensures i) ∷ number (c.source_number.ensures i) ∷ number (c.seconds.ensures.is i) ∷ [])) (c.put.ensures.put clean inside)
