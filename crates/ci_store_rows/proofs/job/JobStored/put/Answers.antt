use Rattle.std.proofs.Common.{[], ◌∷◌, ◌∙◌}
use Rattle.ci_store.specs.Prelude.{Text, bound_value}
use Rattle.ci_store_rows.specs.Prelude.{number, flag}
use Rattle.ci_store_rows.proofs.Jobs.{job_puts}
use Rattle.ci_store_rows.proofs.job.JobStored.put.Goals as goal

pub returns-clause-makes : goal.returns-clause-makes
returns-clause-makes g c clean inside =
    let x = c.args.self.now in
    job_puts x c.in_ok-spec.ensures.reads_back _ _ _ g.S.Store c.args.tx.now.conn.now c.put.new.tx.conn.now c.put.result _
    ((λ i. bound_value (c.in_ok-id.ensures i) ∷ bound_value (c.in_ok-pipeline.ensures i) ∷ bound_value (c.in_ok-position.ensures i) ∷ bound_value (c.text.ensures i) ∷ bound_value (c.text-2.ensures i) ∷ bound_value (c.to_sql.ensures i) ∷ bound_value (c.to_sql-2.ensures i) ∷ bound_value (c.to_sql-3.ensures i) ∷ bound_value (c.in_ok-set_aside.ensures i) ∷ [])
    ∙ (λ i. number x.id ∷ number x.pipeline ∷ number x.position ∷ Text x.name ∷ Text x.stage ∷ Text (c.in_ok-spec.ensures.text i) ∷ flag x.played ∷ flag x.cancelled ∷ number x.set_aside ∷ [])) (c.put.ensures.put clean inside)
