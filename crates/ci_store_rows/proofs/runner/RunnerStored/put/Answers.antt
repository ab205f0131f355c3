use Rattle.std.proofs.Common.{[], ◌∷◌, ◌∙◌}
use Rattle.ci_store.specs.Prelude.{Text, bound_value}
use Rattle.ci_store_rows.specs.Prelude.{number, flag}
use Rattle.ci_store_rows.proofs.Records.{bound_number}
use Rattle.ci_store_rows.proofs.Runners.{runner_puts}
use Rattle.ci_store_rows.proofs.runner.RunnerStored.put.Goals as goal

pub returns-clause-makes : goal.returns-clause-makes
returns-clause-makes g c clean inside =
    let x = c.args.self.now in
    runner_puts x c.in_ok-tags.ensures.reads_back _ _ _ g.S.Store c.args.tx.now.conn.now c.put.new.tx.conn.now c.put.result _
    ((λ i. bound_value (c.in_ok-id.ensures i) ∷ bound_value (c.text.ensures i) ∷ bound_value (c.text-2.ensures i) ∷ bound_value (c.in_ok-project.ensures i) ∷ bound_value (c.to_sql.ensures i) ∷ bound_value (c.to_sql-2.ensures i) ∷ bound_value (c.to_sql-3.ensures i) ∷ [])
    ∙ (λ i. number x.id ∷ Text x.name ∷ Text x.token ∷ bound_number x.project i ∷ Text (c.in_ok-tags.ensures.text i) ∷ flag x.untagged ∷ flag x.paused ∷ [])) (c.put.ensures.put clean inside)
