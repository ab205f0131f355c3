use Rattle.std.proofs.Common.{[], ◌∷◌, ◌∙◌}
use Rattle.ci_store.specs.Prelude.{Text, bound_value}
use Rattle.ci_store_rows.specs.Prelude.{number}
use Rattle.ci_store_rows.proofs.Records.{bound_words}
use Rattle.ci_store_rows.proofs.Projects.{project_puts}
use Rattle.ci_store_rows.proofs.project.ProjectStored.put.Goals as goal

pub returns-clause-makes : goal.returns-clause-makes
returns-clause-makes g c clean inside =
    let x = c.args.self.now in
    project_puts x _ _ _ g.S.Store c.args.tx.now.conn.now c.put.new.tx.conn.now c.put.result _
    ((λ i. bound_value (c.in_ok-id.ensures i) ∷ bound_value (c.text.ensures i) ∷ bound_value (c.text-2.ensures i) ∷ bound_value (c.optional_text.ensures i) ∷ [])
    ∙ (λ i. number x.id ∷ Text x.name ∷ Text x.token ∷ bound_words x.file i ∷ [])) (c.put.ensures.put clean inside)
