use Rattle.std.proofs.Common.{[], ◌∷◌, ◌∙◌}
use Rattle.ci_store.specs.Prelude.{Text, bound_value}
use Rattle.ci_store_rows.specs.Prelude.{number}
use Rattle.ci_store_rows.proofs.Records.{bound_number}
use Rattle.ci_store_rows.proofs.Attempts.{attempt_puts}
use Rattle.ci_store_rows.proofs.attempt.AttemptStored.put.Goals as goal

pub returns-clause-makes : goal.returns-clause-makes
returns-clause-makes g c clean inside =
    let x = c.args.self.now in
    attempt_puts x _ _ _ g.S.Store c.args.tx.now.conn.now c.put.new.tx.conn.now c.put.result _
    ((λ i. bound_value (c.in_ok-id.ensures i) ∷ bound_value (c.in_ok-job.ensures i) ∷ bound_value (c.in_ok-runner.ensures i) ∷ bound_value (c.text.ensures i) ∷ bound_value (c.in_ok-granted.ensures i) ∷ bound_value (c.in_ok-seen.ensures i) ∷ bound_value (c.to_sql.ensures i) ∷ bound_value (c.to_sql-2.ensures i) ∷ bound_value (c.to_sql-3.ensures i) ∷ [])
    ∙ (λ i. number x.id ∷ number x.job ∷ number x.runner ∷ Text x.token ∷ number (c.seconds.ensures.is i) ∷ number (c.seconds-2.ensures.is i) ∷ number ((c.state_numbers-state.ensures i).0) ∷ bound_number ((c.state_numbers-state.ensures i).1) i ∷ bound_number ((c.state_numbers-state.ensures i).2) i ∷ [])) (c.put.ensures.put clean inside)
