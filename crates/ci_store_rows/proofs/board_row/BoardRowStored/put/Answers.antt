use Rattle.std.proofs.Common.{[], ◌∷◌, ◌∙◌}
use Rattle.ci_store.specs.Prelude.{bound_value}
use Rattle.ci_store_rows.specs.Prelude.{number}
use Rattle.ci_store_rows.proofs.Board.{row_puts}
use Rattle.ci_store_rows.proofs.board_row.BoardRowStored.put.Goals as goal

pub returns-clause-makes : goal.returns-clause-makes
returns-clause-makes g c clean inside =
    let x = c.args.self.now in
    row_puts x _ _ _ g.S.Store c.args.tx.now.conn.now c.put.new.tx.conn.now c.put.result _
    ((λ i. bound_value (c.in_ok-job.ensures i) ∷ bound_value (c.to_sql.ensures i) ∷ bound_value (c.in_ok-opens.ensures i) ∷ bound_value (c.in_ok-failed.ensures i) ∷ bound_value (c.in_ok-barred.ensures i) ∷ [])
    ∙ (λ i. number x.job ∷ number (c.as_number.ensures i) ∷ number x.row.opens ∷ number x.row.failed ∷ number x.row.barred ∷ [])) (c.put.ensures.put clean inside)
