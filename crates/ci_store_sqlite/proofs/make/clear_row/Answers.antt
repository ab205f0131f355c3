use Rattle.ci_store_rows.proofs.Board.{row_removed}
use Rattle.ci_store_sqlite.proofs.Looking.{on_ok}
use Rattle.ci_store_sqlite.proofs.make.clear_row.Goals as goal

pub returns-clause-makes : goal.returns-clause-makes
returns-clause-makes g c clean inside =
    on_ok c.remove_at.result (λ ran. (ran.0, λ k stands. row_removed g.S.Store c.args.tx.now.conn.now c.remove_at.new.tx.conn.now c.args.job k stands ran.1)) (c.remove_at.ensures.removes clean inside)
