use Rattle.ci_store.specs.Prelude.{state}
use Rattle.ci_store_sqlite.proofs.Migrates.{makes_table}
use Rattle.ci_store_sqlite.proofs.migrate.make_table.Goals as goal

pub returns-clause-makes : goal.returns-clause-makes
returns-clause-makes g c clean inside =
    let ran = c.in_ok-change.ensures.changed clean inside in
    (ran.0, λ k stands. makes_table k (state g.S.Store c.args.tx.now.conn.now) (state g.S.Store c.change.new.tx.conn.now) c.in_ok-change.field-0 stands ran.1)
