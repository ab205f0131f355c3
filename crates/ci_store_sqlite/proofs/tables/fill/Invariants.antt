use Rattle.std.proofs.Common.{◌≡◌}
use Rattle.ci_store.specs.Prelude.{state, IsOf}
use Rattle.ci_store_sqlite.specs.Prelude.{the_schema, IsBare}
use Rattle.ci_store_rows.proofs.Fills.{rows_after}
use Rattle.ci_store_sqlite.proofs.Committing.{RunsInside}
use Rattle.ci_store_sqlite.proofs.tables.fill.Given as goal

abbrev pub invariant-loop-key : goal.invariant-loop-key
invariant-loop-key g l =
    let old = l.fn.tx.conn.now in
    let now = l.tx.conn.now in
    (l.tx.conn.ghost_name ≡ l.fn.tx.conn.ghost_name) × RunsInside g.S.Store (IsBare the_schema (state g.S.Store old).now → IsOf the_schema (rows_after l.key-index) (state g.S.Store now).now) old now
