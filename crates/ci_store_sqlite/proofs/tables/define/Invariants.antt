use Rattle.std.proofs.Common.{◌≡◌}
use Rattle.ci_store.specs.Prelude.{state}
use Rattle.ci_store_sqlite.specs.Prelude.{IsBlank, IsBare}
use Rattle.ci_store_rows.proofs.Creates.{schema_after}
use Rattle.ci_store_sqlite.proofs.Committing.{RunsInside}
use Rattle.ci_store_sqlite.proofs.tables.define.Given as goal

abbrev pub invariant-loop-text : goal.invariant-loop-text
invariant-loop-text g l =
    let old = l.fn.tx.conn.now in
    let now = l.tx.conn.now in
    (l.tx.conn.ghost_name ≡ l.fn.tx.conn.ghost_name) × RunsInside g.S.Store (IsBlank g.S.Store old → IsBare (schema_after l.text-index) (state g.S.Store now).now) old now
