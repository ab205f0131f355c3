use Rattle.std.proofs.Common.{◌≡◌, take}
use Rattle.ci_store.specs.Prelude.{put_rows}
use Rattle.ci_store_sqlite.specs.Prelude.{in_board}
use Rattle.ci_store_sqlite.proofs.Committing.{RunsInside, Follows}
use Rattle.ci_store_sqlite.proofs.commit.put_rows.Given as goal

abbrev pub invariant-loop-row : goal.invariant-loop-row
invariant-loop-row g l =
    let old = l.fn.tx.conn.now in
    let now = l.tx.conn.now in
    (l.tx.conn.ghost_name ≡ l.fn.tx.conn.ghost_name) × RunsInside g.S.Store (Follows g.S.Store (in_board (put_rows (take l.row-index l.rows))) old now) old now
