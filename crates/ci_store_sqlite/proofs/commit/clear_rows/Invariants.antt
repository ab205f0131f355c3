use Rattle.std.proofs.Common.{◌≡◌, take}
use Rattle.ci_store.specs.Prelude.{cleared}
use Rattle.ci_store_sqlite.proofs.Committing.{RunsInside, Follows}
use Rattle.ci_store_sqlite.proofs.commit.clear_rows.Given as goal

abbrev pub invariant-loop-job : goal.invariant-loop-job
invariant-loop-job g l =
    let old = l.fn.tx.conn.now in
    let now = l.tx.conn.now in
    (l.tx.conn.ghost_name ≡ l.fn.tx.conn.ghost_name) × RunsInside g.S.Store (Follows g.S.Store (cleared (take l.job-index l.jobs)) old now) old now
