use Rattle.std.proofs.Common.{◌≡◌, take, map}
use Rattle.ci_store.specs.Prelude.{bound}
use Rattle.ci_store_sqlite.specs.Prelude.{ShowsNone}
use Rattle.ci_store_sqlite.proofs.Committing.{RunsInside}
use Rattle.ci_store_sqlite.proofs.make.remove.Given as goal

abbrev pub invariant-loop-query : goal.invariant-loop-query
invariant-loop-query g l =
    let old = l.fn.tx.conn.now in
    let now = l.tx.conn.now in
    (l.tx.conn.ghost_name ≡ l.fn.tx.conn.ghost_name) × RunsInside g.S.Store (ShowsNone g.S.Store (map (λ query. query.now) (take l.query-index l.referring)) (bound l.key) old now) old now
