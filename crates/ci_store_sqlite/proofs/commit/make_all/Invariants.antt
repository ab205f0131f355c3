use Rattle.std.proofs.Common.{◌≡◌, length}
use Rattle.ci_store.specs.Prelude.{State, applied}
use Rattle.ci_store_sqlite.specs.Prelude.{in_state}
use Rattle.ci_store_sqlite.proofs.Committing.{RunsInside, Follows}
use Rattle.ci_store_sqlite.proofs.commit.make_all.Given as goal

abbrev pub invariant-loop-rest : goal.invariant-loop-rest
invariant-loop-rest g l =
    let old = l.fn.tx.conn.now in
    let now = l.tx.conn.now in
    (l.tx.conn.ghost_name ≡ l.fn.tx.conn.ghost_name)
    × (done : State → State) × ((s : State) → applied l.rest (done s) ≡ applied l.changes s) × RunsInside g.S.Store (Follows g.S.Store (in_state done) old now) old now

abbrev pub decreases-loop-rest : goal.decreases-loop-rest
decreases-loop-rest g l = length l.rest
