use Rattle.ci_http_peers.specs.Peers.{kept}
use Rattle.ci_http_peers.proofs.Rooms.{mapped_more}
use Rattle.ci_http_peers.proofs.peers.end_late.Goals as goal

pub loop-seat-preserved : goal.loop-seat-preserved
loop-seat-preserved c =
    mapped_more (kept c.args.now) c.args.seats.now c.loop-seat.seat-index _ c.kept.result c.loop-seat.seats c.loop-seat-test.true c.loop-seat.invariant c.kept.ensures
