use Rattle.std.proofs.Common.{◌≡◌, ◌++◌, map, take, drop}
use Rattle.ci_http_peers.specs.Peers.{kept}
use Rattle.ci_http_peers.proofs.peers.end_late.Given as goal

-- those before this place are looked at
abbrev pub invariant-loop-seat : goal.invariant-loop-seat
invariant-loop-seat l = l.seats ≡ map (kept l.now) (take l.seat-index l.initial.seats) ++ drop l.seat-index l.initial.seats
