use Rattle.std.proofs.Common.{◌≡◌, replicate, None}
use Rattle.ci_http_peers.proofs.peers.places.Given as goal

abbrev pub invariant-loop : goal.invariant-loop
invariant-loop g l = l.seats.items ≡ replicate l.counter None
