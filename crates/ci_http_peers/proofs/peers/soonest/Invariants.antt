use Rattle.ci_http_peers.proofs.Soonest.{IsSoonestBelow}
use Rattle.ci_http_peers.proofs.peers.soonest.Given as goal

-- the nearest of the deadlines before this place
abbrev pub invariant-loop-place : goal.invariant-loop-place
invariant-loop-place l = IsSoonestBelow l.seats l.among l.place l.best
