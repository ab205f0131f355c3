use Rattle.std.proofs.Common.{ℕ, ◌<◌, slice_get}
use Rattle.ci_http_peers.specs.Peers.{IsTaken}
use Rattle.ci_http_peers.proofs.peers.free_place.Given as goal

-- each place before this one is taken
abbrev pub invariant-loop-place : goal.invariant-loop-place
invariant-loop-place l = (k : ℕ) → k < l.place → IsTaken (slice_get l.seats k)
