use Rattle.std.proofs.Common.{◌≡◌, ◌+◌, drop}
use Rattle.ci_http_peers.specs.Peers.{bytes_held}
use Rattle.ci_http_peers.specs.declared.peers.TheConstants.{MAX_REPLY_BYTES}
use Rattle.ci_http_peers.proofs.peers.have_room.Given as goal

-- what is left of the room is what the replies so far don't take
abbrev pub invariant-loop-place : goal.invariant-loop-place
invariant-loop-place l = bytes_held l.seats + l.room ≡ MAX_REPLY_BYTES + bytes_held (drop l.place l.seats)
