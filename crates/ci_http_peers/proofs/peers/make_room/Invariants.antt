use Rattle.std.proofs.Common.{◌≡◌, ℕ, ◌≤◌, ◌⊎◌, slice_get, Some, None}
use Rattle.std.specs.List.{sum_by}
use Rattle.ci_http_peers.specs.declared.peer.Among.TheVariants.{Writing}
use Rattle.ci_http_peers.specs.declared.peers.TheConstants.{MAX_REPLY_BYTES}
use Rattle.ci_http_peers.specs.Peers.{IsNoneOf, bytes_held}
use Rattle.ci_http_peers.proofs.Rooms.{seat_count}
use Rattle.ci_http_peers.proofs.peers.make_room.Given as goal

-- who isn't taking a reply sits as before, and nobody goes for nothing
abbrev pub invariant-loop-place : goal.invariant-loop-place
invariant-loop-place l =
    ((k : ℕ) → IsNoneOf Writing (slice_get l.initial.seats k) → slice_get l.seats k ≡ slice_get l.initial.seats k)
    × (bytes_held l.initial.seats ≤ MAX_REPLY_BYTES → l.seats ≡ l.initial.seats)
    × ((k : ℕ) → (slice_get l.seats k ≡ slice_get l.initial.seats k) ⊎ (slice_get l.seats k ≡ Some None))

-- fewer sit each time
abbrev pub decreases-loop-place : goal.decreases-loop-place
decreases-loop-place l = sum_by seat_count l.seats
