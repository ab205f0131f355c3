-- The nearest deadline of the peers before a place.
use Rattle.std.proofs.Common.{◌≡◌, ℕ, ◌<◌, true, List, Option, Some, None, slice_get}
use Rattle.ci_http_peers.specs.declared.peer.Peer.{Peer}
use Rattle.ci_http_peers.specs.declared.peer.Among.{Among}
use Rattle.ci_http_peers.specs.Peer.{is_among}
use Rattle.ci_http_peers.specs.Peers.{IsNoneOf, NotBefore}

abbrev pub IsSoonestBelow : List (Option Peer) → Among → ℕ → Option (ℕ × ℕ) → Type 0
IsSoonestBelow seats a n None = (k : ℕ) → k < n → IsNoneOf a (slice_get seats k)
IsSoonestBelow seats a n (Some (place, deadline)) =
    ((peer : Peer) × (slice_get seats place ≡ Some (Some peer)) × (is_among a peer.stage ≡ true) × (peer.deadline ≡ deadline))
    × ((k : ℕ) → k < n → NotBefore a deadline (slice_get seats k))
