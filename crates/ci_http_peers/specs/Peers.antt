-- Who sits at the places of a table, and who gives way.
use Rattle.std.specs.Prelude.{◌≡◌, ◌≤◌, ◌<◌, ◌⊎◌, ℕ, List, Option, Some, None, Bool, true, false, ⊤, slice_get, nat_le, if◌then◌else◌}
use Rattle.std.specs.List.{sum_by}
use Rattle.ci_http_peers.specs.declared.peer.Peer.{Peer}
use Rattle.ci_http_peers.specs.declared.peer.Stage.{Stage}
use Rattle.ci_http_peers.specs.declared.peer.Among.{Among}
use Rattle.ci_http_peers.specs.declared.peers.TheConstants.{MAX_REPLY_BYTES}
use Rattle.ci_http_peers.specs.Peer.{is_among}

-- who sits at a place is none of these
abbrev pub IsNoneOf : Among → Option (Option Peer) → Type 0
IsNoneOf a None = ⊤
IsNoneOf a (Some None) = ⊤
IsNoneOf a (Some (Some peer)) = is_among a peer.stage ≡ false

-- who sits at a place is none of these, or has this deadline or a later one
abbrev pub NotBefore : Among → ℕ → Option (Option Peer) → Type 0
NotBefore a deadline None = ⊤
NotBefore a deadline (Some None) = ⊤
NotBefore a deadline (Some (Some peer)) = is_among a peer.stage ≡ true → deadline ≤ peer.deadline

-- of the peers among these, that of this place has the nearest deadline; or there are none
abbrev pub IsSoonest : List (Option Peer) → Among → Option ℕ → Type 0
IsSoonest seats a None = (k : ℕ) → IsNoneOf a (slice_get seats k)
IsSoonest seats a (Some place) =
    (peer : Peer) × (slice_get seats place ≡ Some (Some peer)) × (is_among a peer.stage ≡ true)
    × ((k : ℕ) → NotBefore a peer.deadline (slice_get seats k))

-- a place isn't free
abbrev pub IsTaken : Option (Option Peer) → Type 0
IsTaken None = ⊤
IsTaken (Some None) = ⊥
IsTaken (Some (Some peer)) = ⊤

-- this is a free place, or there is none
abbrev pub IsFree : List (Option Peer) → Option ℕ → Type 0
IsFree seats None = (k : ℕ) → IsTaken (slice_get seats k)
IsFree seats (Some place) = slice_get seats place ≡ Some None

-- the place of one more peer: a free one; or, where none is, that of the peer that has been reading longest; or, where none
-- is reading, that of the peer whose deadline is the nearest
abbrev pub IsNext : List (Option Peer) → Option ℕ → Type 0
IsNext seats place =
    ((p : ℕ) × (place ≡ Some p) × IsFree seats (Some p))
    ⊎ (IsFree seats None × (((p : ℕ) × (place ≡ Some p) × IsSoonest seats Among.Reading (Some p))
    ⊎ (IsSoonest seats Among.Reading None × IsSoonest seats Among.All place)))

-- the nearest deadline, if anybody sits
abbrev pub IsNextDeadline : List (Option Peer) → Option ℕ → Type 0
IsNextDeadline seats None = IsSoonest seats Among.All None
IsNextDeadline seats (Some deadline) =
    (place : ℕ) × (peer : Peer) × (slice_get seats place ≡ Some (Some peer)) × (peer.deadline ≡ deadline)
    × ((k : ℕ) → NotBefore Among.All deadline (slice_get seats k))

-- how many bytes of a reply a peer at a stage has in memory
abbrev pub bytes_at : Stage → ℕ
bytes_at Stage.Reading = 0
bytes_at (Stage.Writing bytes) = bytes
bytes_at Stage.Ending = 0

-- how many bytes of a reply lie in memory for who sits at a place
abbrev pub bytes_of : Option Peer → ℕ
bytes_of None = 0
bytes_of (Some peer) = bytes_at peer.stage

-- how many bytes of replies lie in memory in all
abbrev pub bytes_held : List (Option Peer) → ℕ
bytes_held seats = sum_by bytes_of seats

-- the replies have room in memory; or they haven't, and this is the place of the peer that has been taking its own longest
abbrev pub IsTooMany : List (Option Peer) → Option ℕ → Type 0
IsTooMany seats None = bytes_held seats ≤ MAX_REPLY_BYTES
IsTooMany seats (Some place) = (MAX_REPLY_BYTES < bytes_held seats) × IsSoonest seats Among.Writing (Some place)

-- who sits at a place, or nobody where their time is over
abbrev pub kept : ℕ → Option Peer → Option Peer
kept now None = None
kept now (Some peer) = if nat_le peer.deadline now then None else Some peer

-- of the nearest deadline so far, with its place, and that of who sits at the next place, the nearer, if it is one of these
abbrev pub nearer_at : Among → Option (ℕ × ℕ) → ℕ → ℕ → Bool → Option (ℕ × ℕ)
nearer_at a best place deadline false = best
nearer_at a None place deadline true = Some (place, deadline)
nearer_at a (Some (p, d)) place deadline true = if nat_le d deadline then Some (p, d) else Some (place, deadline)

abbrev pub nearer_of : Among → Option (ℕ × ℕ) → ℕ → Option Peer → Option (ℕ × ℕ)
nearer_of a best place None = best
nearer_of a best place (Some peer) = nearer_at a best place peer.deadline (is_among a peer.stage)
