-- What a turn of one peer leaves: of its own place, and of the others.
use Rattle.std.specs.Prelude.{◌≡◌, ◌≢◌, ◌≤◌, ◌<◌, ◌⊎◌, ⊤, ℕ, min, List, [], ◌∷◌, length, drop, Option, Some, None, Bool, true, false, Result, slice_get, slice_set}
use Rattle.std.specs.declared.io.Error.{Error}
use Rattle.ci_http_peers.specs.declared.peer.Peer.{Peer}
use Rattle.ci_http_peers.specs.declared.peer.Stage.{Stage}
use Rattle.ci_http_peers.specs.declared.peer.Among.{Among}
use Rattle.ci_http_peers.specs.declared.peer.TheConstants.{LINGER_MILLIS}
use Rattle.ci_http_peers.specs.declared.chair.Chair.{Chair}
use Rattle.ci_http_peers.specs.declared.chair.Step.{Step}
use Rattle.ci_http_peers.specs.Peer.{until, is_among}
use Rattle.ci_http_peers.specs.Peers.{IsNext}
use Rattle.ci_http_peers.specs.Connections.{Reads, Writes, Drains}

-- who sits at a place is one of these
abbrev pub is_at : Among → Option (Option Peer) → Bool
is_at a None = false
is_at a (Some None) = false
is_at a (Some (Some peer)) = is_among a peer.stage

-- nothing is at a place any more: no peer, or no connection
abbrev pub IsGone : {A : Type 0} → Option (Option A) → Type 0
IsGone None = ⊤
IsGone (Some None) = ⊤
IsGone (Some (Some x)) = ⊥

-- the places but one are as before
abbrev pub SameBut : {A : Type 0} → ℕ → List A → List A → Type 0
SameBut place old new = (k : ℕ) → k ≢ place → slice_get new k ≡ slice_get old k

-- the connections of those who sit: where nobody does there is none
abbrev pub cleared : {C : Type 0} → List (Option Peer) → List (Option C) → List (Option C)
cleared [] chairs = chairs
cleared (seat ∷ seats) [] = []
cleared (None ∷ seats) (chair ∷ chairs) = None ∷ cleared seats chairs
cleared (Some peer ∷ seats) (chair ∷ chairs) = chair ∷ cleared seats chairs

-- where nobody sits at a place there is no connection then
abbrev pub cleared_at : {C : Type 0} → Option Peer → ℕ → List (Option C) → List (Option C)
cleared_at None place chairs = slice_set chairs place None
cleared_at (Some peer) place chairs = chairs

-- a place with its connection is as before; or nobody is there any more, and who went was taking a reply
abbrev pub StaysOrYields : {C : Type 0} → List (Option Peer) → List (Option C) → List (Option Peer) → List (Option C) → ℕ → Type 0
StaysOrYields seats chairs seats_new chairs_new k =
    ((slice_get seats_new k ≡ slice_get seats k) × (slice_get chairs_new k ≡ slice_get chairs k))
    ⊎ ((IsGone (slice_get seats k) ⊎ (is_at Among.Writing (slice_get seats k) ≡ true)) × IsGone (slice_get seats_new k) × IsGone (slice_get chairs_new k))

-- a peer whose reply of so many bytes goes since now
abbrev pub writes_since : ℕ → ℕ → ℕ → Peer
writes_since now patience bytes = record { stage = Stage.Writing bytes; deadline = until now patience }

-- a peer whose reply went now
abbrev pub ends_since : ℕ → Peer
ends_since now = record { stage = Stage.Ending; deadline = until now LINGER_MILLIS }

-- who sat at a place is gone, or sits as before, with the time as before; or the request came, and the reply goes since now; or the
-- reply went now
abbrev pub GoesOn : ℕ → ℕ → Option (Option Peer) → Option (Option Peer) → Type 0
GoesOn now patience old new =
    IsGone new ⊎ ((new ≡ old)
    ⊎ (((is_at Among.Reading old ≡ true) × (bytes : ℕ) × (new ≡ Some (Some (writes_since now patience bytes))))
    ⊎ (((is_at Among.Reading old ≡ true) ⊎ (is_at Among.Writing old ≡ true)) × (new ≡ Some (Some (ends_since now))))))

-- a peer whose request comes since now
abbrev pub reads_since : ℕ → ℕ → Peer
reads_since now patience = record { stage = Stage.Reading; deadline = until now patience }

-- one more peer sat down now at the place that is the next, if there is one, and went on; all others stay, or yield to replies
abbrev pub Seats : {C : Type 0} → ℕ → ℕ → List (Option Peer) → List (Option C) → List (Option Peer) → List (Option C) → Type 0
Seats now patience seats chairs seats_new chairs_new =
    (place : Option ℕ) × IsNext seats place
    × ((k : ℕ) → place ≢ Some k → StaysOrYields seats chairs seats_new chairs_new k)
    × ((k : ℕ) → place ≡ Some k → GoesOn now patience (Some (Some (reads_since now patience))) (slice_get seats_new k))

-- a request was to be answered: its peer sits as before; or is gone; or the reply goes since now
abbrev pub Begins : ℕ → ℕ → ℕ → List (Option Peer) → List (Option Peer) → Type 0
Begins now patience place seats new =
    (new ≡ seats) ⊎ ((new ≡ slice_set seats place None)
    ⊎ ((bytes : ℕ) × (new ≡ slice_set seats place (Some (writes_since now patience bytes)))))

-- a reply went: its peer sits as before, or has a time to end since now
abbrev pub Finishes : ℕ → ℕ → List (Option Peer) → List (Option Peer) → Type 0
Finishes now place seats new = (new ≡ seats) ⊎ (new ≡ slice_set seats place (Some (ends_since now)))

-- the loop hears of a connection, if there is one
abbrev pub IsHeard : {W : Type 0} → Option (Option (Chair W)) → Type 0
IsHeard None = ⊤
IsHeard (Some None) = ⊤
IsHeard (Some (Some chair)) = chair.is_heard ≡ true

-- a connection has as many bytes of its request as this takes
abbrev pub HasAll : {W : Type 0} → Chair W → Type 0
HasAll chair = (due : ℕ) × (chair.due ≡ Some due) × (due ≤ length chair.bytes.items)

-- what is called on a connection, by what its peer is at: bytes of the request are taken, what is left of the reply is sent, or what
-- comes after it is taken; and what comes of that
module _ {W : Type 0} (says : List ℕ → Option ℕ → Type 0) (receives : W → W → Result ℕ Error → List ℕ → Type 0) (sends : W → List ℕ → W → Result ℕ Error → Type 0) where
  abbrev pub CallsAt : Stage → Chair W → Chair W → Step → Type 0
  CallsAt Stage.Reading old new s =
      (got : Result ℕ Error) × (buffer : List ℕ) × receives old.wire new.wire got buffer × Reads old new s says got buffer
  CallsAt (Stage.Writing bytes) old new s =
      (old.count ≡ length old.bytes.items → (s ≡ Step.Went) × (new ≡ old))
      × (old.count < length old.bytes.items → (got : Result ℕ Error) × sends old.wire (drop old.count old.bytes.items) new.wire got
      × Writes old new s (drop old.count old.bytes.items) got)
      × (length old.bytes.items < old.count → (s ≡ Step.Over) × (new ≡ old))
  CallsAt Stage.Ending old new s =
      (got : Result ℕ Error) × (buffer : List ℕ) × receives old.wire new.wire got buffer × Drains old new s got

-- what an answer leaves: with none the peer is gone; with a text the peer's connection has just that to send, for which the time
-- begins now
abbrev pub Replies : {W : Type 0} → ℕ → ℕ → ℕ → Chair W → Option (List ℕ) → List (Option Peer) → List (Option (Chair W)) → List (Option Peer) → List (Option (Chair W)) → Type 0
Replies {W} now patience place chair None seats chairs seats_new chairs_new =
    (seats_new ≡ slice_set seats place None) × (chairs_new ≡ slice_set chairs place None)
Replies {W} now patience place chair (Some text) seats chairs seats_new chairs_new =
    (seats_new ≡ slice_set seats place (Some (writes_since now patience (length text))))
    × ((new : Chair W) × (chairs_new ≡ slice_set chairs place (Some new)) × (new.bytes.items ≡ text) × (new.count ≡ 0)
    × (new.wire ≡ chair.wire) × (new.is_exact ≡ chair.is_exact) × (new.is_heard ≡ chair.is_heard))

-- the peer of a connection is told that nothing more comes
abbrev pub Ends : {W : Type 0} → (W → W → Type 0) → Chair W → Chair W → Type 0
Ends ends old new = ends old.wire new.wire × (new.bytes.items ≡ []) × (new.count ≡ 0) × (new.is_heard ≡ old.is_heard)

-- a reply went: where just the request came the connection is over; else its peer is told that nothing more comes, and has a time to end
abbrev pub EndsReply : {W : Type 0} → (W → W → Type 0) → ℕ → ℕ → Chair W → List (Option Peer) → List (Option (Chair W)) → List (Option Peer) → List (Option (Chair W)) → Step → Type 0
EndsReply {W} ends now place chair seats chairs seats_new chairs_new s =
    (chair.is_exact ≡ true → (s ≡ Step.Over) × (seats_new ≡ seats) × (chairs_new ≡ chairs))
    × (chair.is_exact ≡ false → (seats_new ≡ slice_set seats place (Some (ends_since now)))
    × ((new : Chair W) × (chairs_new ≡ slice_set chairs place (Some new)) × Ends ends chair new)
    × (chair.is_heard ≡ true → s ≡ Step.Again) × (chair.is_heard ≡ false → s ≡ Step.Waits))

-- a request that is whole was answered
abbrev pub AnswersOne : {W T : Type 0} → (List ℕ → T → T → Option (List ℕ) → Type 0) → T → T → Chair W → Option (List ℕ) → Type 0
AnswersOne answers old new chair text = HasAll chair × answers chair.bytes.items old new text

-- the subject is as before; or one request was answered, where one was to come at this place
abbrev pub AnswersOnce : (W : Type 0) {T : Type 0} → (List ℕ → T → T → Option (List ℕ) → Type 0) → Option (Option Peer) → T → T → Type 0
AnswersOnce W answers seat old new =
    (new ≡ old) ⊎ ((is_at Among.Reading seat ≡ true) × (chair : Chair W) × (text : Option (List ℕ)) × AnswersOne answers old new chair text)

-- and none is to come there any more
abbrev pub AnswersLast : (W : Type 0) {T : Type 0} → (List ℕ → T → T → Option (List ℕ) → Type 0) → Option (Option Peer) → Option (Option Peer) → T → T → Type 0
AnswersLast W answers seat seat_new old new =
    (new ≡ old) ⊎ ((is_at Among.Reading seat ≡ true) × (is_at Among.Reading seat_new ≡ false)
    × (chair : Chair W) × (text : Option (List ℕ)) × AnswersOne answers old new chair text)

-- the subject is as before; or a call on the connection at a place took the last bytes of its request, and just its bytes were answered
module _ {W T : Type 0} (says : List ℕ → Option ℕ → Type 0) (receives : W → W → Result ℕ Error → List ℕ → Type 0) (answers : List ℕ → T → T → Option (List ℕ) → Type 0) where
  abbrev pub AnswersHere : Option (Option (Chair W)) → T → T → Type 0
  AnswersHere seat old new =
      (new ≡ old) ⊎ ((before : Chair W) × (chair : Chair W) × (text : Option (List ℕ)) × (seat ≡ Some (Some before))
      × ((got : Result ℕ Error) × (buffer : List ℕ) × receives before.wire chair.wire got buffer × Reads before chair Step.Whole says got buffer)
      × answers chair.bytes.items old new text)

-- requests that were answered, one after the other
abbrev pub Answers : {T : Type 0} → (List ℕ → T → T → Option (List ℕ) → Type 0) → List (List ℕ) → T → T → Type 0
Answers {T} answers [] old new = new ≡ old
Answers {T} answers (bytes ∷ more) old new = (mid : T) × ((text : Option (List ℕ)) × answers bytes old mid text) × Answers answers more mid new

-- the sooner of two moments, of which each may be missing
abbrev pub sooner : Option ℕ → Option ℕ → Option ℕ
sooner None other = other
sooner (Some one) None = Some one
sooner (Some one) (Some other) = Some (min one other)
