-- Peers that give way to replies.
use Rattle.std.proofs.Common.{◌≡◌, ℕ, zero, suc, true, false, ◌+◌, ◌<◌, List, [], ◌∷◌, ◌++◌, ◌⊎◌, inr, map, take, drop, set, get_or, length, refl, sym, ◌∙◌, ap, subst, arith}
use Rattle.std.proofs.Common.{Option, Some, None, slice_get, nat_eq, Bool}
use Rattle.std.proofs.lemmas.Bool.Decides.{nat_tests}
use Rattle.std.specs.List.{sum_by}
use Rattle.std.proofs.lemmas.Bool.{true≢false}
use Rattle.std.proofs.lemmas.List.Sums.{sum_by-cons, sum_by-set}
use Rattle.std.proofs.lemmas.Option.{get_or_from_slice_get, slice_get_within}
use Rattle.ci_http_peers.specs.declared.peer.Peer.{Peer}
use Rattle.ci_http_peers.specs.declared.peer.Stage.{Stage}
use Rattle.ci_http_peers.specs.declared.peer.Among.TheVariants.{Writing}
use Rattle.ci_http_peers.specs.declared.peers.TheConstants.{MAX_REPLY_BYTES}
use Rattle.ci_http_peers.specs.Peer.{is_among}
use Rattle.ci_http_peers.specs.Peers.{IsNoneOf, IsSoonest, IsTooMany, bytes_at, bytes_of, bytes_held}
use Rattle.ci_http_peers.proofs.Turns.{here_set, is_or_gone, other_same}

-- how many sit at a place
abbrev pub seat_count : Option Peer → ℕ
seat_count None = 0
seat_count (Some peer) = 1

no_bytes_at : (s : Stage) → is_among Writing s ≡ false → bytes_at s ≡ 0
no_bytes_at Stage.Reading e = refl
no_bytes_at (Stage.Writing bytes) e = cc
no_bytes_at Stage.Ending e = refl

no_bytes : (seat : Option Peer) → IsNoneOf Writing (Some seat) → bytes_of seat ≡ 0
no_bytes None h = refl
no_bytes (Some peer) h = no_bytes_at peer.stage h

-- where nobody is taking a reply none lies in memory
none_held : (seats : List (Option Peer)) → ((k : ℕ) → IsNoneOf Writing (slice_get seats k)) → sum_by bytes_of seats ≡ 0
none_held [] h = refl
none_held (seat ∷ seats) h =
    let first = no_bytes seat (h 0) in
    let rest = none_held seats (λ k. h (suc k)) in
    sum_by-cons bytes_of seat seats ∙ omega (arith, first, rest)

pub too_many : (seats : List (Option Peer)) (place : Option ℕ) → MAX_REPLY_BYTES < bytes_held seats → IsSoonest seats Writing place → IsTooMany seats place
too_many seats None more is =
    let none = none_held seats is in
    absurd (omega (arith, none, more))
too_many seats (Some place) more is = (more, is)

mapped_next : {X : Type 0} (f : X → X) (xs : List X) (i : ℕ) (d : X) → i < length xs
    → set (map f (take i xs) ++ drop i xs) i (f (get_or (map f (take i xs) ++ drop i xs) i d)) ≡ map f (take (suc i) xs) ++ drop (suc i) xs
mapped_next f [] i d h = absurd (omega arith)
mapped_next f (x ∷ xs) zero d h = refl
mapped_next f (x ∷ xs) (suc i) d h = ap (λ l. f x ∷ l) (mapped_next f xs i d (omega arith))

-- one more of a list is mapped
pub mapped_more : {X : Type 0} (f : X → X) (xs : List X) (i : ℕ) (d v : X) (new : List X) → i < length xs
    → new ≡ map f (take i xs) ++ drop i xs → v ≡ f (get_or new i d) → set new i v ≡ map f (take (i + 1) xs) ++ drop (i + 1) xs
mapped_more f xs i d v new less so_far is =
    let next : suc i ≡ i + 1 = omega arith in
    ap (set new i) is ∙ ap (λ l. set l i (f (get_or l i d))) so_far ∙ mapped_next f xs i d less ∙ ap (λ n. map f (take n xs) ++ drop n xs) next

-- one fewer sits once one goes
pub fewer_sit : (seats : List (Option Peer)) (place : ℕ) (peer : Peer) → slice_get seats place ≡ Some (Some peer)
    → sum_by seat_count (set seats place None) < sum_by seat_count seats
fewer_sit seats place peer at =
    let sum = sum_by-set seat_count seats place None None (slice_get_within seats place (Some peer) at) in
    let one : seat_count (get_or seats place None) ≡ 1 = ap seat_count (get_or_from_slice_get seats place (Some peer) None at) in
    omega (arith, sum, one)

-- who isn't taking a reply sits as before once one goes that is
pub others_sit : (seats : List (Option Peer)) (place : ℕ) (peer : Peer) (k : ℕ) → slice_get seats place ≡ Some (Some peer)
    → is_among Writing peer.stage ≡ true → IsNoneOf Writing (slice_get seats k) → slice_get (set seats place None) k ≡ slice_get seats k
others_sit seats place peer k at is none = other_same seats place k None differs
  where
    differs : k ≡ place → ⊥
    differs e =
        let not : is_among Writing peer.stage ≡ false = subst (IsNoneOf Writing) (ap (slice_get seats) e ∙ at) none in
        true≢false (sym is ∙ not)

-- a place is as it was, or nobody is there any more, also once one goes
pub only_go : (seats old : List (Option Peer)) (place : ℕ) (peer : Peer) (k : ℕ) → slice_get seats place ≡ Some (Some peer)
    → (slice_get seats k ≡ slice_get old k) ⊎ (slice_get seats k ≡ Some None)
    → (slice_get (set seats place None) k ≡ slice_get old k) ⊎ (slice_get (set seats place None) k ≡ Some None)
only_go seats old place peer k at was = by_place (nat_eq k place) refl
  where
    by_place : (t : Bool) → nat_eq k place ≡ t
        → (slice_get (set seats place None) k ≡ slice_get old k) ⊎ (slice_get (set seats place None) k ≡ Some None)
    by_place true e =
        let same : k ≡ place = grind (arith, nat_tests) in
        inr (ap (slice_get (set seats place None)) same ∙ here_set seats place None (Some peer) at)
    by_place false e =
        let other : k ≡ place → ⊥ = λ (s : k ≡ place). absurd (grind (arith, nat_tests)) in
        is_or_gone (slice_get seats k) (slice_get old k) _ was (other_same seats place k None other)
