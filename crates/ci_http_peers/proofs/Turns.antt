-- Places of a table, and what one turn after another leaves of them.
use Rattle.std.proofs.Common.{◌≡◌, ◌≢◌, ◌⊎◌, ℕ, zero, suc, ◌+◌, ◌<◌, ◌≤◌, Bool, true, false, List, [], ◌∷◌, ◌++◌, take, drop, set, get_or, length, refl, sym, ◌∙◌, ap, subst, inl}
use Rattle.std.proofs.Common.{inr, arith, Option, Some, None, Result, Ok, Err, OnOk, slice_get}
use Rattle.std.specs.declared.io.Error.{Error}
use Rattle.ci_http_peers.specs.declared.peer.Stage.{Stage}
use Rattle.ci_http_peers.specs.declared.chair.Step.{Step}
use Rattle.ci_http_peers.specs.Peer.{is_among}
use Rattle.ci_http_peers.specs.Connections.{Reads}
use Rattle.std.proofs.Math.Seq.{take-append_seam}
use Rattle.std.proofs.lemmas.Bool.{true≢false}
use Rattle.std.proofs.lemmas.Option.{slice_get-get_or, get_or_from_slice_get, slice_get_within}
use Rattle.ci_http_peers.specs.declared.chair.Chair.{Chair}
use Rattle.ci_http_peers.specs.declared.peer.Peer.{Peer}
use Rattle.ci_http_peers.specs.declared.peer.Among.{Among}
use Rattle.ci_http_peers.specs.declared.peer.Among.TheVariants.{Reading, Writing}
use Rattle.ci_http_peers.specs.Peers.{IsNext, IsNoneOf}
use Rattle.ci_http_peers.specs.Turns.{AnswersHere, CallsAt, is_at, IsGone, SameBut, StaysOrYields, GoesOn, Answers, AnswersLast, AnswersOnce, AnswersOne, IsHeard, Begins, Finishes, Replies, cleared, cleared_at, reads_since, writes_since, ends_since}

-- another place is as before once one is written
pub other_same : {A : Type 0} (xs : List A) (place k : ℕ) (v : A) → k ≢ place → slice_get (set xs place v) k ≡ slice_get xs k
other_same [] place k v other = refl
other_same (x ∷ xs) zero zero v other = absurd (other refl)
other_same (x ∷ xs) zero (suc k) v other = refl
other_same (x ∷ xs) (suc place) zero v other = refl
other_same (x ∷ xs) (suc place) (suc k) v other = other_same xs place k v (λ e. other (ap suc e))

-- a place that is there has what is written
pub here_set : {A : Type 0} (xs : List A) (place : ℕ) (v x : A) → slice_get xs place ≡ Some x → slice_get (set xs place v) place ≡ Some v
here_set [] place v x at = absurd (cc)
here_set (y ∷ xs) zero v x at = refl
here_set (y ∷ xs) (suc place) v x at = here_set xs place v x at

-- who is read at a place is who is there
pub same_item : {A : Type 0} (xs : List (Option A)) (place : ℕ) (v : Option A) (a b : A) → get_or xs place v ≡ Some a
    → slice_get xs place ≡ Some (Some b) → a ≡ b
same_item xs place v a b is at =
    let got : get_or xs place v ≡ Some b = get_or_from_slice_get xs place (Some b) v at in
    let same : Some a ≡ Some b = sym is ∙ got in
    cc

pub no_item : {A : Type 0} (xs : List (Option A)) (place : ℕ) (v : Option A) (b : A) → get_or xs place v ≡ None
    → slice_get xs place ≡ Some (Some b) → ⊥
no_item xs place v b is at =
    let got : get_or xs place v ≡ Some b = get_or_from_slice_get xs place (Some b) v at in
    let same : None ≡ Some b = sym is ∙ got in
    absurd (cc)

pub none_past : {A : Type 0} (xs : List A) (place : ℕ) (v : A) → length xs ≤ place → slice_get xs place ≡ Some v → ⊥
none_past xs place v past at =
    let within : place < length xs = slice_get_within xs place v at in
    absurd (omega (arith, past, within))

-- of a place that has something at it
pub not_gone : {A : Type 0} (xs : List (Option A)) (place : ℕ) (v : Option A) (a : A) → place < length xs → get_or xs place v ≡ Some a → IsGone (slice_get xs place) → ⊥
not_gone xs place v a less is gone = subst IsGone (slice_get-get_or xs place v less ∙ ap Some is) gone

pub same_there : {A : Type 0} (seat : Option (Option A)) (a b : A) → seat ≡ Some (Some a) → seat ≡ Some (Some b) → a ≡ b
same_there seat a b one other = let both : Some (Some a) ≡ Some (Some b) = sym one ∙ other in cc

-- who was found at a place sits there
pub found_at : {A : Type 0} (xs ys : List (Option A)) (place : ℕ) (v : Option A) (a : A) → ys ≡ xs → place < length ys → v ≡ get_or ys place v → v ≡ Some a
    → slice_get xs place ≡ Some (Some a)
found_at xs ys place v a same less read is =
    ap (λ l. slice_get l place) (sym same) ∙ slice_get-get_or ys place v less ∙ ap Some (sym read ∙ is)

-- a list after a slice of it was written
pub written_back : {A : Type 0} (new old : List A) (n : ℕ) → length new ≡ n → take n (new ++ drop (length new) old) ≡ new
written_back new old n e = ap (λ m. take m (new ++ drop (length new) old)) (sym e) ∙ take-append_seam new (drop (length new) old)

-- a list after a slice of it was written: as the slice was, but for one place; or as one place of it was set
pub back_same_but : {A : Type 0} (old shown new : List A) (n place : ℕ) → length new ≡ length shown → length shown ≡ n → shown ≡ old → SameBut place shown new
    → SameBut place old (take n (new ++ drop (length new) old))
back_same_but old shown new n place kept len same others k other =
    ap (λ l. slice_get l k) (written_back new old n (kept ∙ len)) ∙ others k other ∙ ap (λ l. slice_get l k) same

pub back_set : {A : Type 0} (old shown new : List A) (n place : ℕ) (v : A) → length new ≡ length shown → length shown ≡ n → shown ≡ old → new ≡ set shown place v
    → take n (new ++ drop (length new) old) ≡ set old place v
back_set old shown new n place v kept len same is = written_back new old n (kept ∙ len) ∙ is ∙ ap (λ l. set l place v) same

-- nothing is at a place from which it was taken
pub gone_here : {A : Type 0} (xs : List (Option A)) (place : ℕ) → IsGone (slice_get (set xs place None) place)
gone_here [] place = tt
gone_here (x ∷ xs) zero = tt
gone_here (x ∷ xs) (suc place) = gone_here xs place

-- nobody is among these at a place where nobody is among these sits down
pub not_at_set : (a : Among) (xs : List (Option Peer)) (place : ℕ) (v : Option Peer) → is_at a (Some v) ≡ false → is_at a (slice_get (set xs place v) place) ≡ false
not_at_set a [] place v is = refl
not_at_set a (x ∷ xs) zero v is = is
not_at_set a (x ∷ xs) (suc place) v is = not_at_set a xs place v is

-- who is among these sits
pub seated : (a : Among) (seat : Option (Option Peer)) → is_at a seat ≡ true → (peer : Peer) × (seat ≡ Some (Some peer))
seated a None is = absurd (true≢false (sym is))
seated a (Some None) is = absurd (true≢false (sym is))
seated a (Some (Some peer)) is = (peer, refl)

gone_not_at : (a : Among) (seat : Option (Option Peer)) → IsGone seat → is_at a seat ≡ true → ⊥
gone_not_at a None gone is = true≢false (sym is)
gone_not_at a (Some None) gone is = true≢false (sym is)
gone_not_at a (Some (Some peer)) gone is = gone

-- one turn, and another at the same moment
pub goes_on_twice : (now patience : ℕ) (a b c : Option (Option Peer)) → GoesOn now patience a b → GoesOn now patience b c → GoesOn now patience a c
goes_on_twice now patience a b c first (inl gone) = inl gone
goes_on_twice now patience a b c first (inr (inl same)) = subst (GoesOn now patience a) (sym same) first
goes_on_twice now patience a b c (inl gone) (inr (inr (inl (is, more, since)))) = absurd (gone_not_at Reading b gone is)
goes_on_twice now patience a b c (inr (inl same)) (inr (inr (inl (is, more, since)))) = inr (inr (inl (ap (is_at Reading) (sym same) ∙ is, more, since)))
goes_on_twice now patience a b c (inr (inr (inl (was, bytes, e)))) (inr (inr (inl (is, more, since)))) = absurd (true≢false (sym is ∙ ap (is_at Reading) e))
goes_on_twice now patience a b c (inr (inr (inr (was, e)))) (inr (inr (inl (is, more, since)))) = absurd (true≢false (sym is ∙ ap (is_at Reading) e))
goes_on_twice now patience a b c (inl gone) (inr (inr (inr (inl is, e)))) = absurd (gone_not_at Reading b gone is)
goes_on_twice now patience a b c (inl gone) (inr (inr (inr (inr is, e)))) = absurd (gone_not_at Writing b gone is)
goes_on_twice now patience a b c (inr (inl same)) (inr (inr (inr (inl is, e)))) = inr (inr (inr (inl (ap (is_at Reading) (sym same) ∙ is), e)))
goes_on_twice now patience a b c (inr (inl same)) (inr (inr (inr (inr is, e)))) = inr (inr (inr (inr (ap (is_at Writing) (sym same) ∙ is), e)))
goes_on_twice now patience a b c (inr (inr (inl (was, bytes, since)))) (inr (inr (inr (is, e)))) = inr (inr (inr (inl was, e)))
goes_on_twice now patience a b c (inr (inr (inr (was, since)))) (inr (inr (inr (is, e)))) = inr (inr (inr (was, e)))

-- what stays as before, and then stays or yields
pub stays_after : {C : Type 0} (seats : List (Option Peer)) (chairs : List (Option C)) (mid : List (Option Peer)) (mids : List (Option C))
    (new : List (Option Peer)) (news : List (Option C)) (k : ℕ) → slice_get mid k ≡ slice_get seats k → slice_get mids k ≡ slice_get chairs k
    → StaysOrYields mid mids new news k → StaysOrYields seats chairs new news k
stays_after seats chairs mid mids new news k seat chair (inl (s, c)) = inl (s ∙ seat, c ∙ chair)
stays_after seats chairs mid mids new news k seat chair (inr (inl none, gone, shut)) = inr (inl (subst IsGone seat none), gone, shut)
stays_after seats chairs mid mids new news k seat chair (inr (inr is, gone, shut)) = inr (inr (ap (is_at Writing) (sym seat) ∙ is), gone, shut)

-- requests that are answered, and more of them
answers_append : {T : Type 0} (answers : List ℕ → T → T → Option (List ℕ) → Type 0) (xs ys : List (List ℕ)) (a b c : T)
    → Answers answers xs a b → Answers answers ys b c → Answers answers (xs ++ ys) a c
answers_append answers [] ys a b c first second = subst (λ t. Answers answers ys t c) first second
answers_append answers (x ∷ xs) ys a b c (mid, one, first) second = (mid, one, answers_append answers xs ys mid b c first second)

pub more_answers : {T : Type 0} (answers : List ℕ → T → T → Option (List ℕ) → Type 0) (a b c : T)
    → ((xs : List (List ℕ)) × Answers answers xs a b) → ((ys : List (List ℕ)) × Answers answers ys b c) → (zs : List (List ℕ)) × Answers answers zs a c
more_answers answers a b c (xs, first) (ys, second) = (xs ++ ys, answers_append answers xs ys a b c first second)

-- the connections of one place more are cleared
pub cleared_more : {C : Type 0} (seats : List (Option Peer)) (chairs : List (Option C)) (i : ℕ) (seat : Option Peer) → slice_get seats i ≡ Some seat
    → cleared (take (suc i) seats) chairs ≡ cleared_at seat i (cleared (take i seats) chairs)
cleared_more [] chairs i seat at = absurd (cc)
cleared_more (None ∷ seats) [] zero None at = refl
cleared_more (None ∷ seats) (c ∷ chairs) zero None at = refl
cleared_more (None ∷ seats) chairs zero (Some peer) at = absurd (cc)
cleared_more (Some p ∷ seats) chairs zero None at = absurd (cc)
cleared_more (Some p ∷ seats) [] zero (Some peer) at = refl
cleared_more (Some p ∷ seats) (c ∷ chairs) zero (Some peer) at = refl
cleared_more (None ∷ seats) [] (suc i) None at = refl
cleared_more (Some p ∷ seats) [] (suc i) None at = refl
cleared_more (None ∷ seats) [] (suc i) (Some peer) at = refl
cleared_more (Some p ∷ seats) [] (suc i) (Some peer) at = refl
cleared_more (None ∷ seats) (c ∷ chairs) (suc i) None at = ap (λ l. None ∷ l) (cleared_more seats chairs i None at)
cleared_more (None ∷ seats) (c ∷ chairs) (suc i) (Some peer) at = ap (λ l. None ∷ l) (cleared_more seats chairs i (Some peer) at)
cleared_more (Some p ∷ seats) (c ∷ chairs) (suc i) None at = ap (λ l. c ∷ l) (cleared_more seats chairs i None at)
cleared_more (Some p ∷ seats) (c ∷ chairs) (suc i) (Some peer) at = ap (λ l. c ∷ l) (cleared_more seats chairs i (Some peer) at)

-- the same, as a loop goes on
pub cleared_next : {C : Type 0} (seats : List (Option Peer)) (chairs : List (Option C)) (i : ℕ) (d : Option Peer) → i < length seats
    → cleared (take (i + 1) seats) chairs ≡ cleared_at (get_or seats i d) i (cleared (take i seats) chairs)
cleared_next seats chairs i d less =
    let next : i + 1 ≡ suc i = omega arith in
    ap (λ n. cleared (take n seats) chairs) next ∙ cleared_more seats chairs i (get_or seats i d) (slice_get-get_or seats i d less)

-- where nobody sits there is no connection then, and any other is as before
pub cleared_gets : {C : Type 0} (seats : List (Option Peer)) (chairs : List (Option C)) (k : ℕ) → slice_get seats k ≡ Some None
    → IsGone (slice_get (cleared seats chairs) k)
cleared_gets [] chairs k at = absurd (cc)
cleared_gets (s ∷ seats) [] k at = tt
cleared_gets (None ∷ seats) (c ∷ chairs) zero at = tt
cleared_gets (Some p ∷ seats) (c ∷ chairs) zero at = absurd (cc)
cleared_gets (None ∷ seats) (c ∷ chairs) (suc k) at = cleared_gets seats chairs k at
cleared_gets (Some p ∷ seats) (c ∷ chairs) (suc k) at = cleared_gets seats chairs k at

pub cleared_keeps : {C : Type 0} (seats : List (Option Peer)) (chairs : List (Option C)) (k : ℕ) → (slice_get seats k ≡ Some None → ⊥)
    → slice_get (cleared seats chairs) k ≡ slice_get chairs k
cleared_keeps [] chairs k taken = refl
cleared_keeps (s ∷ seats) [] k taken = refl
cleared_keeps (None ∷ seats) (c ∷ chairs) zero taken = absurd (taken refl)
cleared_keeps (Some p ∷ seats) (c ∷ chairs) zero taken = refl
cleared_keeps (None ∷ seats) (c ∷ chairs) (suc k) taken = cleared_keeps seats chairs k taken
cleared_keeps (Some p ∷ seats) (c ∷ chairs) (suc k) taken = cleared_keeps seats chairs k taken

-- a place that is as it was, or where nobody is, once more
pub is_or_gone : {A : Type 0} (a b c : Option (Option A)) → (a ≡ b) ⊎ (a ≡ Some None) → c ≡ a → (c ≡ b) ⊎ (c ≡ Some None)
is_or_gone a b c (inl same) e = inl (e ∙ same)
is_or_gone a b c (inr gone) e = inr (e ∙ gone)

is_taken : (seat : Option (Option Peer)) → (seat ≡ Some None) ⊎ (seat ≡ Some None → ⊥)
is_taken None = inr (λ e. absurd (cc))
is_taken (Some None) = inl refl
is_taken (Some (Some peer)) = inr (λ e. absurd (cc))

is_writing : (seat : Option (Option Peer)) → (is_at Writing seat ≡ true) ⊎ (is_at Writing seat ≡ false)
is_writing seat = by (is_at Writing seat) refl
  where
    by : (t : Bool) → is_at Writing seat ≡ t → (is_at Writing seat ≡ true) ⊎ (is_at Writing seat ≡ false)
    by true e = inl e
    by false e = inr e

none_of : (seat : Option (Option Peer)) → is_at Writing seat ≡ false → IsNoneOf Writing seat
none_of None is = tt
none_of (Some None) is = tt
none_of (Some (Some peer)) is = is

-- once those have yielded who were taking a reply, each place is as it was, or was yielded
pub yields : {C : Type 0} (seats new : List (Option Peer)) (chairs : List (Option C)) (k : ℕ)
    → (IsNoneOf Writing (slice_get seats k) → slice_get new k ≡ slice_get seats k)
    → (slice_get new k ≡ slice_get seats k) ⊎ (slice_get new k ≡ Some None)
    → StaysOrYields seats chairs new (cleared new chairs) k
yields seats new chairs k others only = by_taken (is_taken (slice_get new k)) (is_writing (slice_get seats k)) only
  where
    by_taken : (slice_get new k ≡ Some None) ⊎ (slice_get new k ≡ Some None → ⊥) → (is_at Writing (slice_get seats k) ≡ true) ⊎ (is_at Writing (slice_get seats k) ≡ false)
        → (slice_get new k ≡ slice_get seats k) ⊎ (slice_get new k ≡ Some None) → StaysOrYields seats chairs new (cleared new chairs) k
    by_taken (inl none) (inl was) o = inr (inr was, subst IsGone (sym none) tt, cleared_gets new chairs k none)
    by_taken (inl none) (inr not) o =
        let same : slice_get new k ≡ slice_get seats k = others (none_of (slice_get seats k) not) in
        inr (inl (subst IsGone (sym none ∙ same) tt), subst IsGone (sym none) tt, cleared_gets new chairs k none)
    by_taken (inr taken) w (inl same) = inl (same, cleared_keeps new chairs k taken)
    by_taken (inr taken) w (inr gone) = absurd (taken gone)

pub same_but_set : {A : Type 0} (xs ys : List A) (place : ℕ) (v : A) → ys ≡ set xs place v → SameBut place xs ys
same_but_set xs ys place v is k other = ap (λ l. slice_get l k) is ∙ other_same xs place k v other

begins_same : (now patience place : ℕ) (seats new : List (Option Peer)) → Begins now patience place seats new → SameBut place seats new
begins_same now patience place seats new (inl same) k other = ap (λ l. slice_get l k) same
begins_same now patience place seats new (inr (inl gone)) k other = same_but_set seats new place None gone k other
begins_same now patience place seats new (inr (inr (bytes, is))) k other = same_but_set seats new place _ is k other

finishes_same : (now place : ℕ) (seats new : List (Option Peer)) → Finishes now place seats new → SameBut place seats new
finishes_same now place seats new (inl same) k other = ap (λ l. slice_get l k) same
finishes_same now place seats new (inr is) k other = same_but_set seats new place _ is k other

begins_at : (now patience place : ℕ) (seats new : List (Option Peer)) → is_at Reading (slice_get seats place) ≡ true
    → Begins now patience place seats new → GoesOn now patience (slice_get seats place) (slice_get new place)
begins_at now patience place seats new is (inl same) = inr (inl (ap (λ l. slice_get l place) same))
begins_at now patience place seats new is (inr (inl gone)) =
    inl (subst (λ l. IsGone (slice_get l place)) (sym gone) (gone_here seats place))
begins_at now patience place seats new is (inr (inr (bytes, since))) =
    let (peer, at) = seated Reading (slice_get seats place) is in
    inr (inr (inl (is, bytes, ap (λ l. slice_get l place) since ∙ here_set seats place (Some (writes_since now patience bytes)) (Some peer) at)))

finishes_at : (now patience place : ℕ) (seats new : List (Option Peer)) → is_at Writing (slice_get seats place) ≡ true
    → Finishes now place seats new → GoesOn now patience (slice_get seats place) (slice_get new place)
finishes_at now patience place seats new is (inl same) = inr (inl (ap (λ l. slice_get l place) same))
finishes_at now patience place seats new is (inr since) =
    let (peer, at) = seated Writing (slice_get seats place) is in
    inr (inr (inr (inr is, ap (λ l. slice_get l place) since ∙ here_set seats place (Some (ends_since now)) (Some peer) at)))

-- a call that left the peers as they were, and then the answer to a request that was whole
pub begins_goes_on : (now patience mid_patience place : ℕ) (seats mid new : List (Option Peer)) → mid ≡ seats → mid_patience ≡ patience
    → is_at Reading (slice_get seats place) ≡ true → Begins now mid_patience place mid new → GoesOn now patience (slice_get seats place) (slice_get new place)
begins_goes_on now patience mid_patience place seats mid new same p is begins =
    begins_at now patience place seats new is (subst (λ q. Begins now q place seats new) p (subst (λ l. Begins now mid_patience place l new) same begins))

pub begins_same_but : (now patience place : ℕ) (seats mid new : List (Option Peer)) → mid ≡ seats → Begins now patience place mid new → SameBut place seats new
begins_same_but now patience place seats mid new same begins = begins_same now patience place seats new (subst (λ l. Begins now patience place l new) same begins)

-- and then the end of a reply that went
pub finishes_goes_on : (now patience place : ℕ) (seats mid new : List (Option Peer)) → mid ≡ seats → is_at Writing (slice_get seats place) ≡ true
    → Finishes now place mid new → GoesOn now patience (slice_get seats place) (slice_get new place)
finishes_goes_on now patience place seats mid new same is finishes = finishes_at now patience place seats new is (subst (λ l. Finishes now place l new) same finishes)

pub finishes_same_but : (now place : ℕ) (seats mid new : List (Option Peer)) → mid ≡ seats → Finishes now place mid new → SameBut place seats new
finishes_same_but now place seats mid new same finishes = finishes_same now place seats new (subst (λ l. Finishes now place l new) same finishes)

-- places that one call leaves, and another
pub same_but_twice : {A : Type 0} (place : ℕ) (xs ys zs : List A) → SameBut place xs ys → SameBut place ys zs → SameBut place xs zs
same_but_twice place xs ys zs first second k other = second k other ∙ first k other

-- a request that was answered isn't to come any more
pub replied : {W : Type 0} (now patience place : ℕ) (chair : Chair W) (text : Option (List ℕ)) (seats : List (Option Peer)) (chairs : List (Option (Chair W)))
    (new : List (Option Peer)) (news : List (Option (Chair W))) → Replies now patience place chair text seats chairs new news
    → is_at Reading (slice_get new place) ≡ false
replied now patience place chair None seats chairs new news (gone, rest) =
    ap (λ l. is_at Reading (slice_get l place)) gone ∙ not_at_set Reading seats place None refl
replied now patience place chair (Some text) seats chairs new news (since, rest) =
    ap (λ l. is_at Reading (slice_get l place)) since ∙ not_at_set Reading seats place (Some (writes_since now patience (length text))) refl

-- another turn at the same moment
pub goes_on_more : (now p q : ℕ) (a b c : Option (Option Peer)) → GoesOn now p a b → q ≡ p → GoesOn now q b c → GoesOn now p a c
goes_on_more now p q a b c first same second = goes_on_twice now p a b c first (subst (λ r. GoesOn now r b c) same second)

reading_before : (now p : ℕ) (a b : Option (Option Peer)) → GoesOn now p a b → is_at Reading b ≡ true → is_at Reading a ≡ true
reading_before now p a b (inl gone) is = absurd (gone_not_at Reading b gone is)
reading_before now p a b (inr (inl same)) is = ap (is_at Reading) (sym same) ∙ is
reading_before now p a b (inr (inr (inl (was, bytes, e)))) is = was
reading_before now p a b (inr (inr (inr (was, e)))) is = absurd (true≢false (sym is ∙ ap (is_at Reading) e))

none_after : (now p : ℕ) (b c : Option (Option Peer)) (t : Bool) → is_at Reading c ≡ t → GoesOn now p b c → is_at Reading b ≡ false → is_at Reading c ≡ false
none_after now p b c false e on is = e
none_after now p b c true e on is = absurd (true≢false (sym (reading_before now p b c on e) ∙ is))

-- one request at most is answered in one turn and another
pub answers_last_more : (W : Type 0) {T : Type 0} (answers : List ℕ → T → T → Option (List ℕ) → Type 0) (now p : ℕ) (a b c : Option (Option Peer)) (s t u : T)
    → GoesOn now p a b → GoesOn now p b c → AnswersLast W answers a b s t → AnswersLast W answers b c t u → AnswersLast W answers a c s u
answers_last_more W answers now p a b c s t u on more (inl same) (inl still) = inl (still ∙ same)
answers_last_more W answers now p a b c s t u on more (inl same) (inr (is, not, chair, text, one)) =
    inr (reading_before now p a b on is, not, chair, text, subst (λ o. AnswersOne {W = W} answers o u chair text) same one)
answers_last_more W answers now p a b c s t u on more (inr (was, not, chair, text, one)) (inl still) =
    inr (was, none_after now p b c (is_at Reading c) refl more not, chair, text, subst (λ n. AnswersOne {W = W} answers s n chair text) (sym still) one)
answers_last_more W answers now p a b c s t u on more (inr (was, not, chair, text, one)) (inr (is, never, other, words, rest)) = absurd (true≢false (sym is ∙ not))

pub answers_once_more : (W : Type 0) {T : Type 0} (answers : List ℕ → T → T → Option (List ℕ) → Type 0) (now p : ℕ) (a b : Option (Option Peer)) (s t u : T)
    → GoesOn now p a b → AnswersLast W answers a b s t → AnswersOnce W answers b t u → AnswersOnce W answers a s u
answers_once_more W answers now p a b s t u on (inl same) (inl still) = inl (still ∙ same)
answers_once_more W answers now p a b s t u on (inl same) (inr (is, chair, text, one)) =
    inr (reading_before now p a b on is, chair, text, subst (λ o. AnswersOne {W = W} answers o u chair text) same one)
answers_once_more W answers now p a b s t u on (inr (was, not, chair, text, one)) (inl still) =
    inr (was, chair, text, subst (λ n. AnswersOne {W = W} answers s n chair text) (sym still) one)
answers_once_more W answers now p a b s t u on (inr (was, not, chair, text, one)) (inr (is, other, words, rest)) = absurd (true≢false (sym is ∙ not))

pub answers_once : (W : Type 0) {T : Type 0} (answers : List ℕ → T → T → Option (List ℕ) → Type 0) (a b : Option (Option Peer)) (s t : T)
    → AnswersLast W answers a b s t → AnswersOnce W answers a s t
answers_once W answers a b s t (inl same) = inl same
answers_once W answers a b s t (inr (was, not, chair, text, one)) = inr (was, chair, text, one)

-- a request that was answered, as a list
pub as_answers : (W : Type 0) {T : Type 0} (answers : List ℕ → T → T → Option (List ℕ) → Type 0) (a : Option (Option Peer)) (s t : T)
    → AnswersOnce W answers a s t → (requests : List (List ℕ)) × Answers answers requests s t
as_answers W answers a s t (inl same) = ([], same)
as_answers W answers a s t (inr (was, chair, text, one)) = (chair.bytes.items ∷ [], (t, (text, one.1), refl))

-- what other places are, after turns of one peer that then leaves
pub others_leave : {C : Type 0} (place : ℕ) (seats mid new : List (Option Peer)) (chairs mids news : List (Option C)) → SameBut place seats mid → SameBut place chairs mids
    → new ≡ set mid place None → news ≡ set mids place None → (k : ℕ) → k ≢ place → StaysOrYields seats chairs new news k
others_leave place seats mid new chairs mids news seat chair gone shut k other =
    inl (same_but_set mid new place None gone k other ∙ seat k other, same_but_set mids news place None shut k other ∙ chair k other)

pub gone_at : {A : Type 0} (xs new : List (Option A)) (place : ℕ) → new ≡ set xs place None → IsGone (slice_get new place)
gone_at xs new place is = subst (λ l. IsGone (slice_get l place)) (sym is) (gone_here xs place)

pub unheard_none : {W : Type 0} (chair : Option (Option (Chair W))) → IsGone chair → IsHeard chair
unheard_none None gone = tt
unheard_none (Some None) gone = tt
unheard_none (Some (Some chair)) gone = absurd gone

pub some_step : {A : Type 0} (b : Bool) (r : Option A) (x y : A) → (b ≡ true → r ≡ Some x) → (b ≡ false → r ≡ Some y) → r ≡ None → ⊥
some_step true r x y a w is = let e : Some x ≡ None = sym (a refl) ∙ is in absurd (cc)
some_step false r x y a w is = let e : Some y ≡ None = sym (w refl) ∙ is in absurd (cc)

-- of one place, once it was asked to be heard of and others yielded
pub here_waits : (old mid made new : List (Option Peer)) (place : ℕ) → IsGone (slice_get mid place) ⊎ (mid ≡ old)
    → (slice_get made place ≡ slice_get mid place) ⊎ (slice_get made place ≡ Some None) → new ≡ made
    → IsGone (slice_get new place) ⊎ (slice_get new place ≡ slice_get old place)
here_waits old mid made new place (inl gone) (inl same) is = inl (subst IsGone (sym (ap (λ l. slice_get l place) is ∙ same)) gone)
here_waits old mid made new place (inr e) (inl same) is = inr (ap (λ l. slice_get l place) is ∙ same ∙ ap (λ l. slice_get l place) e)
here_waits old mid made new place first (inr none) is = inl (subst IsGone (sym (ap (λ l. slice_get l place) is ∙ none)) tt)

pub cleared_heard : {W : Type 0} (seats : List (Option Peer)) (chairs : List (Option (Chair W))) (k : ℕ) → IsHeard (slice_get chairs k)
    → IsHeard (slice_get (cleared seats chairs) k)
cleared_heard {W} seats chairs k heard = by_taken (is_taken (slice_get seats k))
  where
    by_taken : (slice_get seats k ≡ Some None) ⊎ (slice_get seats k ≡ Some None → ⊥) → IsHeard (slice_get (cleared seats chairs) k)
    by_taken (inl none) = unheard_none _ (cleared_gets seats chairs k none)
    by_taken (inr taken) = subst IsHeard (sym (cleared_keeps seats chairs k taken)) heard

-- the next place is there
next_there : (seats : List (Option Peer)) (p : ℕ) → IsNext seats (Some p) → (x : Option Peer) × (slice_get seats p ≡ Some x)
next_there seats p (inl (q, e, free)) = let same : p ≡ q = cc in (None, ap (slice_get seats) same ∙ free)
next_there seats p (inr (full, inl (q, e, soon))) = let same : p ≡ q = cc in (Some soon.0, ap (slice_get seats) same ∙ soon.1)
next_there seats p (inr (full, inr (none, soon))) = (Some soon.0, soon.1)

-- who sat down at the next place, and went on
pub seated_goes_on : (now p q r place k : ℕ) (mid seats : List (Option Peer)) (peer : Peer) (new : List (Option Peer)) → IsNext mid (Some place) → seats ≡ set mid place (Some peer)
    → peer ≡ reads_since now q → q ≡ p → r ≡ p → GoesOn now r (slice_get seats place) (slice_get new place) → Some place ≡ Some k
    → GoesOn now p (Some (Some (reads_since now p))) (slice_get new k)
seated_goes_on now p q r place k mid seats peer new next is reads first second on at =
    let (x, there) = next_there mid place next in
    let since : peer ≡ reads_since now p = reads ∙ ap (reads_since now) first in
    let sits : slice_get seats place ≡ Some (Some (reads_since now p)) =
    ap (λ l. slice_get l place) is ∙ here_set mid place (Some peer) x there ∙ ap (λ o. Some (Some o)) since in
    let same : place ≡ k = cc in
    subst (λ j. GoesOn now p (Some (Some (reads_since now p))) (slice_get new j)) same
    (subst (λ s. GoesOn now p s (slice_get new place)) sits (subst (λ o. GoesOn now o (slice_get seats place) (slice_get new place)) second on))

pub on_ok : {A E P : Type 0} (r : Result A E) → P → OnOk r P
on_ok (Ok x) p = p
on_ok (Err e) p = tt

-- a call by which a request came whole was one that takes bytes of it
whole_reads : {W : Type 0} (says : List ℕ → Option ℕ → Type 0) (receives : W → W → Result ℕ Error → List ℕ → Type 0) (sends : W → List ℕ → W → Result ℕ Error → Type 0)
    (st : Stage) (old new : Chair W) (s : Step) → is_among Reading st ≡ true → CallsAt says receives sends st old new s
    → (got : Result ℕ Error) × (buffer : List ℕ) × receives old.wire new.wire got buffer × Reads old new s says got buffer
whole_reads says receives sends Stage.Reading old new s is calls = calls
whole_reads says receives sends (Stage.Writing bytes) old new s is calls = absurd (true≢false (sym is))
whole_reads says receives sends Stage.Ending old new s is calls = absurd (true≢false (sym is))

there : {A : Type 0} (seat : Option (Option A)) → (IsGone seat → ⊥) → (x : A) × (seat ≡ Some (Some x))
there None not = absurd (not tt)
there (Some None) not = absurd (not tt)
there (Some (Some x)) not = (x, refl)

-- of a place whose request came whole by a call: what was answered are the bytes of its connection
pub answers_here : {W T : Type 0} (says : List ℕ → Option ℕ → Type 0) (receives : W → W → Result ℕ Error → List ℕ → Type 0) (sends : W → List ℕ → W → Result ℕ Error → Type 0)
    (answers : List ℕ → T → T → Option (List ℕ) → Type 0) (seat : Option (Option Peer)) (chair : Option (Option (Chair W))) (after : Option (Option (Chair W))) (s : Step)
    (new : Chair W) (text : Option (List ℕ)) (old_subject new_subject : T) → s ≡ Step.Whole → is_at Reading seat ≡ true → (IsGone chair → s ≡ Step.Over) → after ≡ Some (Some new)
    → ((peer : Peer) → (old : Chair W) → seat ≡ Some (Some peer) → chair ≡ Some (Some old)
    → (x : Chair W) × (after ≡ Some (Some x)) × CallsAt says receives sends peer.stage old x s)
    → answers new.bytes.items old_subject new_subject text → AnswersHere says receives answers chair old_subject new_subject
answers_here {W} says receives sends answers seat chair after s new text t u whole reads none at calls said =
    let gone : IsGone chair → ⊥ = λ g. let e : Step.Over ≡ Step.Whole = sym (none g) ∙ whole in absurd (cc) in
    let (old, was) = there chair gone in
    let (peer, sits) = seated Reading seat reads in
    let (x, is, call) = calls peer old sits was in
    let both : Some (Some x) ≡ Some (Some new) = sym is ∙ at in
    let same : x ≡ new = cc in
    let reading : is_among Reading peer.stage ≡ true = ap (is_at Reading) (sym sits) ∙ reads in
    let called : CallsAt says receives sends peer.stage old new Step.Whole =
    subst (λ n. CallsAt says receives sends peer.stage old n Step.Whole) same (subst (λ r. CallsAt says receives sends peer.stage old x r) whole call) in
    inr (old, new, text, was, whole_reads says receives sends peer.stage old new Step.Whole reading called, said)
