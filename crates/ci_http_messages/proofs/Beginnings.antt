-- What a text is depends on the bytes that are taken, and a beginning of these is no request.
use Rattle.std.proofs.Common.{◌≡◌, ℕ, ◌<◌, ◌≤◌, Bool, true, false, List, [], ◌∷◌, ◌++◌, length, take, drop, refl, sym, ◌∙◌, ap, subst, arith, length-append, length-take}
use Rattle.std.proofs.Common.{length-take-le, append_assoc, take-append-drop, inl, inr, ◌⊎◌, nat_lt, if◌then◌else◌, Option, Some, None, Result, Ok, Err, count_by}
use Rattle.std.proofs.lemmas.List.{append_cancel_right, take-take}
use Rattle.std.proofs.lemmas.Bool.{ltb-false}
use Rattle.ci_machine.specs.declared.reply.Code.{Code}
use Rattle.ci_machine.specs.declared.reply.Code.TheVariants.{H1, H2}
use Rattle.ci_http_messages.specs.Prelude.{body_length, Head, IsHeadOf, Opening, short, too_large, opened, opening_at, opening_of, head_len, is_line_feed, Message, message}
use Rattle.ci_http_messages.specs.Prelude.{Reading, ended, refused, request, reading_by, reading_after, IsReadingAt, IsReading, MAX_HEAD_BYTES, MAX_HEAD_LINES}
use Rattle.ci_http_messages.proofs.Heads.{head_len-bounds, head_len-front, opening-front, opening-long}
use Rattle.ci_http_messages.proofs.Walks.{cases}
use Rattle.ci_http_messages.proofs.Readings.{after_body, by_few, by_enough, reading_ended}

-- the text has a front that opens it alike, whatever follows
abbrev pub Cuts : List ℕ → (List ℕ → Opening) → Type 0
Cuts bytes opening =
    (front : List ℕ) × (rest : List ℕ) × (bytes ≡ front ++ rest)
    × ((other : List ℕ) → opening_of (front ++ other) ≡ (opening front, other))

abbrev pub Opens : List ℕ → Type 0
Opens bytes = (opening_of bytes ≡ (short, [])) ⊎ (Cuts bytes (λ front. too_large) ⊎ Cuts bytes opened)

length_take_most : (n : ℕ) (l : List ℕ) → (length (take n l) ≤ n) × (length (take n l) ≤ length l)
length_take_most n l = (omega (arith, length-take n l), omega (arith, length-take n l))

opens_by : (bytes : List ℕ) (o : Option ℕ) → head_len (take MAX_HEAD_BYTES bytes) ≡ o → Opens bytes
opens_by bytes None e =
    cases (nat_lt (length bytes) MAX_HEAD_BYTES) (λ p. inl (ap (opening_at bytes) e ∙ ap (λ t. if t then (short, []) else (too_large, drop MAX_HEAD_BYTES bytes)) p))
    (λ p. inr (inl (
      take MAX_HEAD_BYTES bytes,
      drop MAX_HEAD_BYTES bytes,
      sym (take-append-drop MAX_HEAD_BYTES bytes),
      λ other. opening-long (take MAX_HEAD_BYTES bytes) other e (length-take-le MAX_HEAD_BYTES bytes (ltb-false (length bytes) MAX_HEAD_BYTES p)),
    )))
opens_by bytes (Some n) e =
    let b = head_len-bounds (take MAX_HEAD_BYTES bytes) n e in
    let most = length_take_most MAX_HEAD_BYTES bytes in
    let less : n ≤ MAX_HEAD_BYTES = omega (arith, most.0) in
    let size : length (take n bytes) ≡ n = length-take-le n bytes (omega (arith, most.1)) in
    let front : head_len (take n bytes) ≡ Some n = ap head_len (sym (take-take n MAX_HEAD_BYTES bytes less)) ∙ head_len-front (take MAX_HEAD_BYTES bytes) n e in
    let alike = λ (many : Bool) (other : List ℕ). opening-front (take n bytes) other many (front ∙ ap Some (sym size)) (omega arith) in
    cases (nat_lt MAX_HEAD_LINES (count_by is_line_feed (take n bytes))) (λ p. inr (inl (take n bytes, drop n bytes, sym (take-append-drop n bytes), λ other. alike true other p)))
    (λ p. inr (inr (take n bytes, drop n bytes, sym (take-append-drop n bytes), λ other. alike false other p)))

pub opens : (bytes : List ℕ) → Opens bytes
opens bytes = opens_by bytes (head_len (take MAX_HEAD_BYTES bytes)) refl

-- what a reading took of the bytes after the head
abbrev Takes : Option Head → List ℕ → Reading → List ℕ → Type 0
Takes head after reading rest =
    (body : List ℕ) × (after ≡ body ++ rest) × ((other : List ℕ) → (reading, other) ≡ reading_after head (body ++ other))

first_is : {p q : Reading × List ℕ} → p ≡ q → p.0 ≡ q.0
first_is e = λ i. (e i).0

second_is : {p q : Reading × List ℕ} → p ≡ q → p.1 ≡ q.1
second_is e = λ i. (e i).1

takes_none : (head : Option Head) (after rest : List ℕ) (reading : Reading) (why : Code)
    → ((other : List ℕ) → reading_after head other ≡ (refused why, other)) → (reading, rest) ≡ reading_after head after → Takes head after reading rest
takes_none head after rest reading why is e =
    let same = e ∙ is after in
    ([], sym (second_is same), λ other. ap (λ r. (r, other)) (first_is same) ∙ sym (is other))

-- who isn't ended has the body that the head says
abbrev HasBody : Head → ℕ → List ℕ → List ℕ → Reading → Type 0
HasBody h len after rest reading =
    (body : List ℕ) × (length body ≡ len) × (after ≡ body ++ rest) × (reading ≡ request (message h body))

has_body : (h : Head) (len : ℕ) (after rest : List ℕ) (reading : Reading) → (reading ≡ ended → ⊥) → body_length h ≡ Ok len
    → (reading, rest) ≡ reading_after (Some h) after → HasBody h len after rest reading
has_body h len after rest reading some is e =
    let body = take len after in
    cases (nat_lt (length after) len) (λ p. absurd (some (first_is (e ∙ ap (reading_by h after) is ∙ by_few h after len p)))) (
    λ p.
    let same : (reading, rest) ≡ (request (message h body), drop len after) = e ∙ ap (reading_by h after) is ∙ by_enough h after len p in (
      body,
      length-take-le len after (ltb-false (length after) len p),
      sym (take-append-drop len after) ∙ ap (λ r. body ++ r) (sym (second_is same)),
      first_is same,
    )
    )

takes_by : (h : Head) (len : Result ℕ Code) (after rest : List ℕ) (reading : Reading) → (reading ≡ ended → ⊥) → body_length h ≡ len
    → (reading, rest) ≡ reading_after (Some h) after → Takes (Some h) after reading rest
takes_by h (Err why) after rest reading some is e = takes_none (Some h) after rest reading why (λ other. ap (reading_by h other) is) e
takes_by h (Ok len) after rest reading some is e =
    let (body, size, split, same) = has_body h len after rest reading some is e in
    (body, split, λ other. ap (λ r. (r, other)) same ∙ sym (after_body h len body other is size))

takes : (head : Option Head) (after rest : List ℕ) (reading : Reading) → (reading ≡ ended → ⊥) → (reading, rest) ≡ reading_after head after → Takes head after reading rest
takes None after rest reading some e = takes_none None after rest reading H1 (λ other. refl) e
takes (Some h) after rest reading some e = takes_by h (body_length h) after rest reading some refl e

-- the text is the same whatever follows the bytes that were taken
pub rest_has_no_part : (taken rest other : List ℕ) (reading : Reading) → (reading ≡ ended → ⊥) → IsReading (taken ++ rest) reading rest
    → IsReading (taken ++ other) reading other
rest_has_no_part taken rest other reading some is =
    elim (opens (taken ++ rest)) [
      | inl ends ↦ absurd (some (first_is (subst (λ o. IsReadingAt o (reading, rest)) ends is)))
      | inr (inl (front, left, split, always)) ↦
          let same : (reading, rest) ≡ (refused H2, left) = subst (λ o. IsReadingAt o (reading, rest)) (ap opening_of split ∙ always left) is in
          let whole : taken ≡ front = append_cancel_right taken front rest (split ∙ ap (λ l. front ++ l) (sym (second_is same))) in
          subst (λ o. IsReadingAt o (reading, other)) (sym (ap (λ l. opening_of (l ++ other)) whole ∙ always other)) (ap (λ r. (r, other)) (first_is same))
      | inr (inr (front, left, split, always)) ↦
          let (head, valid, same) = subst (λ o. IsReadingAt o (reading, rest)) (ap opening_of split ∙ always left) is in
          let (body, follows, free) = takes head left rest reading some same in
          let whole : taken ≡ front ++ body = append_cancel_right taken (front ++ body) rest (split ∙ ap (λ l. front ++ l) follows ∙ sym (append_assoc front body rest)) in
          subst (λ o. IsReadingAt o (reading, other)) (sym (ap (λ l. opening_of (l ++ other)) whole ∙ ap opening_of (append_assoc front body other) ∙ always (body ++ other))) (head, valid, free other)
    ]

-- the body that a request took
abbrev TakesBody : Option Head → List ℕ → List ℕ → Type 0
TakesBody head after rest =
    (h : Head) × (body : List ℕ) × (head ≡ Some h) × (body_length h ≡ Ok (length body)) × (after ≡ body ++ rest)

asks_by : (h : Head) (len : Result ℕ Code) (after rest : List ℕ) (m : Message) → body_length h ≡ len
    → (request m, rest) ≡ reading_after (Some h) after → TakesBody (Some h) after rest
asks_by h (Err why) after rest m is e =
    let same : (request m, rest) ≡ (refused why, after) = e ∙ ap (reading_by h after) is in
    let q : request m ≡ refused why = λ i. (same i).0 in cc
asks_by h (Ok len) after rest m is e =
    let (body, size, split, same) = has_body h len after rest (request m) (λ q. cc) is e in
    (h, body, refl, is ∙ ap Ok (sym size), split)

asks : (head : Option Head) (after rest : List ℕ) (m : Message) → (request m, rest) ≡ reading_after head after → TakesBody head after rest
asks None after rest m e =
    let q : request m ≡ refused H1 = first_is e in cc
asks (Some h) after rest m e = asks_by h (body_length h) after rest m refl e

some_length : (l : List ℕ) → (l ≡ [] → ⊥) → 0 < length l
some_length [] n = absurd (n refl)
some_length (x ∷ l) n = omega arith

-- a text that opens alike, and then a part of the body alone, ends early
ends_in_body : (text front part back rest : List ℕ) (head : Option Head) → (back ≡ [] → ⊥) → IsHeadOf front head
    → TakesBody head (part ++ back ++ rest) rest → opening_of text ≡ (opened front, part) → IsReading text ended []
ends_in_body text front part back rest head some valid (h, body, is, size, follows) opening =
    let whole : part ++ back ≡ body = append_cancel_right (part ++ back) body rest follows in
    let less : length part < length body = omega (arith, some_length back some, ap length whole, length-append part back) in
    reading_ended front h (length body) (subst (IsHeadOf front) is valid) size text part [] opening (less, refl)

regroup : (front left back rest text : List ℕ) → text ≡ front ++ left → text ++ back ++ rest ≡ front ++ (left ++ back ++ rest)
regroup front left back rest text split =
    ap (λ l. l ++ back ++ rest) split ∙ ap (λ l. l ++ rest) (append_assoc front left back) ∙ append_assoc front (left ++ back) rest

-- a proper beginning of a request ends early
pub beginning_ends : (text back rest : List ℕ) (m : Message) → (back ≡ [] → ⊥) → IsReading (text ++ back ++ rest) (request m) rest
    → IsReading text ended []
beginning_ends text back rest m some is =
    elim (opens text) [
      | inl ends ↦ subst (λ o. IsReadingAt o (ended, [])) (sym ends) refl
      | inr (inl (front, left, split, always)) ↦
          let after = left ++ back ++ rest in
          let same : (request m, rest) ≡ (refused H2, after) = subst (λ o. IsReadingAt o (request m, rest)) (ap opening_of (regroup front left back rest text split) ∙ always after) is in
          let q : request m ≡ refused H2 = λ i. (same i).0 in cc
      | inr (inr (front, left, split, always)) ↦
          let after = left ++ back ++ rest in
          let (head, valid, same) = subst (λ o. IsReadingAt o (request m, rest)) (ap opening_of (regroup front left back rest text split) ∙ always after) is in
          ends_in_body text front left back rest head some valid (asks head after rest m same) (ap opening_of split ∙ always left)
    ]
