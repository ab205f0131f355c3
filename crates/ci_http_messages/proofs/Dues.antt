-- How many bytes a request takes, whatever follows them.
use Rattle.std.proofs.Common.{◌≡◌, ℕ, ◌+◌, ◌<◌, ◌≤◌, List, [], ◌++◌, length, take, drop, refl, sym, ◌∙◌, ap, arith, length-append, length-take-le, take-append-drop, append_assoc}
use Rattle.std.proofs.Common.{inl, inr, Some, Ok, Option}
use Rattle.ci_machine.specs.declared.reply.Code.{Code}
use Rattle.ci_machine.specs.declared.reply.Code.TheVariants.{H2}
use Rattle.ci_http_messages.specs.Prelude.{body_length, IsWhole, Head, IsHeadOf, Opening, short, too_large, opened, opening_of, message, ended, refused, request, IsReading}
use Rattle.ci_http_messages.specs.Prelude.{Refuses}
use Rattle.ci_http_messages.proofs.Beginnings.{opens}
use Rattle.ci_http_messages.proofs.Readings.{reading_ended, reading_call, reading_refused, reading_large}

-- a text that opens so, with this after its opening, opens so whatever follows
abbrev pub OpensAlike : List ℕ → Opening → List ℕ → Type 0
OpensAlike bytes opening after = (more : List ℕ) → opening_of (bytes ++ more) ≡ (opening, after ++ more)

alike : (bytes front rest : List ℕ) (opening : Opening) (after : List ℕ) (o : Opening) → bytes ≡ front ++ rest
    → ((other : List ℕ) → opening_of (front ++ other) ≡ (o, other)) → opening_of bytes ≡ (opening, after) → OpensAlike bytes opening after
alike bytes front rest opening after o split always e more =
    let same : (o, rest) ≡ (opening, after) = sym (ap opening_of split ∙ always rest) ∙ e in
    ap opening_of (ap (λ l. l ++ more) split ∙ append_assoc front rest more) ∙ always (rest ++ more) ∙ (λ i. ((same i).0, (same i).1 ++ more))

opened_or_large : (bytes : List ℕ) (opening : Opening) (after : List ℕ) → (opening ≡ short → ⊥) → opening_of bytes ≡ (opening, after) → OpensAlike bytes opening after
opened_or_large bytes opening after some e =
    elim (opens bytes) [
      | inl ends ↦ absurd (some (λ i. ((sym e ∙ ends) i).0))
      | inr (inl (front, rest, split, always)) ↦ alike bytes front rest opening after too_large split always e
      | inr (inr (front, rest, split, always)) ↦ alike bytes front rest opening after (opened front) split always e
    ]

front_in : Opening → List ℕ
front_in (opened l) = l
front_in short = []
front_in too_large = []

-- the front and what is after it are the text
splits : (bytes front after : List ℕ) → opening_of bytes ≡ (opened front, after) → bytes ≡ front ++ after
unfolding front_in
splits bytes front after e =
    elim (opens bytes) [
      | inl ends ↦ let q : opened front ≡ short = λ i. ((sym e ∙ ends) i).0 in cc
      | inr (inl (f, r, split, always)) ↦ let q : opened front ≡ too_large = λ i. ((sym e ∙ ap opening_of split ∙ always r) i).0 in cc
      | inr (inr (f, r, split, always)) ↦
          let same : (opened f, r) ≡ (opened front, after) = sym (ap opening_of split ∙ always r) ∙ e in
          split ∙ (λ i. front_in ((same i).0) ++ (same i).1)
    ]

-- with too few bytes after a head that says how many follow the text ends early
pub few : (bytes front after : List ℕ) (head : Head) (n : ℕ) → IsHeadOf front (Some head) → body_length head ≡ Ok n
    → opening_of bytes ≡ (opened front, after) → (more : List ℕ) → length (bytes ++ more) < length front + n → IsReading (bytes ++ more) ended []
few bytes front after head n is len e more less =
    let opening = opened_or_large bytes (opened front) after (λ q. cc) e more in
    let size : length (bytes ++ more) ≡ length front + length (after ++ more) = ap length (splits (bytes ++ more) front (after ++ more) opening) ∙ length-append front (after ++ more) in
    reading_ended front head n is len (bytes ++ more) (after ++ more) [] opening (omega (arith, size, less), refl)

-- with enough it begins with a request
pub enough : (bytes front after : List ℕ) (head : Head) (n : ℕ) → IsHeadOf front (Some head) → body_length head ≡ Ok n
    → opening_of bytes ≡ (opened front, after) → (more : List ℕ) → length front + n ≤ length (bytes ++ more) → IsWhole (bytes ++ more)
enough bytes front after head n is len e more most =
    let opening = opened_or_large bytes (opened front) after (λ q. cc) e more in
    let all = after ++ more in
    let size : length (bytes ++ more) ≡ length front + length all = ap length (splits (bytes ++ more) front all opening) ∙ length-append front all in
    let fits : n ≤ length all = omega (arith, size, most) in
    let body = take n all in (
      request (message head body),
      drop n all,
      λ q. cc,
      reading_call front head n body is len (length-take-le n all fits) (bytes ++ more) all (drop n all) opening (sym (take-append-drop n all)),
    )

-- a text that is refused for its head is refused whatever follows
pub head_refused : (bytes front after : List ℕ) (why : Code) → (head : Option Head) × IsHeadOf front head × Refuses head why
    → opening_of bytes ≡ (opened front, after) → (more : List ℕ) → IsWhole (bytes ++ more)
head_refused bytes front after why how e more =
    let opening = opened_or_large bytes (opened front) after (λ q. cc) e more in
    (refused why, after ++ more, λ q. cc, reading_refused front why how (bytes ++ more) (after ++ more) opening)

pub large_refused : (bytes after : List ℕ) → opening_of bytes ≡ (too_large, after) → (more : List ℕ) → IsWhole (bytes ++ more)
large_refused bytes after e more =
    let opening = opened_or_large bytes too_large after (λ q. cc) e more in
    (refused H2, after ++ more, λ q. cc, reading_large H2 refl (bytes ++ more) (after ++ more) opening)
