-- The sum of the pairs, step by step.
use Rattle.std.proofs.Common.{◌≡◌, ℕ, zero, suc, ◌+◌, ◌<◌, ◌≤◌, true, false, cond, ◌&&◌, List, [], ◌∷◌, length, refl, sym, ◌∙◌, ap, arith, Option, Some, None, nat_le, ◌≢◌, ◌==◌}
use Rattle.std.proofs.lemmas.Bool.Decides.{nat_tests}
use Rattle.ci_values.specs.Run.{front, behind}
use Rattle.ci_values.specs.Duration.{first_pair, after_pair, plus, tail_by, sum_from, seconds_of, in_range, duration_of}
use Rattle.ci_values.specs.declared.run.Class.TheVariants.{Digit, Space, Letter}
use Rattle.ci_values.specs.declared.seconds.TheConstants.{MIN_SECONDS, MAX_SECONDS}
use Rattle.ci_values.proofs.Runs.{parts-length}
use Rattle.ci_values.proofs.Units.{pair-parts}

pub after-shorter : (bs : List ℕ) (s : ℕ) → first_pair bs ≡ Some s → length (after_pair bs) < length bs
after-shorter bs s e =
    let some : 0 < length (front Digit bs) = (pair-parts (front Digit bs) (front Letter (behind Space (behind Digit bs))) s e).some in
    let a = parts-length Digit bs in
    let b = parts-length Space (behind Digit bs) in
    let c = parts-length Letter (behind Space (behind Digit bs)) in
    omega (arith, some, a, b, c)

pub next-shorter : (bs : List ℕ) (s : ℕ) → first_pair bs ≡ Some s → length (behind Space (after_pair bs)) < length bs
next-shorter bs s e =
    let a = after-shorter bs s e in
    let b = parts-length Space (after_pair bs) in
    omega (arith, a, b)

-- ---- as many steps as bytes are enough
abbrev Enough : ℕ → ℕ → Type 0
Enough j k = (bs : List ℕ) → length bs ≤ j → length bs ≤ k → sum_from j bs ≡ sum_from k bs

tails-same : (j k : ℕ) → Enough j k → (r : List ℕ) → length (behind Space r) ≤ j → length (behind Space r) ≤ k → tail_by (sum_from j) r ≡ tail_by (sum_from k) r
tails-same j k same [] le le' = refl
tails-same j k same (b ∷ r) le le' = same (behind Space (b ∷ r)) le le'

enough : (j k : ℕ) → Enough j k
enough zero zero bs le le' = refl
enough zero (suc k) [] le le' = refl
enough zero (suc k) (b ∷ bs) le le' = absurd (omega (arith, le))
enough (suc j) zero [] le le' = refl
enough (suc j) zero (b ∷ bs) le le' = absurd (omega (arith, le'))
enough (suc j) (suc k) bs le le' = by-pair (first_pair bs) refl (enough j k)
  where
    by-pair : (o : Option ℕ) → first_pair bs ≡ o → Enough j k → sum_from (suc j) bs ≡ sum_from (suc k) bs
    by-pair None e same = ap (λ o. plus o (tail_by (sum_from j) (after_pair bs))) e ∙ sym (ap (λ o. plus o (tail_by (sum_from k) (after_pair bs))) e)
    by-pair (Some s) e same =
        let lt = next-shorter bs s e in
        ap (plus (first_pair bs)) (tails-same j k same (after_pair bs) (omega (arith, lt, le)) (omega (arith, lt, le')))

-- nothing, or the pairs behind spaces
pub seconds-none : (bs : List ℕ) → first_pair bs ≡ None → seconds_of bs ≡ None
seconds-none [] e = refl
seconds-none (b ∷ bs) e = ap (λ o. plus o (tail_by (sum_from (length bs)) (after_pair (b ∷ bs)))) e

pub seconds-some : (bs : List ℕ) (s : ℕ) → first_pair bs ≡ Some s → seconds_of bs ≡ plus (Some s) (tail_by seconds_of (after_pair bs))
seconds-some [] s e = absurd (omega (arith, next-shorter [] s e))
seconds-some (b ∷ bs) s e =
    let lt = next-shorter (b ∷ bs) s e in
    ap (λ o. plus o (tail_by (sum_from (length bs)) (after_pair (b ∷ bs)))) e ∙ ap (plus (Some s)) (tail (after_pair (b ∷ bs)) (omega (arith, lt)))
  where
    tail : (r : List ℕ) → length (behind Space r) ≤ length bs → tail_by (sum_from (length bs)) r ≡ tail_by seconds_of r
    tail [] le = refl
    tail (d ∷ r) le = enough (length bs) (length (behind Space (d ∷ r))) (behind Space (d ∷ r)) le (omega arith)

-- ---- what the code finds
plus-plus : (m s : ℕ) (o : Option ℕ) → plus (Some m) (plus (Some s) o) ≡ plus (Some (m + s)) o
plus-plus m s None = refl
plus-plus m s (Some n) = ap (λ k. just k) (let e : m + (s + n) ≡ m + s + n = omega arith in e)
  where
    just : ℕ → Option ℕ
    just k = Some k

abbrev Rest : List ℕ → List ℕ → ℕ → Type 0
Rest text rest sum = seconds_of text ≡ plus (Some sum) (seconds_of rest)

pub rest-all : (text : List ℕ) → Rest text text 0
rest-all text = sym (none (seconds_of text))
  where
    none : (o : Option ℕ) → plus (Some 0) o ≡ o
    none None = refl
    none (Some n) = ap (λ k. just k) (let e : 0 + n ≡ n = omega arith in e)
      where
        just : ℕ → Option ℕ
        just k = Some k

pub rest-none : (text rest : List ℕ) (sum : ℕ) → Rest text rest sum → first_pair rest ≡ None → duration_of text ≡ None
rest-none text rest sum h e = ap in_range (h ∙ ap (plus (Some sum)) (seconds-none rest e))

pub rest-some : (text rest : List ℕ) (sum s : ℕ) → Rest text rest sum → first_pair rest ≡ Some s → seconds_of text ≡ plus (Some (sum + s)) (tail_by seconds_of (after_pair rest))
rest-some text rest sum s h e = h ∙ ap (plus (Some sum)) (seconds-some rest s e) ∙ plus-plus sum s (tail_by seconds_of (after_pair rest))

pub rest-last : (text rest : List ℕ) (sum s : ℕ) → Rest text rest sum → first_pair rest ≡ Some s → after_pair rest ≡ [] → duration_of text ≡ in_range (Some (sum + s))
rest-last text rest sum s h e last =
    ap in_range (rest-some text rest sum s h e ∙ ap (λ r. plus (Some (sum + s)) (tail_by seconds_of r)) last ∙ ap (λ k. just k) (let f : sum + s + 0 ≡ sum + s = omega arith in f))
  where
    just : ℕ → Option ℕ
    just k = Some k

pub rest-more : (text rest : List ℕ) (sum s : ℕ) → Rest text rest sum → first_pair rest ≡ Some s → after_pair rest ≢ [] → Rest text (behind Space (after_pair rest)) (sum + s)
rest-more text rest sum s h e more = rest-some text rest sum s h e ∙ ap (plus (Some (sum + s))) (tail (after_pair rest) more)
  where
    tail : (r : List ℕ) → r ≢ [] → tail_by seconds_of r ≡ seconds_of (behind Space r)
    tail [] some = absurd (some refl)
    tail (b ∷ r) some = refl

pub over : (text : List ℕ) (sum : ℕ) (o : Option ℕ) → seconds_of text ≡ plus (Some sum) o → MAX_SECONDS < sum → duration_of text ≡ None
over text sum o h lt = ap in_range h ∙ by-rest o
  where
    by-rest : (o : Option ℕ) → in_range (plus (Some sum) o) ≡ None
    by-rest None = refl
    by-rest (Some n) =
        let many : nat_le (sum + n) MAX_SECONDS ≡ false = grind (arith, nat_tests) in
        let none : (nat_le MIN_SECONDS (sum + n) && nat_le (sum + n) MAX_SECONDS) ≡ false = grind (arith, nat_tests) in
        ap (λ t. cond t (Some (sum + n)) None) none

pub some-left : (bs : List ℕ) → (length bs == 0) ≡ false → bs ≢ []
some-left bs e none = let h : (length bs == 0) ≡ true = ap (λ xs. length xs == 0) none in absurd cc

pub none-left : (bs : List ℕ) → (length bs == 0) ≡ true → bs ≡ []
none-left [] e = refl
none-left (b ∷ bs) e = absurd (grind (arith, nat_tests))
