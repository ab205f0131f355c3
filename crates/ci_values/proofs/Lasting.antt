-- The pairs of a text by the relation, and as they are computed.
use Rattle.std.proofs.Common.{◌≡◌, ℕ, zero, suc, ◌+◌, ◌≤◌, Bool, true, false, cond, ◌&&◌, List, [], ◌∷◌, ◌++◌, length, refl, sym, ◌∙◌, ap, subst, arith, Option, Some, None, IfSome}
use Rattle.std.proofs.Common.{append_assoc, nat_le}
use Rattle.std.proofs.lemmas.List.{append-nil}
use Rattle.std.proofs.lemmas.Bool.Decides.{nat_tests}
use Rattle.ci_values.specs.Run.{front, behind}
use Rattle.ci_values.specs.Duration.{pair_of, IsPair, Lasts, IsDuration, first_pair, after_pair, plus, tail_by, sum_from, seconds_of, in_range, duration_of}
use Rattle.ci_values.specs.declared.run.Class.TheVariants.{Digit, Space, Letter}
use Rattle.ci_values.specs.declared.seconds.TheConstants.{MIN_SECONDS, MAX_SECONDS}
use Rattle.ci_values.proofs.Runs.{left_of, right_of, begins, cut-front, cut-behind, parts, front-all, begins-still, begins-some, unit-ends-digits, unit-ends-gap, digits-end-unit, digits-end-gap}
use Rattle.ci_values.proofs.Units.{unit-begins, unit-letters, pair-parts, parts-pair}
use Rattle.ci_values.proofs.Sums.{seconds-some}

-- ---- a pair that comes first is read
pub record Read (bs : List ℕ) (s : ℕ) (rest : List ℕ) : Type 0 where
  pub first : first_pair bs ≡ Some s
  pub after : after_pair bs ≡ rest

pair-read : (f r : List ℕ) (s : ℕ) → IsPair f s → begins Letter r ≡ false → Read (f ++ r) s r
pair-read f r s p ends =
    let letter : begins Letter p.unit ≡ true = unit-begins p.unit p.worth p.is_unit in
    let still : begins Letter (p.unit ++ r) ≡ true = begins-still Letter p.unit r letter in
    let cut : f ++ r ≡ p.digits ++ (p.gap ++ (p.unit ++ r)) = ap (λ xs. xs ++ r) p.parts ∙ append_assoc p.digits (p.gap ++ p.unit) r ∙ ap (λ xs. p.digits ++ xs) (append_assoc p.gap p.unit r) in
    let digits : front Digit (f ++ r) ≡ p.digits = ap (front Digit) cut ∙ cut-front Digit p.digits (p.gap ++ (p.unit ++ r)) p.are_digits (unit-ends-digits p.gap (p.unit ++ r) p.are_spaces still) in
    let behind_digits : behind Digit (f ++ r) ≡ p.gap ++ (p.unit ++ r) =
    ap (behind Digit) cut ∙ cut-behind Digit p.digits (p.gap ++ (p.unit ++ r)) p.are_digits (unit-ends-digits p.gap (p.unit ++ r) p.are_spaces still) in
    let behind_gap : behind Space (behind Digit (f ++ r)) ≡ p.unit ++ r = ap (behind Space) behind_digits ∙ cut-behind Space p.gap (p.unit ++ r) p.are_spaces (unit-ends-gap (p.unit ++ r) still) in
    let unit : front Letter (behind Space (behind Digit (f ++ r))) ≡ p.unit = ap (front Letter) behind_gap ∙ cut-front Letter p.unit r (unit-letters p.unit p.worth p.is_unit) ends in
    let after : after_pair (f ++ r) ≡ r = ap (behind Letter) behind_gap ∙ cut-behind Letter p.unit r (unit-letters p.unit p.worth p.is_unit) ends in
    record {
      first = ap (λ d. pair_of d (front Letter (behind Space (behind Digit (f ++ r))))) digits ∙ ap (pair_of p.digits) unit ∙ parts-pair p.digits p.unit p.worth p.some p.few p.is_unit ∙ ap (λ n. just n) (sym p.product);
      after = after;
    }
  where
    just : ℕ → Option ℕ
    just k = Some k

pair-digit : (f r : List ℕ) (s : ℕ) → IsPair f s → begins Digit (f ++ r) ≡ true
pair-digit f r s p =
    begins-still Digit f r (subst (λ xs. begins Digit xs ≡ true) (sym p.parts) (begins-still Digit p.digits (p.gap ++ p.unit) (begins-some Digit p.digits p.are_digits p.some)))

lasts-digit : (bs : List ℕ) (n : ℕ) → Lasts bs n → begins Digit bs ≡ true
lasts-digit bs n (Lasts.last _ _ p) = subst (λ xs. begins Digit xs ≡ true) (append-nil bs) (pair-digit bs [] n p)
lasts-digit bs n (Lasts.more first gap rest _ s m _ p h l e f) = subst (λ xs. begins Digit xs ≡ true) (sym e) (pair-digit first (gap ++ rest) s p)

-- ---- what lasts so long is read so
pub lasts-seconds : (bs : List ℕ) (n : ℕ) → Lasts bs n → seconds_of bs ≡ Some n
lasts-seconds bs n (Lasts.last _ _ p) =
    let read : Read bs n [] = subst (λ xs. Read xs n []) (append-nil bs) (pair-read bs [] n p refl) in
    seconds-some bs n read.first ∙ ap (λ r. plus (Some n) (tail_by seconds_of r)) read.after ∙ ap (λ k. just k) (let f : n + 0 ≡ n = omega arith in f)
  where
    just : ℕ → Option ℕ
    just k = Some k
lasts-seconds bs n (Lasts.more first gap rest _ s m _ p h l e f) =
    let digit = lasts-digit rest m l in
    let read : Read bs s (gap ++ rest) = subst (λ xs. Read xs s (gap ++ rest)) (sym e) (pair-read first (gap ++ rest) s p (digits-end-unit gap rest h digit)) in
    let next : behind Space (gap ++ rest) ≡ rest = cut-behind Space gap rest h (digits-end-gap rest digit) in
    seconds-some bs s read.first ∙ ap (λ r. plus (Some s) (tail_by seconds_of r)) read.after ∙ ap (plus (Some s)) (tail gap rest digit ∙ ap seconds_of next ∙ lasts-seconds rest m l) ∙ ap (λ k. just k) (sym f)
  where
    just : ℕ → Option ℕ
    just k = Some k

    tail : (gap rest : List ℕ) → begins Digit rest ≡ true → tail_by seconds_of (gap ++ rest) ≡ seconds_of (behind Space (gap ++ rest))
    tail [] [] e = absurd cc
    tail [] (b ∷ rest) e = refl
    tail (b ∷ gap) rest e = refl

-- ---- what is read so lasts so long
abbrev first_of : List ℕ → List ℕ
first_of bs = front Digit bs ++ (front Space (behind Digit bs) ++ front Letter (behind Space (behind Digit bs)))

first-cut : (bs : List ℕ) → bs ≡ first_of bs ++ after_pair bs
first-cut bs =
    parts Digit bs ∙ ap (λ xs. front Digit bs ++ xs) (parts Space (behind Digit bs) ∙ ap (λ xs. front Space (behind Digit bs) ++ xs) (parts Letter (behind Space (behind Digit bs))))
    ∙ sym (append_assoc (front Digit bs) (front Space (behind Digit bs) ++ front Letter (behind Space (behind Digit bs))) (after_pair bs)
    ∙ ap (λ xs. front Digit bs ++ xs) (append_assoc (front Space (behind Digit bs)) (front Letter (behind Space (behind Digit bs))) (after_pair bs)))

first-pair : (bs : List ℕ) (s : ℕ) → first_pair bs ≡ Some s → IsPair (first_of bs) s
first-pair bs s e =
    let p = pair-parts (front Digit bs) (front Letter (behind Space (behind Digit bs))) s e in
    record {
      digits = front Digit bs;
      gap = front Space (behind Digit bs);
      unit = front Letter (behind Space (behind Digit bs));
      worth = p.worth;
      parts = refl;
      are_digits = front-all Digit bs;
      some = p.some;
      few = p.few;
      are_spaces = front-all Space (behind Digit bs);
      is_unit = p.is_unit;
      product = p.product;
    }

plus-some : (s n : ℕ) (o : Option ℕ) → plus (Some s) o ≡ Some n → (m : ℕ) × (o ≡ Some m) × (n ≡ s + m)
plus-some s n None e = absurd cc
plus-some s n (Some m) e = (m, refl, cc)

sum-lasts : (k : ℕ) (bs : List ℕ) (n : ℕ) → sum_from k bs ≡ Some n → Lasts bs n
sum-lasts zero bs n e = absurd cc
sum-lasts (suc k) bs n e = by-pair (first_pair bs) refl (sum-lasts k)
  where
    by-tail : ((bs : List ℕ) (n : ℕ) → sum_from k bs ≡ Some n → Lasts bs n) → (s m : ℕ) → first_pair bs ≡ Some s → n ≡ s + m → (r : List ℕ) → after_pair bs ≡ r → tail_by (sum_from k) r ≡ Some m → Lasts bs n
    by-tail more s m first is [] after tail =
        let m_is : 0 ≡ m = cc in
        let whole : bs ≡ first_of bs = first-cut bs ∙ ap (λ xs. first_of bs ++ xs) after ∙ append-nil (first_of bs) in
        let n_is : n ≡ s = omega (arith, is, m_is) in
        Lasts.last bs n (subst (λ xs. IsPair xs n) (sym whole) (subst (λ j. IsPair (first_of bs) j) (sym n_is) (first-pair bs s first)))
    by-tail more s m first is (b ∷ r) after tail =
        Lasts.more (first_of bs) (front Space (b ∷ r)) (behind Space (b ∷ r)) bs s m n (first-pair bs s first) (front-all Space (b ∷ r)) (more (behind Space (b ∷ r)) m tail)
        (first-cut bs ∙ ap (λ xs. first_of bs ++ xs) (after ∙ parts Space (b ∷ r))) is

    by-pair : (o : Option ℕ) → first_pair bs ≡ o → ((bs : List ℕ) (n : ℕ) → sum_from k bs ≡ Some n → Lasts bs n) → Lasts bs n
    by-pair None none more = absurd (let f : None ≡ Some n = sym (ap (λ o. plus o (tail_by (sum_from k) (after_pair bs))) none) ∙ e in cc)
    by-pair (Some s) first more =
        let m = plus-some s n (tail_by (sum_from k) (after_pair bs)) (sym (ap (λ o. plus o (tail_by (sum_from k) (after_pair bs))) first) ∙ e) in
        by-tail more s m.0 first m.2 (after_pair bs) refl m.1

pub seconds-lasts : (bs : List ℕ) (n : ℕ) → seconds_of bs ≡ Some n → Lasts bs n
seconds-lasts bs n e = sum-lasts (length bs) bs n e

-- ---- a duration
range-is : (m : ℕ) (o : Option ℕ) → in_range o ≡ Some m → (o ≡ Some m) × (MIN_SECONDS ≤ m) × (m ≤ MAX_SECONDS)
range-is m None e = absurd cc
range-is m (Some n) e = by-test (nat_le MIN_SECONDS n && nat_le n MAX_SECONDS) refl
  where
    by-test : (t : Bool) → (nat_le MIN_SECONDS n && nat_le n MAX_SECONDS) ≡ t → (Some n ≡ Some m) × (MIN_SECONDS ≤ m) × (m ≤ MAX_SECONDS)
    by-test true is =
        let same : Some n ≡ Some m = sym (ap (λ t. cond t (Some n) None) is) ∙ e in
        let n_is : n ≡ m = cc in
        let a : nat_le MIN_SECONDS n ≡ true = left_of (nat_le MIN_SECONDS n) (nat_le n MAX_SECONDS) is in
        let b : nat_le n MAX_SECONDS ≡ true = right_of (nat_le MIN_SECONDS n) (nat_le n MAX_SECONDS) is in
        let least : MIN_SECONDS ≤ n = grind (arith, nat_tests) in
        let most : n ≤ MAX_SECONDS = grind (arith, nat_tests) in
        (same, omega (arith, least, n_is), omega (arith, most, n_is))
    by-test false isnt = absurd (let f : None ≡ Some m = sym (ap (λ t. cond t (Some n) None) isnt) ∙ e in cc)

pub duration-lasts : (bs : List ℕ) (r : Option ℕ) → r ≡ duration_of bs → IfSome r (IsDuration bs)
duration-lasts bs None e = tt
duration-lasts bs (Some n) e = let h = range-is n (seconds_of bs) (sym e) in (seconds-lasts bs n h.0, h.1, h.2)

pub lasts-duration : (bs : List ℕ) (r : Option ℕ) → r ≡ duration_of bs → (n : ℕ) → IsDuration bs n → r ≡ Some n
lasts-duration bs r e n h =
    let least : MIN_SECONDS ≤ n = h.1 in
    let most : n ≤ MAX_SECONDS = h.2 in
    let within : (nat_le MIN_SECONDS n && nat_le n MAX_SECONDS) ≡ true = grind (arith, nat_tests) in
    e ∙ ap in_range (lasts-seconds bs n h.0) ∙ ap (λ t. cond t (Some n) None) within
