-- The table of units, and a pair of a number and a unit.
use Rattle.std.proofs.Common.{◌≡◌, ℕ, ◌*◌, ◌<◌, ◌≤◌, Bool, true, false, cond, ◌&&◌, List, [], ◌∷◌, length, refl, sym, ◌∙◌, ap, arith, Option, Some, None, option_map, IfSome}
use Rattle.std.proofs.Common.{nat_le, nat_lt}
use Rattle.std.specs.List.{list_all}
use Rattle.std.specs.Str.{bytes_eq}
use Rattle.std.proofs.lemmas.Bool.Decides.{nat_tests}
use Rattle.std.proofs.lemmas.Slice.Eq.{bytes_eq-Decides}
use Rattle.ci_values.specs.Table.{meaning_of}
use Rattle.ci_values.specs.Duration.{units, number_of, pair_of}
use Rattle.ci_values.specs.declared.run.Class.TheVariants.{Letter}
use Rattle.ci_values.proofs.Runs.{left_of, right_of, are_all, begins}

-- ---- what holds of each entry of a table holds of what a word means
abbrev Entries : Type 0
Entries = List (List ℕ × ℕ)

all-means : (p : List ℕ → ℕ → Bool) (es : Entries) → list_all (λ e. p e.0 e.1) es ≡ true → (word : List ℕ) (n : ℕ) → meaning_of es word ≡ Some n → p word n ≡ true
all-means p [] all word n e = absurd cc
all-means p (x ∷ xs) all word n e = by-test (bytes_eq x.0 word) refl (λ g. all-means p xs (right_of (p x.0 x.1) (list_all (λ e. p e.0 e.1) xs) all) word n g)
  where
    by-test : (b : Bool) → bytes_eq x.0 word ≡ b → (meaning_of xs word ≡ Some n → p word n ≡ true) → p word n ≡ true
    by-test true same next =
        let is : x.0 ≡ word = (bytes_eq-Decides x.0 word).0 same in
        let found : meaning_of (x ∷ xs) word ≡ Some x.1 = ap (λ b. cond b (Some x.1) (meaning_of xs word)) same in
        let value : x.1 ≡ n = cc in
        let here : p x.0 x.1 ≡ true = left_of (p x.0 x.1) (list_all (λ e. p e.0 e.1) xs) all in
        cc
    by-test false other next =
        let found : meaning_of (x ∷ xs) word ≡ meaning_of xs word = ap (λ b. cond b (Some x.1) (meaning_of xs word)) other in
        next (sym found ∙ e)

-- a unit is letters, and worth no more than a day
abbrev is_unit : List ℕ → ℕ → Bool
is_unit word n = begins Letter word && (are_all Letter word && nat_le n 86400)

unit-is : (word : List ℕ) (n : ℕ) → meaning_of units word ≡ Some n → is_unit word n ≡ true
unit-is word n e = all-means is_unit units refl word n e

pub unit-begins : (word : List ℕ) (n : ℕ) → meaning_of units word ≡ Some n → begins Letter word ≡ true
unit-begins word n e = left_of (begins Letter word) (are_all Letter word && nat_le n 86400) (unit-is word n e)

pub unit-letters : (word : List ℕ) (n : ℕ) → meaning_of units word ≡ Some n → are_all Letter word ≡ true
unit-letters word n e = left_of (are_all Letter word) (nat_le n 86400) (right_of (begins Letter word) (are_all Letter word && nat_le n 86400) (unit-is word n e))

pub worth-small : (word : List ℕ) (o : Option ℕ) → o ≡ meaning_of units word → IfSome o (λ n. n ≤ 86400)
worth-small word None e = tt
worth-small word (Some n) e =
    let least : nat_le n 86400 ≡ true = right_of (are_all Letter word) (nat_le n 86400) (right_of (begins Letter word) (are_all Letter word && nat_le n 86400) (unit-is word n (sym e))) in
    grind (arith, nat_tests)

-- ---- a pair
pub record PairParts (digits unit : List ℕ) (s : ℕ) : Type 0 where
  pub some : 0 < length digits
  pub few : length digits ≤ 9
  pub worth : ℕ
  pub is_unit : meaning_of units unit ≡ Some worth
  pub product : s ≡ number_of digits * worth

abbrev has_few : List ℕ → Bool
has_few digits = nat_lt 0 (length digits) && nat_le (length digits) 9

few-is : (digits : List ℕ) → has_few digits ≡ true → (0 < length digits) × (length digits ≤ 9)
few-is digits e =
    let a : nat_lt 0 (length digits) ≡ true = left_of (nat_lt 0 (length digits)) (nat_le (length digits) 9) e in
    let b : nat_le (length digits) 9 ≡ true = right_of (nat_lt 0 (length digits)) (nat_le (length digits) 9) e in
    (grind (arith, nat_tests), grind (arith, nat_tests))

is-few : (digits : List ℕ) → 0 < length digits → length digits ≤ 9 → has_few digits ≡ true
is-few digits some few = grind (arith, nat_tests)

abbrev times : List ℕ → Option ℕ → Option ℕ
times digits worth = option_map (λ w. number_of digits * w) worth

pub pair-parts : (digits unit : List ℕ) (s : ℕ) → pair_of digits unit ≡ Some s → PairParts digits unit s
pair-parts digits unit s e = by-test (has_few digits) refl
  where
    by-worth : has_few digits ≡ true → (o : Option ℕ) → meaning_of units unit ≡ o → times digits o ≡ Some s → PairParts digits unit s
    by-worth few None is f = absurd cc
    by-worth few (Some w) is f =
        let bounds = few-is digits few in
        let product : number_of digits * w ≡ s = cc in
        record { some = bounds.0; few = bounds.1; worth = w; is_unit = is; product = sym product }

    by-test : (t : Bool) → has_few digits ≡ t → PairParts digits unit s
    by-test true few = by-worth few (meaning_of units unit) refl (sym (ap (λ t. cond t (times digits (meaning_of units unit)) None) few) ∙ e)
    by-test false many = absurd (let f : None ≡ Some s = sym (ap (λ t. cond t (times digits (meaning_of units unit)) None) many) ∙ e in cc)

pub parts-pair : (digits unit : List ℕ) (w : ℕ) → 0 < length digits → length digits ≤ 9 → meaning_of units unit ≡ Some w → pair_of digits unit ≡ Some (number_of digits * w)
parts-pair digits unit w some few is =
    ap (λ t. cond t (times digits (meaning_of units unit)) None) (is-few digits some few) ∙ ap (times digits) is
