-- Digits, read one after the other.
use Rattle.std.proofs.Common.{◌≡◌, ℕ, ◌+◌, ◌-◌, ◌*◌, ◌<◌, ◌≤◌, true, cond, List, [], ◌∷◌, Option, Some, None, ap, arith, nat_le, ◌&&◌}
use Rattle.std.proofs.lemmas.Bool.{le-leb, lt-leb, and_right, and_from}
use Rattle.ci_yaml_lines.specs.Prelude.{MAX_NUMBER, is_digit, all_digits, digits_value}

-- the number after n, with these digits
abbrev pub count_rest : ℕ → List ℕ → Option ℕ
count_rest n bs = cond (all_digits bs && nat_le (digits_value n bs) MAX_NUMBER) (Some (digits_value n bs)) None

value-grows : (n : ℕ) (bs : List ℕ) → n ≤ digits_value n bs
value-grows n [] = omega arith
value-grows n (b ∷ bs) = omega (arith, value-grows (10 * n + (b - 48)) bs)

pub rest-over : (n : ℕ) (bs : List ℕ) → MAX_NUMBER < n → count_rest n bs ≡ None
rest-over n bs lt =
    ap (λ b. cond b (Some (digits_value n bs)) None)
    (and_right (all_digits bs) (nat_le (digits_value n bs) MAX_NUMBER) (lt-leb (digits_value n bs) MAX_NUMBER (omega (arith, value-grows n bs))))

digit-yes : (b : ℕ) → 48 ≤ b → b ≤ 57 → is_digit b ≡ true
digit-yes b lo hi = and_from (nat_le 48 b) (nat_le b 57) (le-leb 48 b lo) (le-leb b 57 hi)

pub rest-digit : (n b : ℕ) (bs : List ℕ) → 48 ≤ b → b ≤ 57 → count_rest n (b ∷ bs) ≡ count_rest (10 * n + (b - 48)) bs
rest-digit n b bs lo hi = ap (λ t. cond ((t && all_digits bs) && nat_le (digits_value (10 * n + (b - 48)) bs) MAX_NUMBER) (Some (digits_value (10 * n + (b - 48)) bs)) None) (digit-yes b lo hi)
