-- Texts of digits and the numbers that they write.
use Rattle.std.proofs.Common.{◌≡◌, ap, sym, ◌∙◌, refl, true, ◌&&◌, ◌<◌, ◌≤◌, ◌^◌, length, ℕ, List, [], ◌∷◌}
use Rattle.std.specs.List.{list_all}
use Rattle.std.specs.Char.{is_ascii_digit}
use Rattle.std.specs.Str.{all_ascii_digits}
use Rattle.std.specs.Str.Parse.{digits_value}
use Rattle.std.proofs.lemmas.Str.Parse.{IsNumeralModel, numerals_by_value, tells_all_ascii_digits, digits_value_short}

same : (ds : List ℕ) → list_all is_ascii_digit ds ≡ all_ascii_digits ds
same [] = refl
same (c ∷ cs) = ap (λ b. is_ascii_digit c && b) (same cs)

-- the texts of digits are the decimal numerals of std
pub numerals : IsNumeralModel (λ ds. all_ascii_digits ds ≡ true) (digits_value 10)
numerals = numerals_by_value (λ ds. all_ascii_digits ds ≡ true) tells_all_ascii_digits

-- each byte is a digit, in the words of that model
pub all_digits : (ds : List ℕ) → list_all is_ascii_digit ds ≡ true → all_ascii_digits ds ≡ true
all_digits ds h = sym (same ds) ∙ h

pub each_digit : (ds : List ℕ) → all_ascii_digits ds ≡ true → list_all is_ascii_digit ds ≡ true
each_digit ds h = same ds ∙ h

-- so many digits write a number below that power of ten
pub value_short : (ds : List ℕ) (k : ℕ) → list_all is_ascii_digit ds ≡ true → length ds ≤ k → digits_value 10 ds < 10 ^ k
value_short ds k h short = digits_value_short numerals ds k (all_digits ds h) short
