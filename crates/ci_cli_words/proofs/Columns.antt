-- What std's words for the options of a number and of a text come to in a column.
use Rattle.std.proofs.Common.{◌≡◌, ℕ, zero, suc, ◌-◌, ◌^◌, ◌<◌, ◌≤◌, List, [], ◌∷◌, ◌++◌, length, replicate, IsAscii, decimal, refl, ap, arith}
use Rattle.std.proofs.lemmas.Bool.{lt-ltb, ne_eqb}
use Rattle.std.proofs.lemmas.List.{append-nil}
use Rattle.std.specs.Fmt.{char_count, take_chars, padded, padded_integral}
use Rattle.std.specs.Char.{encode_utf8}
use Rattle.std.specs.List.{repeat}
use Rattle.ci_cli_words.specs.ReportText.{right, left}

one_byte : encode_utf8 32 ≡ 32 ∷ []
unfolding encode_utf8
one_byte = refl

repeated : (n : ℕ) → repeat n (encode_utf8 32) ≡ replicate n 32
repeated zero = refl
repeated (suc n) = λ i. one_byte i ++ repeated n i

pub right_is : (width n : ℕ) → 0 < width → right width n ≡ replicate (width - length (decimal n)) 32 ++ decimal n
unfolding padded_integral char_count
right_is width n some =
    let digits = decimal n in
    let wide : width ≡ 0 → ⊥ = λ e. omega (arith, e) in
    let short : width - length digits - 0 - 0 ≡ width - length digits = omega arith in
    let none : width - length digits - (width - length digits) ≡ 0 = omega arith in
    rw (ne_eqb width 0 wide, short, none, repeated) (simp append-nil)

-- an ASCII text has a character for each byte, and is whole up to any bound that it keeps
counted : (text : List ℕ) → IsAscii text → char_count text ≡ length text
unfolding char_count
counted [] ascii = refl
counted (c ∷ text) ascii =
    let low : c < 128 = ascii 0 in
    rw (lt-ltb c 128 low) (omega (arith, counted text (λ i. ascii (suc i))))

whole : (most : ℕ) (text : List ℕ) → IsAscii text → length text ≤ most → take_chars most text ≡ text
unfolding take_chars
whole most [] ascii fits = refl
whole most (c ∷ text) ascii fits =
    let low : c < 128 = ascii 0 in
    let some : most ≡ 0 → ⊥ = λ e. omega (arith, e) in
    rw (lt-ltb c 128 low, ne_eqb most 0 some) (ap (λ t. c ∷ t) (whole (most - 1) text (λ i. ascii (suc i)) (omega arith)))

pub left_is : (width : ℕ) (text : List ℕ) → 0 < width → IsAscii text → length text < 2 ^ 64 → left width text ≡ text ++ replicate (width - length text) 32
unfolding padded
left_is width text some ascii fits =
    let wide : width ≡ 0 → ⊥ = λ e. omega (arith, e) in
    let short : width - length text - 0 ≡ width - length text = omega arith in
    rw (ne_eqb width 0 wide, whole (2 ^ 64 - 1) text ascii (omega arith), counted text ascii, short, repeated) refl
