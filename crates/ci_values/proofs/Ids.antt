-- The number of a record has one text: its digits in decimal.
use Rattle.std.proofs.Common.{◌≡◌, ◌≢◌, ◌<◌, ◌≤◌, ◌^◌, ℕ, zero, suc, Bool, true, false, List, [], ◌∷◌, length, get_or, nat_eq, nat_lt, refl, sym, ◌∙◌, ap, subst, arith}
use Rattle.std.proofs.Common.{Some, None, unwrap_or, if◌then◌else◌, codes, decimal, MatchOption}
use Rattle.std.specs.List.{list_all, starts_with}
use Rattle.std.specs.Char.{is_ascii_digit}
use Rattle.std.specs.Str.{all_ascii_digits}
use Rattle.std.specs.Str.Parse.{digits_value}
use Rattle.std.proofs.lemmas.Bool.{and_parts, and_from}
use Rattle.std.proofs.lemmas.Bool.Decides.{nat_tests}
use Rattle.std.proofs.lemmas.Fmt.{digits_decimal, digits_value-decimal, decimal-digits_value, decimal_nonempty, decimal_digit, first_decimal}
use Rattle.ci_values.specs.declared.limits.TheConstants.{MAX_NUMBER}
use Rattle.ci_values.specs.Numbers.{is_number, within, number_within, id_in, IsId}
use Rattle.ci_values.proofs.Digits.{numerals, all_digits, each_digit}

some_is : {A : Type 0} (d x y : A) → Some x ≡ Some y → x ≡ y
some_is d x y e = ap (λ o. unwrap_or o d) e

none_is_not : {A : Type 0} (x : A) → None ≡ Some x → ⊥
none_is_not x e = subst (λ o. MatchOption o (Unit {0}) (λ _. ⊥)) e tt

abbrev IsYes : Bool → Type 0
IsYes true = Unit {0}
IsYes false = ⊥

true_is_not : true ≡ false → ⊥
true_is_not h = subst IsYes h tt

small : (n : ℕ) → IsId n → n < 2 ^ 64
small n h = omega (arith, h.1)

digits : (n : ℕ) → IsId n → all_ascii_digits (decimal n) ≡ true
digits n h = digits_decimal numerals n (small n h)

no_zero : (text : List ℕ) → 48 < get_or text 0 0 → starts_with nat_eq text (codes "0") ≡ false
no_zero [] h = absurd (omega arith)
no_zero (c ∷ text) h = grind (arith, nat_tests)

zero_first : (text : List ℕ) → get_or text 0 0 ≡ 48 → starts_with nat_eq text (codes "0") ≡ true
zero_first [] h = absurd (omega arith)
zero_first (c ∷ text) h = grind (arith, nat_tests)

-- the number's text is read as the number
pub id_names : (n : ℕ) → IsId n → id_in (decimal n) ≡ Some n
id_names n h =
    let first : starts_with nat_eq (decimal n) (codes "0") ≡ false = no_zero (decimal n) (first_decimal n h.0 (small n h)) in
    let filled : nat_lt 0 (length (decimal n)) ≡ true = grind (arith, nat_tests, decimal_nonempty n (small n h)) in
    let number : is_number (decimal n) ≡ true = and_from _ _ filled (each_digit (decimal n) (digits n h)) in
    let value : digits_value 10 (decimal n) ≡ n = digits_value-decimal numerals n (small n h) in
    let fits : nat_lt MAX_NUMBER n ≡ false = grind (arith, nat_tests, h.1) in
    ap (λ b. if b then None else number_within MAX_NUMBER (decimal n)) first
    ∙ ap (λ b. if b then within MAX_NUMBER (digits_value 10 (decimal n)) else None) number
    ∙ ap (within MAX_NUMBER) value ∙ ap (λ b. if b then None else Some n) fits

-- the text is this number in decimal
abbrev pub IsOf : List ℕ → ℕ → Type 0
IsOf text n = IsId n × (text ≡ decimal n)

value_is : (text : List ℕ) (n : ℕ) → starts_with nat_eq text (codes "0") ≡ false → is_number text ≡ true → n ≡ digits_value 10 text → n ≤ MAX_NUMBER → IsOf text n
value_is text n first number e most =
    let parts = and_parts (nat_lt 0 (length text)) (list_all is_ascii_digit text) number in
    let filled : 0 < length text = grind (arith, nat_tests, parts.0) in
    let leads : get_or text 0 0 ≢ 48 = λ z. true_is_not (sym (zero_first text z) ∙ first) in
    let written : decimal (digits_value 10 text) ≡ text = decimal-digits_value numerals text (all_digits text parts.1) filled (λ z. absurd (leads z)) (omega arith) in
    let text_is : text ≡ decimal n = sym written ∙ ap decimal (sym e) in
    ((positive n text_is leads, most), text_is)
  where
    positive : (n : ℕ) → text ≡ decimal n → get_or text 0 0 ≢ 48 → 0 < n
    positive zero t leads = absurd (leads (ap (λ l. get_or l 0 0) (t ∙ decimal_digit 0 (omega arith))))
    positive (suc n) t leads = omega arith

within_by : (text : List ℕ) (n v : ℕ) → starts_with nat_eq text (codes "0") ≡ false → is_number text ≡ true → v ≡ digits_value 10 text
    → (b : Bool) → nat_lt MAX_NUMBER v ≡ b → (if b then None else Some v) ≡ Some n → IsOf text n
within_by text n v first number is_value true h e = absurd (none_is_not n e)
within_by text n v first number is_value false h e =
    let same_number : v ≡ n = some_is 0 v n e in
    value_is text n first number (sym same_number ∙ is_value) (grind (arith, nat_tests, h, same_number))

number_by : (text : List ℕ) (n : ℕ) → starts_with nat_eq text (codes "0") ≡ false
    → (b : Bool) → is_number text ≡ b → (if b then within MAX_NUMBER (digits_value 10 text) else None) ≡ Some n → IsOf text n
number_by text n first true h e = within_by text n _ first h refl _ refl e
number_by text n first false h e = absurd (none_is_not n e)

id_by : (text : List ℕ) (n : ℕ) (b : Bool) → starts_with nat_eq text (codes "0") ≡ b → (if b then None else number_within MAX_NUMBER text) ≡ Some n → IsOf text n
id_by text n true h e = absurd (none_is_not n e)
id_by text n false h e = number_by text n h _ refl e

-- what is read as a number is its text
pub id_is : (text : List ℕ) (n : ℕ) → id_in text ≡ Some n → IsOf text n
id_is text n e = id_by text n _ refl e
