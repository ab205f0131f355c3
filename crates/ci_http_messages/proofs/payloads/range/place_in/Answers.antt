use Rattle.std.proofs.Common.{◌≡◌, ◌∙◌, refl, sym, true, false, arith, ◌<◌, ◌≤◌, ◌^◌, nat_lt, length, ℕ, Bool, List, Some}
use Rattle.std.specs.List.{list_all}
use Rattle.std.specs.Char.{is_ascii_digit}
use Rattle.std.specs.Str.Parse.{digits_value}
use Rattle.std.proofs.lemmas.Bool.{and_parts}
use Rattle.std.proofs.lemmas.Bool.Decides.{nat_tests}
use Rattle.ci_machine.specs.Prelude.{is_number, number_within}
use Rattle.ci_http_messages.specs.Prelude.{place_in}
use Rattle.ci_values.proofs.Digits.{value_short}
use Rattle.ci_http_messages.proofs.payloads.range.place_in.Goals as goal

-- the number of at most 16 digits is within the limit
short_by : (text : List ℕ) → length text ≤ 16 → (b : Bool) → is_number text ≡ b → number_within 9999999999999999 text ≡ place_in text
short_by text short true h =
    let small : digits_value 10 text < 10 ^ 16 = value_short text 16 (and_parts (nat_lt 0 (length text)) (list_all is_ascii_digit text) h).1 short in
    let fits : nat_lt 9999999999999999 (digits_value 10 text) ≡ false = grind (arith, nat_tests) in
    let brief : nat_lt 16 (length text) ≡ false = grind (arith, nat_tests) in
    let left : number_within 9999999999999999 text ≡ Some (digits_value 10 text) = rw (h, fits) refl in
    let right : place_in text ≡ Some (digits_value 10 text) = rw (h, brief) refl in
    left ∙ sym right
short_by text short false h = rw h refl

pub returns-clause-place : goal.returns-clause-place
returns-clause-place c = c.number_within.ensures ∙ short_by c.args.text.now (omega arith) _ refl
