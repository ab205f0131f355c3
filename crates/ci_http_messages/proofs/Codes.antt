-- No body is longer than the limit, and the codes with which a request is refused while it is read.
use Rattle.std.proofs.Common.{◌≡◌, ℕ, ◌≤◌, List, [], ◌∷◌, sym, subst, arith, nat_lt, Option, Some, None, Result, Ok, Err, ok_or, codes}
use Rattle.std.proofs.lemmas.Bool.{cond_both, ltb-false}
use Rattle.std.specs.Str.Parse.{digits_value}
use Rattle.ci_machine.specs.declared.reply.Code.{Code}
use Rattle.ci_machine.specs.declared.reply.Code.TheVariants.{H1, H3, H4}
use Rattle.ci_http_messages.specs.Prelude.{MAX_BODY_BYTES, wants_length, length_after, body_length, values_of, Head, Refuses, IsReadingCode}
use Rattle.ci_machine.specs.Prelude.{is_number, within}

abbrev IsAllowed : Result ℕ Code → Type 0
IsAllowed (Ok n) = n ≤ MAX_BODY_BYTES
IsAllowed (Err why) = IsReadingCode why

number_allowed : (n : ℕ) → IsAllowed (ok_or (within MAX_BODY_BYTES n) H4)
number_allowed n = cond_both (nat_lt MAX_BODY_BYTES n) None (Some n) (λ o. IsAllowed (ok_or o H4)) (λ _. tt) (λ e. ltb-false MAX_BODY_BYTES n e)

length_allowed : (method : List ℕ) (lengths codings : List (List ℕ)) → IsAllowed (length_after method lengths codings)
length_allowed method lengths (coding ∷ more) = tt
length_allowed method [] [] = cond_both (wants_length method) (Err H3) (Ok 0) IsAllowed (λ _. tt) (λ _. omega arith)
length_allowed method (text ∷ []) [] = cond_both (is_number text) (ok_or (within MAX_BODY_BYTES (digits_value 10 text)) H4) (Err H1) IsAllowed (λ _. number_allowed (digits_value 10 text)) (λ _. tt)
length_allowed method (text ∷ other ∷ more) [] = tt

body_allowed : (head : Head) → IsAllowed (body_length head)
body_allowed head = length_allowed head.method (values_of (codes "content-length") head.fields) (values_of (codes "transfer-encoding") head.fields)

pub body_within : (head : Head) (n : ℕ) → body_length head ≡ Ok n → n ≤ MAX_BODY_BYTES
body_within head n is = subst IsAllowed is (body_allowed head)

pub refused-code : (head : Option Head) (why : Code) → Refuses head why → IsReadingCode why
refused-code None why e = subst IsReadingCode (sym e) tt
refused-code (Some head) why e = subst IsAllowed e (body_allowed head)
