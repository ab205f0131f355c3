-- How long the body of a request is, by the fields of its head.
use Rattle.std.specs.Prelude.{ℕ, Bool, List, [], ◌∷◌, nat_eq, if◌then◌else◌, Result, Ok, Err, ok_or, codes}
use Rattle.std.specs.List.{list_any}
use Rattle.std.specs.Str.Parse.{digits_value}
use Rattle.std.specs.Cmp.Lexicographic.{pointwise}
use Rattle.ci_machine.specs.declared.reply.Code.{Code}
use Rattle.ci_machine.specs.declared.reply.Code.TheVariants.{H1, H3, H4, H8}
use Rattle.ci_http_messages.specs.Fields.{values_of}
use Rattle.ci_http_messages.specs.Head.{Head}
use Rattle.ci_machine.specs.Prelude.{is_number, within}
use Rattle.ci_http_messages.specs.declared.limits.TheConstants.{MAX_BODY_BYTES}

-- a request of this method says how long its body is
abbrev pub wants_length : List ℕ → Bool
wants_length method = list_any (λ name. pointwise nat_eq method name) (codes "POST" ∷ codes "PUT" ∷ codes "PATCH" ∷ [])

-- the length of the body, by the values of Content-Length
abbrev pub length_by : List ℕ → List (List ℕ) → Result ℕ Code
length_by method [] = if wants_length method then Err H3 else Ok 0
length_by method (text ∷ []) = if is_number text then ok_or (within MAX_BODY_BYTES (digits_value 10 text)) H4 else Err H1
length_by method (text ∷ other ∷ more) = Err H1

-- a body whose head has a value of Transfer-Encoding is refused before its length is looked at
abbrev pub length_after : List ℕ → List (List ℕ) → List (List ℕ) → Result ℕ Code
length_after method lengths [] = length_by method lengths
length_after method lengths (coding ∷ more) = Err H8

-- the length of the body that follows a head
abbrev pub body_length : Head → Result ℕ Code
body_length head = length_after head.method (values_of (codes "content-length") head.fields) (values_of (codes "transfer-encoding") head.fields)
