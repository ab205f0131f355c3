-- The bytes of a reply are a response by the grammar of HTTP/1.1.
use Rattle.std.proofs.Common.{◌≡◌, ℕ, zero, suc, ◌+◌, ◌<◌, ◌^◌, ◌%◌, Bool, true, false, List, [], ◌∷◌, ◌++◌, length, refl, sym, ◌∙◌, ap, arith, append_assoc, not, map, reverse}
use Rattle.std.proofs.Common.{◌==◌, ◌&&◌, if◌then◌else◌, Option, Some, None, All, codes, decimal, unwrap_or, IfSome}
use Rattle.std.specs.List.{flat_map, list_all}
use Rattle.std.specs.Char.{is_ascii_digit}
use Rattle.std.specs.Str.Parse.{digits_value}
use Rattle.std.proofs.lemmas.Bool.{and_parts}
use Rattle.std.proofs.lemmas.Bool.Decides.{nat_tests}
use Rattle.std.proofs.lemmas.Fmt.{decimal_by_steps}
use Rattle.std.proofs.lemmas.Grind.{flat_map-append}
use Rattle.std.proofs.lemmas.List.{append-nil, map-append}
use Rattle.std.proofs.lemmas.List.Elements.{All-append}
use Rattle.std.proofs.lemmas.List.Folds.{list_all-append}
use Rattle.std.proofs.lemmas.List.Sums.{AllPass-from_list_all, list_all-from_AllPass}
use Rattle.http.specs.StatusCode.{reason_phrase, code_digits}
use Rattle.httparse.specs.Grammar.{Field, print_field, IsField, is_token_byte, is_value_byte, is_ows, skip_ows, trim_ows, ResponseHead, print_response, IsResponseHead}
use Rattle.httparse.specs.Grammar as grammar
use Rattle.httparse.specs.Spans.{name_and_value}
use Rattle.httparse.proofs.TrimLemmas.{AllPass-reverse, skip_ows_no, trim_ows_space}
use Rattle.httparse.proofs.GrammarLemmas.{print_response-append}
use Rattle.ci_machine.specs.declared.reply.Method.{Method}
use Rattle.ci_machine.specs.declared.reply.Method.TheVariants.{Delete}
use Rattle.ci_machine.specs.declared.reply.Methods.{Methods}
use Rattle.ci_machine.specs.declared.reply.Body.{Body}
use Rattle.ci_machine.specs.declared.reply.Body.TheVariants.{Json}
use Rattle.ci_machine.specs.declared.reply.JobStatus.{JobStatus}
use Rattle.ci_machine.specs.declared.reply.JobStatus.TheVariants.{Running}
use Rattle.ci_machine.specs.declared.reply.HttpStatus.{HttpStatus}
use Rattle.ci_machine.specs.declared.reply.HttpStatus.TheVariants.{Fine}
use Rattle.ci_machine.specs.declared.reply.Reply.{Reply}
use Rattle.ci_machine.specs.Reply.{status_text}
use Rattle.ci_machine.specs.Prelude.{body_text}
use Rattle.ci_http_messages.specs.Prelude.{method_text, values_of, number_of, allow_text, type_text, crlf, status_line, job_status_line, range_line, allow_line, type_line}
use Rattle.ci_http_messages.specs.Prelude.{length_line, reply_text, length_values, IsResponse}
use Rattle.ci_http_messages.proofs.Values.{values-append}

abbrev field : List ℕ → List ℕ → Field
field name value = record { name = name; raw = 32 ∷ value; end = grammar.crlf }

abbrev is_value : List ℕ → Bool
is_value text = list_all is_value_byte text

is_field : (name value : List ℕ) → 0 < length name → list_all is_token_byte name ≡ true → is_value value ≡ true → IsField (field name value)
is_field name value some n v = record {
  name = (some, AllPass-from_list_all is_token_byte name n);
  raw = AllPass-from_list_all is_value_byte (32 ∷ value) v;
}

-- the reason and the digits of each status
abbrev IsStatus : HttpStatus → Type 0
IsStatus s =
    (list_all is_ascii_digit (code_digits (number_of s)) ≡ true) × (is_value (unwrap_or (reason_phrase (number_of s)) []) ≡ true)
    × (digits_value 10 (code_digits (number_of s)) ≡ number_of s)

is_status : (s : HttpStatus) → IsStatus s
is_status Fine = (refl, refl, refl)
is_status _ = (refl, refl, refl)

decimal_all : (test : ℕ → Bool) → ((m : ℕ) → m < 10 → list_all test ((48 + m) ∷ []) ≡ true) → (n : ℕ) → n < 2 ^ 64 → list_all test (decimal n) ≡ true
decimal_all test digit = decimal_by_steps (λ m ds. list_all test ds ≡ true) digit
    (λ m ds l h. list_all-append test ds ((48 + m % 10) ∷ []) ∙ ap (λ b. b && list_all test ((48 + m % 10) ∷ [])) h ∙ digit (m % 10) (omega arith))

decimal_value : (n : ℕ) → n < 2 ^ 64 → is_value (decimal n) ≡ true
decimal_value = decimal_all is_value_byte (λ m h. grind (arith, nat_tests))

abbrev is_seen : ℕ → Bool
is_seen b = not (is_ows b)

not_blank : (b : Bool) → not b ≡ true → false ≡ b
not_blank true h = cc
not_blank false h = refl

skip_none : (text : List ℕ) → list_all is_seen text ≡ true → skip_ows text ≡ text
skip_none [] h = refl
skip_none (x ∷ text) h = skip_ows_no {b = x} {all = x ∷ text} {rest = text} refl (not_blank (is_ows x) (and_parts (is_seen x) (list_all is_seen text) h).0)

decimal_seen : (n : ℕ) → n < 2 ^ 64 → list_all is_seen (decimal n) ≡ true
decimal_seen = decimal_all is_seen (λ m h. grind (arith, nat_tests))

trim_decimal : (n : ℕ) → n < 2 ^ 64 → trim_ows (32 ∷ decimal n) ≡ decimal n
trim_decimal n h =
    let seen = decimal_seen n h in
    let back = list_all-from_AllPass is_seen (reverse (decimal n)) (AllPass-reverse is_seen (decimal n) (AllPass-from_list_all is_seen (decimal n) seen)) in
    trim_ows_space (decimal n) (skip_none (decimal n) seen) (skip_none (reverse (decimal n)) back)

-- the values of Content-Length
abbrev lengths : List Field → List (List ℕ)
lengths fields = values_of (codes "content-length") (map name_and_value fields)

abbrev print : List Field → List ℕ
print fields = flat_map print_field fields

-- the fields are well formed, print these lines, and have these values of Content-Length
record AreLines (fields : List Field) (lines : List ℕ) (values : List (List ℕ)) : Type 0 where
  printed : print fields ≡ lines
  well : All IsField fields
  values_are : lengths fields ≡ values

no_line : AreLines [] [] []
no_line = record { printed = refl; well = λ k d l. absurd (omega arith); values_are = refl }

a_line : (name value : List ℕ) (values : List (List ℕ)) → 0 < length name → list_all is_token_byte name ≡ true → is_value value ≡ true → lengths (field name value ∷ []) ≡ values
    → AreLines (field name value ∷ []) (name ++ (58 ∷ 32 ∷ (value ++ crlf))) values
a_line name value values some n v e = record { printed = simp (append_assoc, append-nil); well = one_well; values_are = e }
  where
    one_well : All IsField (field name value ∷ [])
    one_well zero d l = is_field name value some n v
    one_well (suc k) d l = absurd (omega arith)

and_then : {a b : List Field} {l k : List ℕ} {v w : List (List ℕ)} → AreLines a l v → AreLines b k w → AreLines (a ++ b) (l ++ k) (v ++ w)
and_then {a} {b} x y = record {
  printed = flat_map-append print_field a b ∙ (λ i. x.printed i ++ y.printed i);
  well = All-append IsField a b x.well y.well;
  values_are = ap (values_of (codes "content-length")) (map-append name_and_value a b) ∙ values-append (codes "content-length") (map name_and_value a) (map name_and_value b)
      ∙ (λ i. x.values_are i ++ y.values_are i);
}

-- each line of a reply
abbrev job_status_fields : Option JobStatus → List Field
job_status_fields None = []
job_status_fields (Some s) = field (codes "Job-Status") (status_text s) ∷ []

job_status_value : (s : JobStatus) → is_value (status_text s) ≡ true
job_status_value Running = refl
job_status_value _ = refl

job_status_is : (s : Option JobStatus) → AreLines (job_status_fields s) (job_status_line s) []
unfolding is_token_byte
job_status_is None = no_line
job_status_is (Some s) = a_line (codes "Job-Status") (status_text s) [] (omega arith) refl (job_status_value s) refl

abbrev range_fields : Option ℕ → List Field
range_fields None = []
range_fields (Some n) = field (codes "Range") (codes "0-" ++ decimal n) ∷ []

range_is : (n : Option ℕ) → IfSome n (λ k. k < 2 ^ 64) → AreLines (range_fields n) (range_line n) []
unfolding is_token_byte
range_is None h = no_line
range_is (Some n) h = a_line (codes "Range") (codes "0-" ++ decimal n) [] (omega arith) refl (decimal_value n h) refl

abbrev allow_fields : Option Methods → List Field
allow_fields None = []
allow_fields (Some methods) = field (codes "Allow") (allow_text methods) ∷ []

method_value : (method : Method) → is_value (method_text method) ≡ true
method_value Delete = refl
method_value _ = refl

value_before : (method : Method) (behind : List ℕ) → is_value behind ≡ true → is_value (method_text method ++ behind) ≡ true
value_before method behind h = list_all-append is_value_byte (method_text method) behind ∙ ap (λ b. b && is_value behind) (method_value method) ∙ h

allow_value : (first : Method) (second : Option Method) → is_value (allow_text (record { first = first; second = second })) ≡ true
allow_value first None = value_before first [] refl
allow_value first (Some second) = value_before first _ (value_before second [] refl)

allow_is : (methods : Option Methods) → AreLines (allow_fields methods) (allow_line methods) []
unfolding is_token_byte
allow_is None = no_line
allow_is (Some methods) = a_line (codes "Allow") (allow_text methods) [] (omega arith) refl (allow_value methods.first methods.second) refl

abbrev type_fields : List ℕ → List ℕ → List Field
type_fields kind [] = []
type_fields kind (b ∷ body) = field (codes "Content-Type") kind ∷ []

type_value : (body : Option Body) → is_value (type_text body) ≡ true
type_value (Some (Json text)) = refl
type_value _ = refl

type_is : (kind body : List ℕ) → is_value kind ≡ true → AreLines (type_fields kind body) (type_line kind body) []
unfolding is_token_byte
type_is kind [] h = no_line
type_is kind (b ∷ body) h = a_line (codes "Content-Type") kind [] (omega arith) refl h refl

abbrev length_fields : Bool → ℕ → List Field
length_fields none n = if none then [] else field (codes "Content-Length") (decimal n) ∷ []

length_is : (none : Bool) (n : ℕ) → n < 2 ^ 64
    → AreLines (length_fields none n) (if none then [] else codes "Content-Length: " ++ decimal n ++ crlf) (if none then [] else decimal n ∷ [])
unfolding is_token_byte
length_is true n h = no_line
length_is false n h = a_line (codes "Content-Length") (decimal n) (decimal n ∷ []) (omega arith) refl (decimal_value n h) (ap (λ v. v ∷ []) (trim_decimal n h))

close_is : AreLines (field (codes "Connection") (codes "close") ∷ []) (codes "Connection: close\r\n") []
unfolding is_token_byte
close_is = a_line (codes "Connection") (codes "close") [] (omega arith) refl refl refl

-- the head of a reply
abbrev fields_of : Reply → List Field
fields_of r =
    job_status_fields r.job_status ++ range_fields r.range ++ allow_fields r.allow ++ type_fields (type_text r.body) (body_text r)
    ++ length_fields (number_of r.status == 204) (length (body_text r)) ++ field (codes "Connection") (codes "close") ∷ []

abbrev head_of : Reply → ResponseHead
head_of r = record {
  blank = [];
  minor = 1;
  digits = code_digits (number_of r.status);
  reason = Some (unwrap_or (reason_phrase (number_of r.status)) []);
  line_end = grammar.crlf;
  fields = fields_of r;
  last = grammar.crlf;
}

abbrev lines_of : Reply → List ℕ
lines_of r =
    job_status_line r.job_status ++ range_line r.range ++ allow_line r.allow ++ type_line (type_text r.body) (body_text r)
    ++ length_line r.status (length (body_text r)) ++ codes "Connection: close\r\n"

all_lines : (r : Reply) → IfSome r.range (λ k. k < 2 ^ 64) → length (body_text r) < 2 ^ 64
    → AreLines (fields_of r) (lines_of r) (length_values r.status (length (body_text r)) ++ [])
all_lines r range size =
    and_then (and_then (and_then (and_then (and_then (job_status_is r.job_status) (range_is r.range range)) (allow_is r.allow))
    (type_is (type_text r.body) (body_text r) (type_value r.body))) (length_is (number_of r.status == 204) (length (body_text r)) size)) close_is

regroup : (s a b c d e f g r : List ℕ) → (s ++ a ++ b ++ c ++ d ++ e ++ (f ++ g)) ++ r ≡ s ++ (((a ++ b ++ c ++ d ++ e ++ f) ++ g) ++ r)
regroup s a b c d e f g r = simp (append_assoc)

start_by : (d1 d2 d3 : ℕ) (phrase rest : List ℕ) → (codes "HTTP/1.1 " ++ (d1 ∷ d2 ∷ d3 ∷ []) ++ codes " " ++ phrase ++ crlf) ++ rest
    ≡ codes "HTTP/1.1 " ++ (d1 ∷ d2 ∷ d3 ∷ 32 ∷ (phrase ++ (crlf ++ rest)))
start_by d1 d2 d3 phrase rest = ap (λ l. codes "HTTP/1.1 " ++ (d1 ∷ d2 ∷ d3 ∷ 32 ∷ l)) (append_assoc phrase crlf rest)

start : (s : HttpStatus) (rest : List ℕ) → status_line s ++ rest
    ≡ codes "HTTP/1.1 " ++ (code_digits (number_of s) ++ (32 ∷ (unwrap_or (reason_phrase (number_of s)) [] ++ (crlf ++ rest))))
unfolding status_line
start s rest = start_by _ _ _ (unwrap_or (reason_phrase (number_of s)) []) rest

reply_print : (r : Reply) → print (fields_of r) ≡ lines_of r → reply_text r ≡ print_response (head_of r) ++ body_text r
reply_print r printed =
    let after = (lines_of r ++ crlf) ++ body_text r in
    let text : reply_text r ≡ status_line r.status ++ after
    = regroup (status_line r.status) (job_status_line r.job_status) (range_line r.range) (allow_line r.allow) (type_line (type_text r.body) (body_text r))
    (length_line r.status (length (body_text r))) (codes "Connection: close\r\n") crlf (body_text r) in
    text ∙ start r.status after
    ∙ ap (λ l. codes "HTTP/1.1 " ++ (code_digits (number_of r.status) ++ (32 ∷ (unwrap_or (reason_phrase (number_of r.status)) [] ++ (crlf ++ ((l ++ crlf) ++ body_text r))))))
    (sym printed)
    ∙ sym (print_response-append (head_of r) (body_text r))

head_well : (r : Reply) → All IsField (fields_of r) → IsResponseHead (head_of r)
head_well r well =
    let (digits, reason, value) = is_status r.status in record {
      minor = omega arith;
      digits = (refl, AllPass-from_list_all is_ascii_digit (code_digits (number_of r.status)) digits);
      reason = AllPass-from_list_all is_value_byte (unwrap_or (reason_phrase (number_of r.status)) []) reason;
      fields = well;
    }

pub is_response : (r : Reply) → IfSome r.range (λ k. k < 2 ^ 64) → length (body_text r) < 2 ^ 64 → IsResponse (reply_text r) r.status (body_text r)
is_response r range size =
    let lines = all_lines r range size in
    (head_of r, (head_well r lines.well, reply_print r lines.printed), (is_status r.status).2, lines.values_are ∙ append-nil (length_values r.status (length (body_text r))))
