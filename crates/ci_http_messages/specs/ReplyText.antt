-- The bytes of a reply.
use Rattle.std.specs.Prelude.{◌≡◌, ℕ, List, [], ◌∷◌, ◌++◌, length, map, ◌==◌, if◌then◌else◌, Option, Some, None, unwrap_or, codes, decimal}
use Rattle.std.specs.List.{join_by}
use Rattle.httparse.specs.Grammar.{ResponseHead, ReadsResponse, status_code}
use Rattle.httparse.specs.Spans.{name_and_value}
use Rattle.http.specs.StatusCode.{reason_phrase, code_digits}
use Rattle.ci_machine.specs.declared.reply.HttpStatus.{HttpStatus}
use Rattle.ci_machine.specs.declared.reply.HttpStatus.TheVariants.{Fine, Created, Accepted, NoContent, BadRequest, Unauthorized, Forbidden, NotFound, MethodNotAllowed, LengthRequired, PayloadTooLarge, RangeNotSatisfiable, HeaderFieldsTooLarge, NotImplemented, ServiceUnavailable}
use Rattle.ci_machine.specs.declared.reply.JobStatus.{JobStatus}
use Rattle.ci_machine.specs.declared.reply.Method.{Method}
use Rattle.ci_machine.specs.declared.reply.Methods.{Methods}
use Rattle.ci_machine.specs.declared.reply.Body.{Body}
use Rattle.ci_machine.specs.declared.reply.Body.TheVariants.{Json, Plain}
use Rattle.ci_machine.specs.declared.reply.Reply.{Reply}
use Rattle.ci_machine.specs.Reply.{status_text}
use Rattle.ci_machine.specs.Prelude.{body_text}
use Rattle.ci_http_messages.specs.Answers.{more}
use Rattle.ci_http_messages.specs.Methods.{method_text}
use Rattle.ci_http_messages.specs.Fields.{values_of}

-- the number of a status
abbrev pub number_of : HttpStatus → ℕ
number_of Fine = 200
number_of Created = 201
number_of Accepted = 202
number_of NoContent = 204
number_of BadRequest = 400
number_of Unauthorized = 401
number_of Forbidden = 403
number_of NotFound = 404
number_of MethodNotAllowed = 405
number_of LengthRequired = 411
number_of PayloadTooLarge = 413
number_of RangeNotSatisfiable = 416
number_of HeaderFieldsTooLarge = 431
number_of NotImplemented = 501
number_of ServiceUnavailable = 503

-- the methods in their order
abbrev pub listed : Methods → List Method
listed methods = methods.first ∷ more methods.second

abbrev pub allow_text : Methods → List ℕ
allow_text methods = join_by method_text (codes ", ") (listed methods)

-- the media type of a body; the fixed texts of refusals are JSON
abbrev pub type_text : Option Body → List ℕ
type_text None = codes "application/json"
type_text (Some (Json text)) = codes "application/json"
type_text (Some (Plain bytes)) = codes "text/plain"

abbrev pub crlf : List ℕ
crlf = 13 ∷ 10 ∷ []

-- the reason phrase that the crate http has for a status
abbrev pub reason_of : HttpStatus → List ℕ
reason_of s = unwrap_or (reason_phrase (number_of s)) []

-- the version, the three digits of the status, and its reason phrase
unfoldable pub status_line : HttpStatus → List ℕ
status_line s = codes "HTTP/1.1 " ++ code_digits (number_of s) ++ codes " " ++ reason_of s ++ crlf

abbrev pub job_status_line : Option JobStatus → List ℕ
job_status_line None = []
job_status_line (Some s) = codes "Job-Status: " ++ status_text s ++ crlf

abbrev pub range_line : Option ℕ → List ℕ
range_line None = []
range_line (Some size) = codes "Range: 0-" ++ decimal size ++ crlf

abbrev pub allow_line : Option Methods → List ℕ
allow_line None = []
allow_line (Some methods) = codes "Allow: " ++ allow_text methods ++ crlf

-- only where there is a body
abbrev pub type_line : List ℕ → List ℕ → List ℕ
type_line kind [] = []
type_line kind (b ∷ body) = codes "Content-Type: " ++ kind ++ crlf

-- not with 204
abbrev pub length_line : HttpStatus → ℕ → List ℕ
length_line s n = if number_of s == 204 then [] else codes "Content-Length: " ++ decimal n ++ crlf

-- the head, with the empty line that ends it
abbrev pub head_text : Reply → List ℕ
head_text r =
    status_line r.status ++ job_status_line r.job_status ++ range_line r.range ++ allow_line r.allow
    ++ type_line (type_text r.body) (body_text r) ++ length_line r.status (length (body_text r)) ++ codes "Connection: close\r\n\r\n"

-- the bytes of the reply
abbrev pub reply_text : Reply → List ℕ
reply_text r = head_text r ++ body_text r

-- the values of Content-Length: one, the body's length, but none with 204
abbrev pub length_values : HttpStatus → ℕ → List (List ℕ)
length_values s n = if number_of s == 204 then [] else decimal n ∷ []

-- the bytes are a response by the grammar of HTTP/1.1: a head with this status that says how long the body is, and then the body
abbrev pub IsResponse : List ℕ → HttpStatus → List ℕ → Type 0
IsResponse bytes status body =
    (head : ResponseHead) × ReadsResponse bytes head body × (status_code head ≡ number_of status)
    × (values_of (codes "content-length") (map name_and_value head.fields) ≡ length_values status (length body))
