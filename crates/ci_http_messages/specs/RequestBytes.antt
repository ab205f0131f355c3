-- The request that a message asks for by the table of routes, or the reply that refuses it.
use Rattle.std.specs.Prelude.{◌≡◌, ℕ, Bool, true, false, List, [], ◌∷◌, map, length, if◌then◌else◌, Option, Some, None, IsSome, option_map, option_and_then, ok_or, Result, Ok, Err}
use Rattle.std.specs.Str.{is_utf8}
use Rattle.serde_json.specs.Data.{Data}
use Rattle.serde_json.specs.Find.{get}
use Rattle.ci_machine.specs.Prelude.{is_name, refusal}
use Rattle.ci_machine.specs.declared.reply.Method.{Method}
use Rattle.ci_machine.specs.declared.reply.Methods.{Methods}
use Rattle.ci_machine.specs.declared.reply.Code.{Code}
use Rattle.ci_machine.specs.declared.reply.Code.TheVariants.{H5, H6, H7}
use Rattle.ci_machine.specs.declared.reply.Reply.{Reply}
use Rattle.ci_machine.specs.declared.request.Request.{Request}
use Rattle.ci_machine.specs.declared.request.Request.TheVariants.{AskJob, UpdateJob, AppendTrace, SetFile, SetVariable, DeleteVariable, SetMode, ShowMode, CreatePipeline, ShowPipeline, CancelPipeline, ShowJob, ShowTrace, Play, CancelJob, RetryJob, Read}
use Rattle.ci_machine.specs.declared.request.JobQuery.{JobQuery}
use Rattle.ci_machine.specs.declared.request.PipelineQuery.{PipelineQuery}
use Rattle.ci_http_messages.specs.declared.routing.operation.Operation.{Operation}
use Rattle.ci_http_messages.specs.Answers.{body_of, wanted}
use Rattle.ci_http_messages.specs.Routes.{Body, no_body, file, bytes, json, Wanted, Asked, no_route, other_methods, asks, asked_in}
use Rattle.ci_http_messages.specs.Json.{MayBeJson, object_in}
use Rattle.ci_http_messages.specs.Refusals.{IsWhyNot}
use Rattle.ci_http_messages.specs.Texts.{token_of, value_of, file_in}
use Rattle.ci_http_messages.specs.Updates.{update_of}
use Rattle.ci_http_messages.specs.Modes.{mode_of}
use Rattle.ci_http_messages.specs.Creations.{creation_of}
use Rattle.ci_http_messages.specs.Ranges.{start_in}
use Rattle.ci_http_messages.specs.declared.route.Demand.{Demand}
use Rattle.ci_http_messages.specs.Fields.{values_of}
use Rattle.ci_http_messages.specs.Reading.{Message}
use Rattle.ci_http_messages.specs.Targets.{path_of}

-- ---- what a route reads

-- the one value of a field; a field that is missing counts as an empty one, and one that stands twice has none
abbrev pub single : List (List ℕ) → Option (List ℕ)
single [] = Some []
single (value ∷ []) = Some value
single (value ∷ other ∷ more) = None

abbrev pub field_in : List ℕ → Message → Option (List ℕ)
field_in name m = single (values_of name m.fields)

-- the values of the fields with these names, each of which stands once, or is missing and then empty
abbrev pub each_single : List (List ℕ) → Message → Option (List (List ℕ))
each_single [] m = Some []
each_single (name ∷ names) m = option_and_then (λ value. option_map (λ values. value ∷ values) (each_single names m)) (field_in name m)

-- What a body carries: nothing; bytes, or a text; or the members of a JSON object, `None` where it has none of a name.
pub data Payload : Type 0 where
  nothing : Payload
  content : List ℕ → Payload
  members : List (Option Data) → Payload

abbrev pub payload_in : Body → List ℕ → Option Payload
payload_in no_body body = Some nothing
payload_in file body = option_map content (file_in body)
payload_in bytes body = Some (content body)
payload_in (json names) body = option_map (λ object. members (map (λ name. get name object) names)) (object_in body)

-- ---- what is asked for

-- bytes that aren't UTF-8 are no token, so the empty text, which is none either, stands for them
abbrev pub text_or_empty : List ℕ → List ℕ
text_or_empty field = if is_utf8 field then field else []

abbrev pub job_of : ℕ → List ℕ → ℕ → JobQuery
job_of id field n = record { project = id; token = text_or_empty field; job = n }

abbrev pub pipeline_of : ℕ → List ℕ → ℕ → PipelineQuery
pipeline_of id field n = record { project = id; token = text_or_empty field; pipeline = n }

-- the request of an operation, with the values of its fields and its payload, if these are as it wants them
abbrev pub requested : Operation (List ℕ) → List (List ℕ) → Payload → Option Request
requested Operation.AskJob [] (members (token ∷ [])) = option_map AskJob (token_of token)
requested (Operation.UpdateJob n) [] (members (token ∷ state ∷ reason ∷ exit ∷ [])) = option_map UpdateJob (update_of n token state reason exit)
requested (Operation.AppendTrace n) (field ∷ range ∷ []) (content piece) =
    option_map (λ from. AppendTrace (record { attempt = n; token = text_or_empty field; from = from; bytes = piece })) (start_in (length piece) range)
requested (Operation.SetFile id) (field ∷ []) (content text) = Some (SetFile (record { project = id; token = text_or_empty field; text = text }))
requested (Operation.SetVariable id key) (field ∷ []) (members (value ∷ [])) =
    option_map (λ text. SetVariable (record { project = id; token = text_or_empty field; key = key; value = text })) (value_of value)
requested (Operation.DeleteVariable id key) (field ∷ []) nothing = Some (DeleteVariable (record { project = id; token = text_or_empty field; key = key }))
requested (Operation.SetMode id key) (field ∷ []) (members (mode ∷ [])) =
    if is_name key then option_map (λ order. SetMode (record { project = id; token = text_or_empty field; group = key; order = order })) (mode_of mode) else None
requested (Operation.ShowMode id key) (field ∷ []) nothing =
    if is_name key then Some (ShowMode (record { project = id; token = text_or_empty field; group = key })) else None
requested (Operation.CreatePipeline id) (field ∷ []) (members (git_ref ∷ tag ∷ source ∷ variables ∷ [])) =
    option_map CreatePipeline (creation_of id (text_or_empty field) git_ref tag source variables)
requested (Operation.ShowPipeline id n) (field ∷ []) nothing = Some (ShowPipeline (pipeline_of id field n))
requested (Operation.CancelPipeline id n) (field ∷ []) nothing = Some (CancelPipeline (pipeline_of id field n))
requested (Operation.ShowJob id n) (field ∷ []) nothing = Some (ShowJob (job_of id field n))
requested (Operation.ShowTrace id n) (field ∷ []) nothing = Some (ShowTrace (job_of id field n))
requested (Operation.Play id n) (field ∷ []) nothing = Some (Play (job_of id field n))
requested (Operation.CancelJob id n) (field ∷ []) nothing = Some (CancelJob (job_of id field n))
requested (Operation.RetryJob id n) (field ∷ []) nothing = Some (RetryJob (job_of id field n))
requested (Operation.Read id what) (field ∷ []) nothing = Some (Read (record { project = id; token = text_or_empty field; subject = what }))
requested _ _ _ = None

-- the request that a message makes of a route, by the route's fields and body, if these are as it wants them
abbrev pub request_by : Wanted → Message → Option Request
request_by w m = option_and_then (λ values. option_and_then (requested w.operation values) (payload_in w.body m.body)) (each_single w.fields m)

-- ---- which route it is

-- what a method and a path ask for; a path that isn't UTF-8 has no route
abbrev pub asked_at : List ℕ → List ℕ → Asked
asked_at method path = if is_utf8 path then asked_in method path else no_route

-- the methods of a path, in a reply: one or two, for no path has more (`allow_names_each_method`)
abbrev pub methods_of : List Method → Option Methods
methods_of [] = None
methods_of (one ∷ []) = Some (record { first = one; second = None })
methods_of (one ∷ other ∷ more) = Some (record { first = one; second = Some other })

-- the reply where the path has these methods, and not the request's
abbrev pub not_allowed : List Method → Reply
not_allowed methods = record (refusal H6) { allow = methods_of methods }

-- whether the server is open isn't asked of the machine: no request asks for it, and it takes nothing of the message
abbrev pub is_health : {K : Type 0} → Operation K → Bool
is_health Operation.Health = true
is_health _ = false

abbrev pub request_as : Asked → Message → Result Demand Reply
request_as no_route m = Err (refusal H5)
request_as (other_methods methods) m = Err (not_allowed methods)
request_as (asks w) m =
    if is_health w.operation then Ok Demand.Health else ok_or (option_map Demand.Request (request_by w m)) (refusal H7)

-- what a message asks for
abbrev pub request_in : Message → Result Demand Reply
request_in m = request_as (asked_at m.method (path_of m.target)) m

-- ---- memory

-- what memory is asked for at a route: its fields stand as it wants them, and its body may be the JSON that it wants; or all is as it wants it
abbrev pub AsksMemoryBy : Body → Wanted → Message → Type 0
AsksMemoryBy (json names) w m = IsSome (each_single w.fields m) × MayBeJson m.body
AsksMemoryBy _ w m = IsSome (request_by w m)

-- memory is asked for to tell what a message asks for: it has a route, which asks for it
abbrev pub AsksMemory : Message → Type 0
AsksMemory m = (w : Wanted) × (asked_at m.method (path_of m.target) ≡ asks w) × AsksMemoryBy w.body w m

-- ---- what is answered

-- what was made of a part of a message: the part that is there; or why it wasn't made
abbrev pub Gives : {A : Type 0} → Type 0 → Option A → Result A Code → Type 0
Gives Asks part (Ok made) = part ≡ Some made
Gives Asks part (Err why) = IsWhyNot Asks why part

-- what was made of a message at a route: the request that it makes of the route; or why it wasn't made
abbrev pub AnswersFor : Operation (List ℕ) → Message → Result Request Code → Type 0
AnswersFor op m result = Gives (AsksMemoryBy (body_of op) (wanted op) m) (request_by (wanted op) m) result
