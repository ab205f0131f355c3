-- What the code's answers say, in the words of the table of routes.
use Rattle.std.specs.Prelude.{ℕ, List, [], ◌∷◌, Option, Some, None, codes}
use Rattle.ci_machine.specs.declared.reply.Method.{Method}
use Rattle.ci_http_messages.specs.declared.routing.operation.Operation.{Operation}
use Rattle.ci_http_messages.specs.declared.routing.operation.Operation.TheVariants.{AskJob, UpdateJob, AppendTrace, SetFile, SetVariable, DeleteVariable, SetMode, ShowMode, CreatePipeline, ShowPipeline, CancelPipeline, ShowJob, ShowTrace, Play, CancelJob, RetryJob, Read, Health}
use Rattle.ci_http_messages.specs.declared.routing.lookup.Lookup.{Lookup}
use Rattle.ci_http_messages.specs.declared.routing.lookup.Lookup.TheVariants.{NoRoute, OtherMethods, Found}
use Rattle.ci_http_messages.specs.Routes.{Body, no_body, file, bytes, json, Wanted, Asked, no_route, other_methods, asks}

-- the operation with another key
module _ {K L : Type 0} (view : K → L) where
  abbrev pub map_key : Operation K → Operation L
  map_key AskJob = AskJob
  map_key (UpdateJob n) = UpdateJob n
  map_key (AppendTrace n) = AppendTrace n
  map_key (SetFile id) = SetFile id
  map_key (SetVariable id key) = SetVariable id (view key)
  map_key (DeleteVariable id key) = DeleteVariable id (view key)
  map_key (SetMode id key) = SetMode id (view key)
  map_key (ShowMode id key) = ShowMode id (view key)
  map_key (CreatePipeline id) = CreatePipeline id
  map_key (ShowPipeline id n) = ShowPipeline id n
  map_key (CancelPipeline id n) = CancelPipeline id n
  map_key (ShowJob id n) = ShowJob id n
  map_key (ShowTrace id n) = ShowTrace id n
  map_key (Play id n) = Play id n
  map_key (CancelJob id n) = CancelJob id n
  map_key (RetryJob id n) = RetryJob id n
  map_key (Read id what) = Read id what
  map_key Health = Health

-- the fields that an operation's route reads
abbrev pub fields_of : {K : Type 0} → Operation K → List (List ℕ)
fields_of AskJob = []
fields_of (UpdateJob n) = []
fields_of (AppendTrace n) = codes "JOB-TOKEN" ∷ codes "Content-Range" ∷ []
fields_of Health = []
fields_of _ = codes "PRIVATE-TOKEN" ∷ []

-- the body that an operation's route reads
abbrev pub body_of : {K : Type 0} → Operation K → Body
body_of AskJob = json (codes "token" ∷ [])
body_of (UpdateJob n) = json (codes "token" ∷ codes "state" ∷ codes "failure_reason" ∷ codes "exit_code" ∷ [])
body_of (AppendTrace n) = bytes
body_of (SetFile id) = file
body_of (SetVariable id key) = json (codes "value" ∷ [])
body_of (SetMode id key) = json (codes "process_mode" ∷ [])
body_of (CreatePipeline id) = json (codes "ref" ∷ codes "tag" ∷ codes "source" ∷ codes "variables" ∷ [])
body_of _ = no_body

-- the route that asks for an operation
abbrev pub wanted : Operation (List ℕ) → Wanted
wanted op = record { fields = fields_of op; body = body_of op; operation = op }

abbrev pub more : Option Method → List Method
more None = []
more (Some method) = method ∷ []

module _ {K : Type 0} (view : K → List ℕ) where
  -- what a look-up says
  abbrev pub as_asked : Lookup K → Asked
  as_asked NoRoute = no_route
  as_asked (OtherMethods first second) = other_methods (first ∷ more second)
  as_asked (Found op) = asks (wanted (map_key view op))
