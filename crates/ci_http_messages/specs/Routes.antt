-- The table of routes, and what a method and a path ask for by it.
use Rattle.std.specs.Prelude.{ℕ, List, [], ◌∷◌, ◌++◌, map, cond, ◌==◌, if◌then◌else◌, Option, Some, None, option_and_then, codes, decimal}
use Rattle.std.specs.List.{find}
use Rattle.ci_machine.specs.Prelude.{id_in}
use Rattle.ci_machine.specs.declared.reply.Method.{Method}
use Rattle.ci_machine.specs.declared.reply.Method.TheVariants.{Delete, Get, Patch, Post, Put}
use Rattle.ci_machine.specs.declared.request.Subject.{Subject}
use Rattle.ci_http_messages.specs.declared.routing.operation.Operation.{Operation}
use Rattle.ci_http_messages.specs.declared.routing.operation.Operation.TheVariants.{AskJob, UpdateJob, AppendTrace, SetFile, SetVariable, DeleteVariable, SetMode, ShowMode, CreatePipeline, ShowPipeline, CancelPipeline, ShowJob, ShowTrace, Play, CancelJob, RetryJob, Read, Health}
use Rattle.ci_http_messages.specs.Methods.{is_text, method_text}
use Rattle.ci_http_messages.specs.Segments.{segments}

-- a segment of a route's path: a word; or a slot of this name, for the number of a record or for a text that isn't empty
pub data Part : Type 0 where
  word : List ℕ → Part
  number : List ℕ → Part
  text : List ℕ → Part

-- the body that a route reads: none; the bytes of a text in UTF-8; the bytes of a trace; or a JSON object with these members
pub data Body : Type 0 where
  no_body : Body
  file : Body
  bytes : Body
  json : List (List ℕ) → Body

-- what a path asks for, by what stands in its slots
abbrev pub Takes : List Part → Type 0
Takes [] = Operation (List ℕ)
Takes (word w ∷ ps) = Takes ps
Takes (number name ∷ ps) = ℕ → Takes ps
Takes (text name ∷ ps) = List ℕ → Takes ps

-- a method, a path, the fields and the body that are read, and what is asked for
pub record Route : Type 0 where
  pub method : Method
  pub path : List Part
  pub fields : List (List ℕ)
  pub body : Body
  pub operation : Takes path

abbrev pub api : List Part → List Part
api ps = word (codes "api") ∷ word (codes "v4") ∷ ps

abbrev pub project : List Part → List Part
project ps = api (word (codes "projects") ∷ number (codes "id") ∷ ps)

-- a route of runners
abbrev pub runner_route : (method : Method) (path : List Part) → List (List ℕ) → Body → Takes path → Route
runner_route method path fields body operation =
    record { method = method; path = path; fields = fields; body = body; operation = operation }

-- a route of a project: the field PRIVATE-TOKEN has the project's token
abbrev pub project_route : (method : Method) (path : List Part) → Body → Takes path → Route
project_route method path body operation =
    record { method = method; path = path; fields = codes "PRIVATE-TOKEN" ∷ []; body = body; operation = operation }

-- a route that has no fields and no body
abbrev pub open_route : (method : Method) (path : List Part) → Takes path → Route
open_route method path operation =
    record { method = method; path = path; fields = []; body = no_body; operation = operation }

-- the routes, in the order of the code's table of paths; those of one path stand together, in the order of their methods' names
unfoldable pub routes : List Route
routes =
    open_route Get (word (codes "-") ∷ word (codes "health") ∷ []) Health
    ∷ runner_route Post (api (word (codes "jobs") ∷ word (codes "request") ∷ []))
    [] (json (codes "token" ∷ [])) AskJob
    ∷ runner_route Patch (api (word (codes "jobs") ∷ number (codes "n") ∷ word (codes "trace") ∷ []))
    (codes "JOB-TOKEN" ∷ codes "Content-Range" ∷ []) bytes AppendTrace
    ∷ runner_route Put (api (word (codes "jobs") ∷ number (codes "n") ∷ []))
    [] (json (codes "token" ∷ codes "state" ∷ codes "failure_reason" ∷ codes "exit_code" ∷ [])) UpdateJob
    ∷ project_route Put (project (word (codes "ci_file") ∷ [])) file SetFile
    ∷ project_route Get (project (word (codes "jobs") ∷ number (codes "n") ∷ word (codes "attempts") ∷ number (codes "m") ∷ word (codes "trace") ∷ [])) no_body
    (λ id n m. Read id (Subject.Trace n m))
    ∷ project_route Get (project (word (codes "jobs") ∷ number (codes "n") ∷ word (codes "attempts") ∷ [])) no_body (λ id n. Read id (Subject.Attempts n))
    ∷ project_route Post (project (word (codes "jobs") ∷ number (codes "n") ∷ word (codes "cancel") ∷ [])) no_body CancelJob
    ∷ project_route Post (project (word (codes "jobs") ∷ number (codes "n") ∷ word (codes "play") ∷ [])) no_body Play
    ∷ project_route Post (project (word (codes "jobs") ∷ number (codes "n") ∷ word (codes "retry") ∷ [])) no_body RetryJob
    ∷ project_route Get (project (word (codes "jobs") ∷ number (codes "n") ∷ word (codes "trace") ∷ [])) no_body ShowTrace
    ∷ project_route Get (project (word (codes "jobs") ∷ number (codes "n") ∷ [])) no_body ShowJob
    ∷ project_route Post (project (word (codes "pipelines") ∷ number (codes "n") ∷ word (codes "cancel") ∷ [])) no_body CancelPipeline
    ∷ project_route Get (project (word (codes "pipelines") ∷ number (codes "n") ∷ word (codes "jobs") ∷ [])) no_body (λ id n. Read id (Subject.Jobs n))
    ∷ project_route Get (project (word (codes "pipelines") ∷ number (codes "n") ∷ [])) no_body ShowPipeline
    ∷ project_route Get (project (word (codes "pipelines") ∷ [])) no_body (λ id. Read id Subject.Pipelines)
    ∷ project_route Post (project (word (codes "pipeline") ∷ []))
    (json (codes "ref" ∷ codes "tag" ∷ codes "source" ∷ codes "variables" ∷ [])) CreatePipeline
    ∷ project_route Get (project (word (codes "resource_groups") ∷ text (codes "key") ∷ [])) no_body ShowMode
    ∷ project_route Put (project (word (codes "resource_groups") ∷ text (codes "key") ∷ [])) (json (codes "process_mode" ∷ [])) SetMode
    ∷ project_route Get (project (word (codes "resource_groups") ∷ [])) no_body (λ id. Read id Subject.ResourceGroups)
    ∷ project_route Delete (project (word (codes "variables") ∷ text (codes "key") ∷ [])) no_body DeleteVariable
    ∷ project_route Put (project (word (codes "variables") ∷ text (codes "key") ∷ [])) (json (codes "value" ∷ [])) SetVariable
    ∷ project_route Get (project []) no_body (λ id. Read id Subject.Project)
    ∷ []

-- the path of a project, with what follows
abbrev pub project_path : ℕ → List ℕ → List ℕ
project_path id rest = codes "/api/v4/projects/" ++ (decimal id ++ rest)

-- the one path that asks for an operation
abbrev pub path_text : Operation (List ℕ) → List ℕ
path_text AskJob = codes "/api/v4/jobs/request"
path_text (UpdateJob n) = codes "/api/v4/jobs/" ++ decimal n
path_text (AppendTrace n) = codes "/api/v4/jobs/" ++ (decimal n ++ codes "/trace")
path_text (SetFile id) = project_path id (codes "/ci_file")
path_text (SetVariable id key) = project_path id (codes "/variables/" ++ key)
path_text (DeleteVariable id key) = project_path id (codes "/variables/" ++ key)
path_text (SetMode id key) = project_path id (codes "/resource_groups/" ++ key)
path_text (ShowMode id key) = project_path id (codes "/resource_groups/" ++ key)
path_text (CreatePipeline id) = project_path id (codes "/pipeline")
path_text (ShowPipeline id n) = project_path id (codes "/pipelines/" ++ decimal n)
path_text (CancelPipeline id n) = project_path id (codes "/pipelines/" ++ (decimal n ++ codes "/cancel"))
path_text (ShowJob id n) = project_path id (codes "/jobs/" ++ decimal n)
path_text (ShowTrace id n) = project_path id (codes "/jobs/" ++ (decimal n ++ codes "/trace"))
path_text (Play id n) = project_path id (codes "/jobs/" ++ (decimal n ++ codes "/play"))
path_text (CancelJob id n) = project_path id (codes "/jobs/" ++ (decimal n ++ codes "/cancel"))
path_text (RetryJob id n) = project_path id (codes "/jobs/" ++ (decimal n ++ codes "/retry"))
path_text (Read id Subject.Project) = codes "/api/v4/projects/" ++ decimal id
path_text (Read id Subject.Pipelines) = project_path id (codes "/pipelines")
path_text (Read id (Subject.Jobs n)) = project_path id (codes "/pipelines/" ++ (decimal n ++ codes "/jobs"))
path_text (Read id (Subject.Attempts n)) = project_path id (codes "/jobs/" ++ (decimal n ++ codes "/attempts"))
path_text (Read id (Subject.Trace n m)) = project_path id (codes "/jobs/" ++ (decimal n ++ (codes "/attempts/" ++ (decimal m ++ codes "/trace"))))
path_text (Read id Subject.ResourceGroups) = project_path id (codes "/resource_groups")
path_text Health = codes "/-/health"

-- what the segments ask for by a route's path, if each fits its part
abbrev pub reads : (ps : List Part) → Takes ps → List (List ℕ) → Option (Operation (List ℕ))
reads [] op [] = Some op
reads [] op (s ∷ ss) = None
reads (p ∷ ps) op [] = None
reads (word w ∷ ps) op (s ∷ ss) = if is_text w s then reads ps op ss else None
reads (number name ∷ ps) op (s ∷ ss) = option_and_then (λ n. reads ps (op n) ss) (id_in s)
reads (text name ∷ ps) op ([] ∷ ss) = None
reads (text name ∷ ps) op ((b ∷ s) ∷ ss) = reads ps (op (b ∷ s)) ss

-- a route that was found: the fields and the body that are read, and what is asked for
pub record Wanted : Type 0 where
  pub fields : List (List ℕ)
  pub body : Body
  pub operation : Operation (List ℕ)

-- a route in front of others, if the path is its own
abbrev pub with_route : Route → Option (Operation (List ℕ)) → List (Method × Wanted) → List (Method × Wanted)
with_route r None others = others
with_route r (Some op) others = (r.method, record { fields = r.fields; body = r.body; operation = op }) ∷ others

-- the routes of a path with these segments, by method
abbrev pub routes_of : List Route → List (List ℕ) → List (Method × Wanted)
routes_of [] ss = []
routes_of (r ∷ rs) ss = with_route r (reads r.path r.operation ss) (routes_of rs ss)

-- the routes of a path, by method: a path begins with a slash
abbrev pub routes_at : List ℕ → List (Method × Wanted)
routes_at [] = []
routes_at (b ∷ p) = cond (b == 47) (routes_of routes (segments p)) []

-- what a method and a path ask for: no route has the path; or its routes have other methods, these; or one has the method
pub data Asked : Type 0 where
  no_route : Asked
  other_methods : List Method → Asked
  asks : Wanted → Asked

abbrev pub asked_by : List Method → Option (Method × Wanted) → Asked
asked_by methods None = other_methods methods
asked_by methods (Some found) = asks found.1

abbrev pub asked_of : List ℕ → List (Method × Wanted) → Asked
asked_of method [] = no_route
asked_of method (r ∷ rs) =
    asked_by (map (λ found. found.0) (r ∷ rs)) (find (λ found. is_text (method_text found.0) method) (r ∷ rs))

-- what a method and a path ask for
abbrev pub asked_in : List ℕ → List ℕ → Asked
asked_in method path = asked_of method (routes_at path)
