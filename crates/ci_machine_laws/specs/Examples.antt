-- Worked examples: a first project, a runner, a pipeline of two jobs, and the runner's requests, each one computed.
use Rattle.std.specs.Prelude.{ℕ, true, false, List, [], ◌∷◌, length, map, filter, Option, Some, None, Result, Ok, codes, replicate}
use Rattle.std.specs.List.{flat_map}
use Rattle.std.specs.Str.{bytes_eq}
use Rattle.ci_machine_steps.specs.Prelude.{Status, Pending, Row, no_row, Variables, BoardRow, Lease, Project, Variable, Job, Branch, Api, Attempt, AttemptState, Live, NewRunner}
use Rattle.ci_machine_steps.specs.Prelude.{NewFile, NewVariable, PipelineVariable, NewPipeline, Report, JobQuery, Seed, RowChange, Put, Record, Code, Swept, body_text, State}
use Rattle.ci_machine_steps.specs.Prelude.{empty, applied, status_for, claims_in, Plan, add_project, add_runner, plain_options, given_by, Layout, merged, Creation, creation}
use Rattle.ci_machine_steps.specs.Prelude.{creation_changes, pipeline_created, ask_job, update_job, append_trace, show_job, show_trace, project_with, project_named}
use Rattle.ci_machine_steps.specs.Prelude.{project_variables, runner_with, pipeline_of, job_at, pipeline_or_none, last_attempt, trace_of, trace_if_any, lease_at, offer}
use Rattle.ci_machine_steps.specs.Prelude.{offered_variables, sweep_in}
use Rattle.ci_graph_layout.specs.Prelude.{Config, Given, layered, included, put, lineup, pairs, file}
use Rattle.ci_graph_layout.specs.Examples as layout

-- sixteen bytes ab
abbrev pub seed : Seed
seed = record { 0 = replicate 16 171 }

-- the body of the reply
abbrev pub reply_text : Plan → List ℕ
reply_text plan = body_text plan.0

-- the state after the changes
abbrev pub after : {A : Type 0} → A × List RowChange → State → State
after plan s = applied plan.1 s

-- a project `p` in the empty state
abbrev pub project_added : Plan
project_added = add_project empty.next.project (codes "p") seed

abbrev pub with_project : State
with_project = after project_added empty

-- then a runner `r` of the instance, which has no tags and runs untagged jobs
abbrev pub new_runner : NewRunner
new_runner = record { name = codes "r"; project = None; tags = []; untagged = true }

abbrev pub runner_added : Plan
runner_added = add_runner with_project.next.runner (project_named with_project new_runner.project) new_runner seed

abbrev pub with_runner : State
with_runner = after runner_added with_project

-- then a pipeline of `main` at the moment 1000, by the file `build:` with `stage: build`, `script: make`, and `unit:` with
-- `script: [make test]`
abbrev pub configured : Config
configured = file (record (layout.job (codes "build") (codes "build")) { script = codes "make" ∷ [] } ∷ record (layout.job (codes "unit") (codes "test")) { script = codes "make test" ∷ [] } ∷ [])

abbrev pub pipeline : NewPipeline
pipeline = record { project = 1; token = codes "p1-abababababababababababababababab"; git_ref = codes "main"; kind = Branch; source = Api; variables = [] }

-- what a configuration lays out
abbrev pub laid_by : Given → Config → Layout
laid_by given c = record { config = c; plan = record { jobs = lineup given c; pairs = pairs c.stages (lineup given c) } }

abbrev pub given : Given
given = given_by pipeline (project_variables with_runner pipeline.project)

abbrev pub made : Creation
made = creation with_runner.next.pipeline with_runner.next.job pipeline given 1000 (laid_by given configured)

-- the second waits for the first
abbrev pub first_rows : List Row
first_rows = record no_row { status = Pending } ∷ record no_row { opens = 1 } ∷ []

-- the board of the state that has it
abbrev pub first_board : List BoardRow
first_board = (record { job = 1; row = record no_row { status = Pending } }) ∷ (record { job = 2; row = record no_row { opens = 1 } }) ∷ []

abbrev pub pipeline_made : Plan
pipeline_made = pipeline_created with_runner.next.job made (claims_in (applied (creation_changes with_runner.next.job made) with_runner) first_board made.pipeline.id) first_rows

abbrev pub with_pipeline : State
with_pipeline = after pipeline_made with_runner

-- the rows of both jobs, where the first has this status and leaves the second open
abbrev pub two_rows : Status → List BoardRow
two_rows status = (record { job = 1; row = record no_row { status = status } }) ∷ (record { job = 2; row = record no_row { opens = 1 } }) ∷ []

-- the row of the job 1, where it waits for no other
abbrev pub rows : Status → List BoardRow
rows status = (record { job = 1; row = record no_row { status = status } }) ∷ []

-- then a job request of that token
abbrev pub asked : State → List BoardRow → List ℕ → Plan
asked s board token =
    let runner = runner_with s token in
    let offered = offer s board runner in
    ask_job runner offered (offered_variables s offered) s.next.attempt 1000 seed

abbrev pub token : List ℕ
token = codes "r1-abababababababababababababababab"

abbrev pub granted : Plan
granted = asked with_pipeline (two_rows Pending) token

abbrev pub with_attempt : State
with_attempt = after granted with_pipeline

-- ---- what refuses a pipeline before its file is read

-- of a project with this file
abbrev pub project_of : Option (List ℕ) → Result Project Code
project_of file = Ok (record { id = 1; name = codes "p"; token = codes "p"; file = file })

abbrev pub pair : List ℕ → List ℕ → PipelineVariable
pair name value = record { key = name; value = value }

abbrev pub with_variables : List PipelineVariable → NewPipeline
with_variables vs = record pipeline { variables = vs }

-- ---- variables of a project

abbrev pub new_variable : List ℕ → NewVariable
new_variable name = record { project = 1; token = codes "p"; key = name; value = codes "v" }

abbrev pub old_variable : List ℕ → Variable
old_variable name = record { project = 1; key = name; value = [] }

-- a hundred of them, the first with this name
abbrev pub hundred : List ℕ → List Variable
hundred name = old_variable name ∷ replicate 99 (old_variable (codes "B"))

abbrev pub put_variable : List ℕ → List RowChange
put_variable name = Put (Record.Variable (record { project = 1; key = name; value = codes "v" })) ∷ []

-- ---- the layers of variables: `CI_JOB_STAGE` of a job in `test`

abbrev pub stage : List ℕ
stage = codes "CI_JOB_STAGE"

abbrev pub set_to : List ℕ → List (List ℕ × List ℕ)
set_to value = (stage, value) ∷ []

-- where the pipeline, the project, the rule that includes the job, the job and the file set it so
abbrev pub stage_by : Variables → Variables → Variables → Variables → Variables → List (List ℕ)
stage_by own project rule job top =
    let g : Given = record { pipeline = own; project = project; predefined = [] } in
    let c : Config = record configured { variables = top } in
    let j = record (layout.job (codes "unit") (codes "test")) { variables = job; rules = Some ((record { condition = None; when = None; allow_failure = None; variables = rule }) ∷ []) } in
    map (λ v. v.1) (flat_map (λ i. filter (λ v. bytes_eq v.0 stage) (merged (layered g c i.job i.variables))) (put (included g c j) []))

-- ---- an attempt granted at 1000

abbrev pub attempt : ℕ → AttemptState → Attempt
attempt seen state = record { id = 1; job = 1; runner = 1; token = []; granted = 1000; seen = seen; state = state }

abbrev pub lease : ℕ → ℕ → Lease
lease seen limit = record { attempt = attempt seen Live; limit = limit }

-- that attempt of the job 1, which has a limit of an hour, in the project 1 with the token `p`
abbrev pub job : Job
job = record { id = 1; pipeline = 1; position = 0; name = codes "build"; stage = codes "build"; options = plain_options []; played = false; cancelled = false; set_aside = 0 }

abbrev pub leased : State
leased = record empty {
  projects = (record { id = 1; name = codes "p"; token = codes "p"; file = None }) ∷ [];
  pipelines = (record { id = 1; project = 1; git_ref = codes "main"; kind = Branch; source = Api; created = 1000 }) ∷ [];
  jobs = job ∷ [];
  attempts = attempt 1000 Live ∷ [];
}

-- the project has this file
abbrev pub with_file : Option (List ℕ) → State
with_file file = record leased { projects = (record { id = 1; name = codes "p"; token = codes "p"; file = file }) ∷ [] }

-- this text is to be its file
abbrev pub new_file : List ℕ → NewFile
new_file text = record { project = 1; token = codes "p"; text = text }

-- a pipeline is to be made with this token
abbrev pub by_token : List ℕ → NewPipeline
by_token token = record pipeline { token = token }

-- its runner sends these bytes of its trace
abbrev pub sent : State → ℕ → List ℕ → ℕ → Plan
sent s from bytes now = append_trace (lease_at s 1) (length (trace_of s 1)) (record { attempt = 1; token = []; from = from; bytes = bytes }) now

-- a runner says with this token how it stands
abbrev pub said : State → List ℕ → Report → ℕ → Plan
said s token report now = update_job (lease_at s 1) (record { attempt = 1; token = token; report = report }) now

abbrev pub swept : State → List BoardRow → ℕ → Swept × List RowChange
swept s board now = sweep_in s board now

abbrev pub query : ℕ → ℕ → List ℕ → JobQuery
query project number token = record { project = project; token = token; job = number }

abbrev pub job_shown : State → List BoardRow → JobQuery → Plan
job_shown s board q = show_job (project_with s q.token) (job_at s q.job) (pipeline_of s (job_at s q.job)) (claims_in s board (pipeline_or_none (job_at s q.job))) (status_for board q.job) q

abbrev pub trace_shown : State → JobQuery → Plan
trace_shown s q = show_trace (project_with s q.token) (job_at s q.job) (pipeline_of s (job_at s q.job)) (trace_if_any s (last_attempt s q.job)) q

abbrev pub hello : State
hello = after (sent leased 0 (codes "hello") 1119) leased

abbrev pub hello_world : State
hello_world = after (sent hello 5 (codes "world") 1119) hello
