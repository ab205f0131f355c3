-- One life of a server over memory: a project and a runner are made, the project gets a file of one job, a pipeline is made of it, the runner
-- is granted the job, and the server is closed and opened again.
use Rattle.std.specs.Prelude.{◌≡◌, ◌⊎◌, ℕ, false, List, [], ◌∷◌, None, codes}
use Rattle.sqlite.specs.Held.{Held}
use Rattle.ci_memory.specs.declared.remembering.Remembering.{Remembering}
use Rattle.sqlite.specs.Steps.{over_memory}
use Rattle.sqlite_trees.specs.declared.memory.MemStore.{MemStore}
use Rattle.ci_machine_steps.specs.Prelude.{Live, Pending, no_row, Project, Runner, Job, Attempt, BoardRow, Event, Request, NewFile, AddProject, AddRunner, SetFile, CreatePipeline}
use Rattle.ci_machine_steps.specs.Prelude.{AskJob, Answer, M16, M17, refusal, Plan, file_set, given_by, Creation, creation, pipeline_created, State, AreBoard, Does}
use Rattle.ci_machine_steps.specs.Prelude.{project_variables, IsReached}
use Rattle.ci_graph_layout.specs.Prelude.{Config, Given, file}
use Rattle.ci_graph_layout.specs.Examples as layout
use Rattle.ci_machine_laws.specs.Examples.{seed, pipeline, token, project_added, new_runner, runner_added, with_runner, after, laid_by, asked, rows}
use Rattle.ci_store_sqlite.specs.Prelude.{IsFailure}
use Rattle.ci_server.specs.declared.fail_stop.FailStop.{FailStop}
use Rattle.ci_server.specs.Prelude.{HoldsIn, Call, IsHonest, was_made, Operation, called, opened, ComesOf}
use Rattle.ci_server_witness.specs.declared.life.Stop.{Stop}

-- ---- the file, and what it configures

abbrev pub file_text : List ℕ
file_text = codes "build:\n  stage: build\n  script: make\n"

abbrev pub new_file : NewFile
new_file = record { project = 1; token = codes "p1-abababababababababababababababab"; text = file_text }

-- one job
abbrev pub configured : Config
configured = file (record (layout.job (codes "build") (codes "build")) { script = codes "make" ∷ [] } ∷ [])

-- ---- the plans, and the states after them

-- the project before it has the file
abbrev pub owner : Project
owner = record { id = 1; name = codes "p"; token = codes "p1-abababababababababababababababab"; file = None }

abbrev pub file_added : Plan
file_added = file_set owner file_text configured

abbrev pub with_file : State
with_file = after file_added with_runner

abbrev pub given : Given
given = given_by pipeline (project_variables with_file 1)

abbrev pub made : Creation
made = creation 1 1 pipeline given 1000 (laid_by given configured)

-- no job has a resource group, and so no claim is on one
abbrev pub pipeline_made : Plan
pipeline_made = pipeline_created 1 made [] (record no_row { status = Pending } ∷ [])

abbrev pub with_pipeline : State
with_pipeline = after pipeline_made with_file

abbrev pub granted : Plan
granted = asked with_pipeline (rows Pending) token

abbrev pub with_attempt : State
with_attempt = after granted with_pipeline

-- ---- the life

-- the request came at the moment 1000, with the seed of the examples
abbrev pub at_1000 : Request → Call
at_1000 request = (Event.Request request, 1000, seed)

-- the request came, and was answered with the reply of this plan
abbrev pub planned : Request → Plan → Operation
planned request plan = called (at_1000 request) (Answer.Reply plan.0)

-- what came before the grant, the newest first: each request has the machine's own reply
abbrev pub before_grant : List Operation
before_grant =
    planned (CreatePipeline pipeline) pipeline_made
    ∷ planned (SetFile new_file) file_added
    ∷ planned (AddRunner new_runner) runner_added
    ∷ planned (AddProject (codes "p")) project_added
    ∷ []

abbrev pub until_grant : List Operation
until_grant = planned (AskJob token) granted ∷ before_grant

-- and then the server was closed, and opened again
abbrev pub life : List Operation
life = opened ∷ until_grant

abbrev pub InMemory : Type 0
InMemory = FailStop (Remembering (Held MemStore))

-- The server was made and came of these operations, and its disk returned what was written; it is open, and holds this state, to which a history leads.
pub record IsOpenAt (operations : List Operation) (s : State) (server : InMemory) : Type 0 where
  pub came : ComesOf over_memory was_made operations server
  pub honest : IsHonest over_memory server.store
  pub is_open : server.closed ≡ false
  pub reached : IsReached s
  pub holds : HoldsIn over_memory s server.store

-- in the state the request has this plan alone, whatever the rows, and the plan refuses nothing
pub record IsPlanned (s : State) (request : Request) (plan : Plan) : Type 0 where
  pub only : (board : List BoardRow) → AreBoard s board → (p : Plan) → Does s board request 1000 seed p → p ≡ plan
  pub taken : plan.0.code ≡ None

-- Why a server doesn't come: what was called refused, and only for want of memory or since the store failed.
abbrev pub IsCause : Stop → Type 0
IsCause Stop.Memory = Unit {0}
IsCause (Stop.Unopened fault) = IsFailure fault
IsCause (Stop.Refused reply) = (reply ≡ refusal M16) ⊎ (reply ≡ refusal M17)

-- The state has one runner, which has this token, one job and one attempt: the attempt is live, of that job, and was granted to that runner.
pub record IsLeased (s : State) (token : List ℕ) : Type 0 where
  pub runner : Runner
  pub job : Job
  pub attempt : Attempt
  pub one_runner : s.runners ≡ runner ∷ []
  pub one_job : s.jobs ≡ job ∷ []
  pub one_attempt : s.attempts ≡ attempt ∷ []
  pub is_live : attempt.state ≡ Live
  pub its_job : attempt.job ≡ job.id
  pub its_runner : attempt.runner ≡ runner.id
  pub its_token : runner.token ≡ token
