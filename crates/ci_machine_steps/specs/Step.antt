-- One step of the machine: what an event does, by what the state holds and by the statuses of its jobs, and then its changes applied.
use Rattle.std.specs.Prelude.{◌≡◌, ℕ, List, [], ◌∷◌, length, Option, Some, None, Result, option_and_then}
use Rattle.ci_machine.specs.declared.records.Project.{Project}
use Rattle.ci_machine.specs.declared.records.Runner.{Runner}
use Rattle.ci_machine.specs.declared.records.Pipeline.{Pipeline}
use Rattle.ci_machine.specs.declared.records.Job.{Job}
use Rattle.ci_machine.specs.declared.records.JobVariable.{JobVariable}
use Rattle.ci_machine.specs.declared.records.QueuedJob.{QueuedJob}
use Rattle.ci_machine.specs.declared.request.Request.{Request}
use Rattle.ci_machine.specs.declared.request.Request.TheVariants.{AddProject, AddRunner, PauseRunner, SetFile, SetVariable, DeleteVariable, SetMode, ShowMode, CreatePipeline, ShowPipeline, AskJob, UpdateJob, AppendTrace, ShowJob, ShowTrace, Read, Play, CancelJob, CancelPipeline, RetryJob, PruneOne}
use Rattle.ci_machine.specs.declared.request.JobQuery.{JobQuery}
use Rattle.ci_machine.specs.declared.request.PipelineQuery.{PipelineQuery}
use Rattle.ci_machine.specs.declared.request.Event.{Event}
use Rattle.ci_machine.specs.declared.request.Seed.{Seed}
use Rattle.ci_machine.specs.declared.change.RowChange.{RowChange}
use Rattle.ci_machine.specs.declared.reply.Swept.{Swept}
use Rattle.ci_machine.specs.declared.reply.Answer.{Answer}
use Rattle.ci_machine.specs.declared.records.BoardRow.{BoardRow}
use Rattle.ci_machine.specs.Prelude.{State, applied, jobs_of, attempts_of, facts_of, rows_of, status_for, AreBoard, order_of, groups_in, claims_in, chosen, first_due}
pub use Rattle.ci_machine.specs.Lookups.{project_at, project_with, project_variables, variable_at, runner_at, runner_with, pipeline_at, job_at, demand_of, demand_at, attempt_at, variables_of, last_attempt, trace_of, limit_or_none, lease_of, lease_at, live_attempts, leases, is_pending, pending_jobs, project_or_none, queued, queue, pipeline_of, trace_if_any, next_of}
pub use Rattle.ci_machine.specs.Indexes.{with_status, was_tried, redundant_in}
use Rattle.ci_machine_steps.specs.Plans.{Plan, asked_project}
use Rattle.ci_machine_steps.specs.Projects.{add_project}
use Rattle.ci_machine_steps.specs.Runners.{add_runner, pause_runner}
use Rattle.ci_machine_steps.specs.Files.{SetsFile}
use Rattle.ci_machine_steps.specs.Variables.{set_variable, delete_variable}
use Rattle.ci_machine_steps.specs.Modes.{set_mode, show_mode}
use Rattle.ci_machine_steps.specs.Pipelines.{may_create, given_by, Creates}
use Rattle.ci_machine_steps.specs.Grants.{ask_job}
use Rattle.ci_machine_steps.specs.Reports.{update_job}
use Rattle.ci_machine_steps.specs.Traces.{append_trace}
use Rattle.ci_machine.specs.declared.reply.Code.{Code}
use Rattle.ci_machine.specs.declared.reply.Code.TheVariants.{M10, M11, M12}
use Rattle.ci_machine_steps.specs.Shows.{asked_job, asked_pipeline, show_pipeline, show_job, show_trace}
use Rattle.ci_machine_steps.specs.Reads.{read}
use Rattle.ci_machine_steps.specs.Acts.{permitted, ActsOn}
use Rattle.ci_machine_steps.specs.Plays.{is_playable, play}
use Rattle.ci_machine_steps.specs.Retries.{is_retryable, retry}
use Rattle.ci_machine_steps.specs.Cancels.{is_cancellable, cancellable_jobs, cancel, CancelsPipeline}
use Rattle.ci_machine_steps.specs.Sweeps.{sweep}
use Rattle.ci_machine_steps.specs.Prunes.{prunable_in, prune}

-- ---- what an event asks of a state and its rows

-- the job that the runner, if there is one, is offered
abbrev pub offer : State → List BoardRow → Option Runner → Option QueuedJob
offer s board runner = option_and_then (chosen (queue s board) (groups_in s board)) runner

abbrev pub offered_variables : State → Option QueuedJob → List JobVariable
offered_variables s None = []
offered_variables s (Some q) = variables_of s q.job.id

-- the pipeline of a job; where there is none, nothing is asked of it
abbrev pub pipeline_or_none : Option Job → ℕ
pipeline_or_none None = 0
pipeline_or_none (Some job) = job.pipeline

-- the job that a query names, of the project whose token it has
abbrev pub found_job : State → JobQuery → Result Job Code
found_job s query =
    let job = job_at s query.job in
    asked_job (project_with s query.token) job (pipeline_of s job) query

-- the pipeline that a query names, of the project whose token it has
abbrev pub found_pipeline : State → PipelineQuery → Result Pipeline Code
found_pipeline s query = asked_pipeline (asked_project (project_with s query.token) query.project) (pipeline_at s query.pipeline)

-- the project that a runner is to be of, if it is to be of one and that is there
abbrev pub project_named : State → Option ℕ → Option Project
project_named s named = option_and_then (project_at s) named

-- the jobs of a pipeline, if there is one, that can be cancelled
abbrev pub cancellable_in : State → List BoardRow → Option Pipeline → List Job
cancellable_in s board None = []
cancellable_in s board (Some p) = cancellable_jobs s board p.id

-- the jobs of a pipeline, if there is one
abbrev pub jobs_in : State → Option Pipeline → List Job
jobs_in s None = []
jobs_in s (Some p) = jobs_of s p.id

-- what a sweep does at a moment in a state whose jobs have these rows
abbrev pub sweep_in : State → List BoardRow → ℕ → Swept × List RowChange
sweep_in s board now =
    let redundant = redundant_in s board in
    sweep (first_due (leases s) now) redundant s.attempts (cancellable_in s board redundant)

-- ---- the step

-- what a request does in a state whose jobs have these rows
abbrev pub Does : State → List BoardRow → Request → ℕ → Seed → Plan → Type 0
Does s board (AddProject name) now seed plan = plan ≡ add_project s.next.project name seed
Does s board (AddRunner new) now seed plan = plan ≡ add_runner s.next.runner (project_named s new.project) new seed
Does s board (PauseRunner pause) now seed plan = plan ≡ pause_runner (runner_at s pause.runner) pause.paused
Does s board (SetFile new) now seed plan = SetsFile (asked_project (project_with s new.token) new.project) new.text plan
Does s board (SetVariable new) now seed plan = plan ≡ set_variable (asked_project (project_with s new.token) new.project) (project_variables s new.project) new
Does s board (DeleteVariable query) now seed plan = plan ≡ delete_variable (asked_project (project_with s query.token) query.project) (variable_at s query.project query.key)
Does s board (SetMode new) now seed plan = plan ≡ set_mode (asked_project (project_with s new.token) new.project) new
Does s board (ShowMode query) now seed plan = plan ≡ show_mode (asked_project (project_with s query.token) query.project) (order_of s.modes query.project query.group) query.group
Does s board (CreatePipeline new) now seed plan =
    Creates s new (given_by new (project_variables s new.project)) now (may_create (asked_project (project_with s new.token) new.project) new) plan
Does s board (AskJob token) now seed plan =
    let runner = runner_with s token in
    let offered = offer s board runner in
    plan ≡ ask_job runner offered (offered_variables s offered) s.next.attempt now seed
Does s board (UpdateJob update) now seed plan = plan ≡ update_job (lease_at s update.attempt) update now
Does s board (AppendTrace part) now seed plan = plan ≡ append_trace (lease_at s part.attempt) (length (trace_of s part.attempt)) part now
Does s board (ShowPipeline query) now seed plan =
    let n = query.pipeline in
    plan ≡ show_pipeline (asked_pipeline (asked_project (project_with s query.token) query.project) (pipeline_at s n)) (claims_in s board n) (jobs_of s n) (facts_of s n) (rows_of s board n)
Does s board (ShowJob query) now seed plan =
    let job = job_at s query.job in
    plan ≡ show_job (project_with s query.token) job (pipeline_of s job) (claims_in s board (pipeline_or_none job)) (status_for board query.job) query
Does s board (ShowTrace query) now seed plan =
    let job = job_at s query.job in
    plan ≡ show_trace (project_with s query.token) job (pipeline_of s job) (trace_if_any s (last_attempt s query.job)) query
Does s board (Read query) now seed plan = plan ≡ read s board (asked_project (project_with s query.token) query.project) query.subject
Does s board (Play query) now seed plan = ActsOn s play (permitted board is_playable M10 (found_job s query)) plan
Does s board (CancelJob query) now seed plan = ActsOn s (λ j. cancel s.attempts (j ∷ [])) (permitted board is_cancellable M12 (found_job s query)) plan
Does s board (RetryJob query) now seed plan = ActsOn s (λ j. retry (attempts_of s j.id) j) (permitted board is_retryable M11 (found_job s query)) plan
Does s board (CancelPipeline query) now seed plan = CancelsPipeline s board (found_pipeline s query) plan
Does s board (PruneOne before) now seed plan =
    let found = prunable_in s board before in
    plan ≡ prune found (jobs_in s found) s.attempts

-- what an event does in a state whose jobs have these rows: a request is answered by a reply, and a sweep by what it did
abbrev pub Happens : State → List BoardRow → Event → ℕ → Seed → Answer → List RowChange → Type 0
Happens s board (Event.Request request) now seed (Answer.Reply reply) changes = Does s board request now seed (reply, changes)
Happens s board Event.Sweep now seed (Answer.Swept swept) changes = (swept, changes) ≡ sweep_in s board now
Happens s board (Event.Request request) now seed (Answer.Swept swept) changes = ⊥
Happens s board Event.Sweep now seed (Answer.Reply reply) changes = ⊥

-- From a state an event, at a moment and with a seed, leads to an answer and the next state. Neither has statuses: the step asks for the
-- rows of the state before, and there are those of the state after.
pub record Step (s : State) (e : Event) (now : ℕ) (seed : Seed) (a : Answer) (t : State) : Type 0 where
  pub before : List BoardRow
  pub are_before : AreBoard s before
  pub changes : List RowChange
  pub happens : Happens s before e now seed a changes
  pub state : t ≡ applied changes s
  pub after : List BoardRow
  pub are_after : AreBoard t after
