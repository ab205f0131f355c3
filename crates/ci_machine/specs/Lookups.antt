-- What is looked up in a state.
use Rattle.std.specs.Prelude.{ℕ, Bool, List, [], filter, find, map, reverse, ◌==◌, ◌&&◌, Option, Some, None, option_map, option_and_then}
use Rattle.std.specs.List.{last_or}
use Rattle.std.specs.Str.{bytes_eq}
use Rattle.ci_board.specs.declared.facts.Status.{Status}
use Rattle.ci_board.specs.Prelude.{is_status}
use Rattle.ci_machine.specs.declared.records.Project.{Project}
use Rattle.ci_machine.specs.declared.records.Variable.{Variable}
use Rattle.ci_machine.specs.declared.records.Runner.{Runner}
use Rattle.ci_machine.specs.declared.records.Pipeline.{Pipeline}
use Rattle.ci_machine.specs.declared.records.Job.{Job}
use Rattle.ci_machine.specs.declared.records.JobVariable.{JobVariable}
use Rattle.ci_machine.specs.declared.records.QueuedJob.{QueuedJob}
use Rattle.ci_machine.specs.declared.records.Demand.{Demand}
use Rattle.ci_machine.specs.declared.records.Attempt.{Attempt}
use Rattle.ci_machine.specs.declared.records.Numbers.{Numbers}
use Rattle.ci_machine.specs.declared.records.BoardRow.{BoardRow}
use Rattle.ci_machine.specs.declared.lease.Lease.{Lease}
use Rattle.ci_machine.specs.declared.change.Counter.{Counter}
use Rattle.ci_machine.specs.State.{State, trace_in}
use Rattle.ci_machine.specs.Statuses.{attempts_of, status_for}
use Rattle.ci_machine.specs.Leases.{is_live}

abbrev pub project_at : State → ℕ → Option Project
project_at s n = find (λ p. p.id == n) s.projects

abbrev pub project_with : State → List ℕ → Option Project
project_with s token = find (λ p. bytes_eq p.token token) s.projects

-- the variables of a project, by their keys
abbrev pub project_variables : State → ℕ → List Variable
project_variables s project = filter (λ v. v.project == project) s.variables

abbrev pub variable_at : State → ℕ → List ℕ → Option Variable
variable_at s project key = find (λ v. (v.project == project) && bytes_eq v.key key) s.variables

abbrev pub runner_at : State → ℕ → Option Runner
runner_at s n = find (λ r. r.id == n) s.runners

abbrev pub runner_with : State → List ℕ → Option Runner
runner_with s token = find (λ r. bytes_eq r.token token) s.runners

abbrev pub pipeline_at : State → ℕ → Option Pipeline
pipeline_at s n = find (λ p. p.id == n) s.pipelines

-- the pipelines of a project, newest first
abbrev pub newest_of : State → ℕ → List Pipeline
newest_of s project = reverse (filter (λ p. p.project == project) s.pipelines)

abbrev pub job_at : State → ℕ → Option Job
job_at s n = find (λ j. j.id == n) s.jobs

-- what a job asks of a runner
abbrev pub demand_of : Job → Demand
demand_of job = record { job = job.id; pipeline = job.pipeline; tags = job.options.tags; resource_group = job.options.resource_group }

abbrev pub demand_at : State → ℕ → Option Demand
demand_at s n = option_map demand_of (job_at s n)

abbrev pub attempt_at : State → ℕ → Option Attempt
attempt_at s n = find (λ a. a.id == n) s.attempts

-- the variables of a job, by their keys
abbrev pub variables_of : State → ℕ → List JobVariable
variables_of s job = filter (λ v. v.job == job) s.job_variables

abbrev pub last_attempt : State → ℕ → Option Attempt
last_attempt s job = last_or None (attempts_of s job)

-- the attempts of a runner, by number
abbrev pub attempts_by : State → ℕ → List Attempt
attempts_by s runner = filter (λ a. a.runner == runner) s.attempts

abbrev pub last_attempt_by : State → ℕ → Option Attempt
last_attempt_by s runner = last_or None (attempts_by s runner)

-- the trace of the attempt with a number
abbrev pub trace_of : State → ℕ → List ℕ
trace_of s attempt = trace_in attempt s.traces

-- the time limit of a job; an attempt's job is always there
abbrev pub limit_or_none : Option Job → ℕ
limit_or_none None = 0
limit_or_none (Some job) = job.options.timeout

abbrev pub lease_of : State → Attempt → Lease
lease_of s a = record { attempt = a; limit = limit_or_none (job_at s a.job) }

abbrev pub lease_at : State → ℕ → Option Lease
lease_at s n = option_map (lease_of s) (attempt_at s n)

-- the attempts that have not ended, by number
abbrev pub live_attempts : State → List Attempt
live_attempts s = filter is_live s.attempts

abbrev pub leases : State → List Lease
leases s = map (lease_of s) (live_attempts s)

-- a job is pending where its row says so
abbrev pub is_pending : List BoardRow → Job → Bool
is_pending board job = is_status (status_for board job.id) Status.Pending

abbrev pub pending_jobs : State → List BoardRow → List Job
pending_jobs s board = filter (is_pending board) s.jobs

-- the project of a pipeline; a job's pipeline is always there
abbrev pub project_or_none : Option Pipeline → ℕ
project_or_none None = 0
project_or_none (Some p) = p.project

abbrev pub queued : State → Job → QueuedJob
queued s job = record { job = job; project = project_or_none (pipeline_at s job.pipeline) }

-- the pending jobs, by number
abbrev pub queue : State → List BoardRow → List QueuedJob
queue s board = map (queued s) (pending_jobs s board)

-- the pipeline of a job, if there is one
abbrev pub pipeline_of : State → Option Job → Option Pipeline
pipeline_of s job = option_and_then (λ j. pipeline_at s j.pipeline) job

-- the trace of an attempt, if there is one
abbrev pub trace_if_any : State → Option Attempt → List ℕ
trace_if_any s None = []
trace_if_any s (Some a) = trace_of s a.id

-- the next number of a kind
abbrev pub next_of : Counter → Numbers → ℕ
next_of Counter.Project next = next.project
next_of Counter.Runner next = next.runner
next_of Counter.Pipeline next = next.pipeline
next_of Counter.Job next = next.job
next_of Counter.Attempt next = next.attempt
