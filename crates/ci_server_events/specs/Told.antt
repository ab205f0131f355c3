-- What is told of what was looked up.
use Rattle.std.specs.Prelude.{◌≡◌, ℕ, List, length, filter, ◌==◌, Option, Some, None, option_map}
use Rattle.ci_machine_steps.specs.Prelude.{Attempt, BoardRow, Claim, Job, Pipeline, QueueRow, JobRow, PipelineRows, with_status, queue_row, shown_status, job_rows, State}
use Rattle.ci_machine_steps.specs.Prelude.{status_for, groups_in, queued_at}

-- the job of a row, which is pending
abbrev pub row_told : State → List BoardRow → BoardRow → Option QueueRow
row_told s board r = option_map (queue_row (groups_in s board)) (queued_at s r.job)

-- a job of a project, by these attempts and rows, and the claims for which it must wait
abbrev pub job_told : List Claim → ℕ → List Attempt → List BoardRow → Job → JobRow
job_told claims project attempts board j = record {
  job = j.id;
  status = shown_status claims project j (status_for board j.id);
  tries = length (filter (λ a. a.job == j.id) attempts);
  name = j.name;
}

-- the pipeline, if there is one, is told with its status and its jobs
abbrev pub TellsPipeline : State → List BoardRow → Option Pipeline → Option PipelineRows → Type 0
TellsPipeline s board None told = told ≡ None
TellsPipeline s board (Some p) None = ⊥
TellsPipeline s board (Some p) (Some told) = (told.head ≡ with_status s board p) × (told.jobs.items ≡ job_rows s board p)
