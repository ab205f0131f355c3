-- The rows that reports have of a state.
use Rattle.std.specs.Prelude.{ℕ, Bool, List, length, map, filter, codes, ◌==◌, option_map, if◌then◌else◌}
use Rattle.ci_board.specs.declared.facts.Status.{Status}
use Rattle.ci_board.specs.Prelude.{status_text}
use Rattle.ci_machine.specs.declared.records.Claim.{Claim}
use Rattle.ci_machine.specs.declared.records.Pipeline.{Pipeline}
use Rattle.ci_machine.specs.declared.records.Job.{Job}
use Rattle.ci_machine.specs.declared.records.QueuedJob.{QueuedJob}
use Rattle.ci_machine.specs.declared.records.Runner.{Runner}
use Rattle.ci_machine.specs.declared.records.BoardRow.{BoardRow}
use Rattle.ci_machine.specs.declared.report.ShownStatus.{ShownStatus}
use Rattle.ci_machine.specs.declared.report.ShownStatus.TheVariants.{Plain, WaitsForResource}
use Rattle.ci_machine.specs.declared.report.QueueRow.{QueueRow}
use Rattle.ci_machine.specs.declared.report.JobRow.{JobRow}
use Rattle.ci_machine.specs.declared.report.RunnerRow.{RunnerRow}
use Rattle.ci_machine.specs.State.{State}
use Rattle.ci_machine.specs.Statuses.{jobs_of, attempts_of, status_for}
use Rattle.ci_machine.specs.Lookups.{queue, live_attempts, last_attempt_by}
use Rattle.ci_machine.specs.Eligible.{is_free, resource_free}
use Rattle.ci_machine.specs.Groups.{Groups}
use Rattle.ci_machine.specs.Waiting.{groups_in, claims_in}

-- ---- the status of a job as users are told it

-- of a pending job, by whether its resource group is free
abbrev pub pending_status : Bool → ShownStatus
pending_status free = if free then Plain Status.Pending else WaitsForResource

abbrev pub shown_status : List Claim → ℕ → Job → Status → ShownStatus
shown_status claims project j Status.Pending = pending_status (is_free claims project j.options.resource_group)
shown_status claims project j s = Plain s

abbrev pub shown_text : ShownStatus → List ℕ
shown_text (Plain s) = status_text s
shown_text WaitsForResource = codes "waiting_for_resource"

-- ---- the queue: the pending jobs, by number

abbrev pub queue_row : Groups → QueuedJob → QueueRow
queue_row groups q = record {
  job = q.job.id;
  project = q.project;
  status = pending_status (resource_free groups q);
  name = q.job.name;
}

abbrev pub queue_rows : State → List BoardRow → List QueueRow
queue_rows s board = map (queue_row (groups_in s board)) (queue s board)

-- ---- the jobs of a pipeline, by number

abbrev pub job_row : State → List BoardRow → List Claim → ℕ → Job → JobRow
job_row s board claims project j = record {
  job = j.id;
  status = shown_status claims project j (status_for board j.id);
  tries = length (attempts_of s j.id);
  name = j.name;
}

abbrev pub job_rows : State → List BoardRow → Pipeline → List JobRow
job_rows s board p = map (job_row s board (claims_in s board p.id) p.project) (jobs_of s p.id)

-- ---- the runners, by number

abbrev pub runner_row : State → Runner → RunnerRow
runner_row s r = record {
  runner = r.id;
  paused = r.paused;
  live = length (filter (λ a. a.runner == r.id) (live_attempts s));
  last_grant = option_map (λ a. a.granted) (last_attempt_by s r.id);
  name = r.name;
}

abbrev pub runner_rows : State → List RunnerRow
runner_rows s = map (runner_row s) s.runners
