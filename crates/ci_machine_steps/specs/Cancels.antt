-- Jobs are cancelled: all of a pipeline that can be, or one.
use Rattle.std.specs.Prelude.{◌≡◌, ℕ, Bool, true, false, ◌&&◌, ◌==◌, List, [], ◌∷◌, ◌++◌, map, filter, Result, Ok, Err}
use Rattle.std.specs.List.{list_any}
use Rattle.ci_machine.specs.Prelude.{Cancelled, Status, State, jobs_of, status_for, is_live}
use Rattle.ci_machine.specs.declared.records.Pipeline.{Pipeline}
use Rattle.ci_machine.specs.declared.records.Job.{Job}
use Rattle.ci_machine.specs.declared.records.Attempt.{Attempt}
use Rattle.ci_machine.specs.declared.records.BoardRow.{BoardRow}
use Rattle.ci_machine.specs.declared.change.RowChange.{RowChange}
use Rattle.ci_machine.specs.declared.change.RowChange.TheVariants.{Put}
use Rattle.ci_machine.specs.declared.change.Record.{Record}
use Rattle.ci_machine.specs.declared.reply.Code.{Code}
use Rattle.ci_machine.specs.declared.reply.Code.TheVariants.{M12}
use Rattle.ci_machine_steps.specs.Plans.{Plan, refused}
use Rattle.ci_machine_steps.specs.Acts.{ShowsPipelineAfter}

-- a job of this status can be cancelled
abbrev pub is_cancellable : Status → Bool
is_cancellable Status.Created = true
is_cancellable Status.Pending = true
is_cancellable Status.Running = true
is_cancellable Status.Manual = true
is_cancellable _ = false

-- The jobs of a pipeline that can be cancelled: one set, by the statuses of the state before. Cancelled one after the other they
-- would be fewer, since a job that waits for a cancelled one is skipped.
abbrev pub cancellable_jobs : State → List BoardRow → ℕ → List Job
cancellable_jobs s board pipeline = filter (λ j. is_cancellable (status_for board j.id)) (jobs_of s pipeline)

-- the attempt is the lease on one of these jobs
abbrev pub is_lease_on : List Job → Attempt → Bool
is_lease_on jobs a = is_live a && list_any (λ j. j.id == a.job) jobs

abbrev pub cancelled_job : Job → Job
cancelled_job j = record j { cancelled = true }

abbrev pub cancelled_attempt : Attempt → Attempt
cancelled_attempt a = record a { state = Cancelled }

-- each of these jobs is marked as cancelled, and each lease on one of them, of these attempts, ends as cancelled
abbrev pub cancel : List Attempt → List Job → List RowChange
cancel attempts jobs = map (λ j. Put (Record.Job (cancelled_job j))) jobs ++ map (λ a. Put (Record.Attempt (cancelled_attempt a))) (filter (is_lease_on jobs) attempts)

-- these jobs of the pipeline are cancelled, if there are any
abbrev pub CancelsSome : State → Pipeline → List Job → Plan → Type 0
CancelsSome s p [] plan = plan ≡ refused M12
CancelsSome s p (j ∷ js) plan = ShowsPipelineAfter s p (cancel s.attempts (j ∷ js)) plan

-- all jobs of the pipeline that was asked for are cancelled that can be, where the jobs have these rows
abbrev pub CancelsPipeline : State → List BoardRow → Result Pipeline Code → Plan → Type 0
CancelsPipeline s board (Err code) plan = plan ≡ refused code
CancelsPipeline s board (Ok p) plan = CancelsSome s p (cancellable_jobs s board p.id) plan
