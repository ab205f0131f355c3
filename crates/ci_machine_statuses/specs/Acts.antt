-- What a user does to jobs of a pipeline: whether their statuses permit it, the changes, and what becomes of their facts.
use Rattle.std.specs.Prelude.{◌≡◌, ◌<◌, ℕ, Bool, true, false, ◌&&◌, ◌==◌, List, [], ◌++◌, length, map, filter, All, if◌then◌else◌, Option, Some, None, slice_index_or}
use Rattle.ci_machine_steps.specs.Prelude.{AttemptState, Live, Cancelled, Facts, FactsChange, Row, Status, facts_at, Job, Attempt, RowChange, Put, Record, BoardRow, State, applied}
use Rattle.ci_machine_steps.specs.Prelude.{put_rows, jobs_of, numbers_of, attempts_of, facts_in, facts_of, rows_of, status_for, AreRowsOf, AreBoard, Pipeline, queued, claims_in}
use Rattle.ci_machine_steps.specs.Prelude.{Plan, job_shown, pipeline_shown, is_playable, is_retryable, is_cancellable, is_lease_on, cancelled_job, cancelled_attempt}
use Rattle.ci_machine.specs.Prelude.{number_at}
use Rattle.ci_board.specs.Prelude.{row_at}
use Rattle.ci_machine_statuses.specs.declared.act.Act.{Act}
use Rattle.ci_machine_statuses.specs.declared.act.Act.TheVariants.{Play, Retry, Cancel}
use Rattle.ci_machine_statuses.specs.declared.outcome.Outcome.{Outcome}
use Rattle.ci_machine_statuses.specs.Boards.{changed_rows}

-- it can be done to a job of this status
abbrev pub is_permitted : Act → Status → Bool
is_permitted Play status = is_playable status
is_permitted Retry status = is_retryable status
is_permitted Cancel status = is_cancellable status

-- the job to which it was done
abbrev pub marked : Act → State → Job → Job
marked Play s j = record j { played = true }
marked Retry s j = record j { set_aside = length (attempts_of s j.id); cancelled = false }
marked Cancel s j = cancelled_job j

-- the leases, of these attempts, that end where it is done to these jobs
abbrev pub ended_leases : Act → List Attempt → List Job → List Attempt
ended_leases Play attempts jobs = []
ended_leases Retry attempts jobs = []
ended_leases Cancel attempts jobs = filter (is_lease_on jobs) attempts

-- it is done to these jobs, all at once
abbrev pub act_changes : Act → State → List Job → List RowChange
act_changes act s jobs = map (λ j. Put (Record.Job (marked act s j))) jobs ++ map (λ a. Put (Record.Attempt (cancelled_attempt a))) (ended_leases act s.attempts jobs)

-- a lease ends as cancelled, and what has ended stays
abbrev pub cancelled_last : Option AttemptState → Option AttemptState
cancelled_last None = None
cancelled_last (Some Live) = Some Cancelled
cancelled_last (Some ended) = Some ended

-- the facts of a job to which it was done
abbrev pub acted : Act → Facts → Facts
acted Play f = record f { played = true }
acted Retry f = record f { attempts = 0; cancelled = false }
acted Cancel f = record f { last = cancelled_last f.last; cancelled = true }

-- the facts of a pipeline's jobs where it was done to those that pass a test
abbrev pub facts_acted : Act → State → ℕ → (Job → Bool) → List Facts
facts_acted act s pipeline test = map (λ j. if test j then acted act (facts_in s j) else facts_in s j) (jobs_of s pipeline)

-- ---- to which jobs it is done

-- the job with this number is asked for, or all of a pipeline are
abbrev pub is_asked : Option ℕ → ℕ → Bool
is_asked None n = true
is_asked (Some only) n = n == only

-- the job is asked for, and its status permits it
abbrev pub is_acted_on : Act → Option ℕ → List BoardRow → Job → Bool
is_acted_on act only board j = is_asked only j.id && is_permitted act (status_for board j.id)

-- the jobs of a pipeline to which it is done: one set, by the statuses of the state before
abbrev pub acted_jobs : Act → Option ℕ → State → List BoardRow → ℕ → List Job
acted_jobs act only s board pipeline = filter (is_acted_on act only board) (jobs_of s pipeline)

-- the state after
abbrev pub acted_state : Act → Option ℕ → State → List BoardRow → ℕ → State
acted_state act only s board pipeline = applied (act_changes act s (acted_jobs act only s board pipeline)) s

-- ---- on a board

-- the job at this place is one of them, where jobs have these numbers and rows
abbrev pub is_acted_at : Act → Option ℕ → List ℕ → List Row → ℕ → Bool
is_acted_at act only numbers rows place = is_asked only (number_at numbers place) && is_permitted act (row_at rows place).status

-- the new facts of the job at a place
abbrev pub facts_change : Act → List Facts → ℕ → FactsChange
facts_change act facts place = record { position = place; facts = acted act (facts_at facts place) }

-- ---- what is shown

-- these changes, and the reply that shows the job with this status, where the state after them has this board
abbrev pub shows_job_by : State → List BoardRow → List RowChange → Job → Status → Plan
shows_job_by s after changes job status = let t = applied changes s in ((job_shown (claims_in t after job.pipeline) (queued t job).project job status).0, changes)

-- and the one that shows the pipeline with these jobs, facts and rows
abbrev pub shows_pipeline_by : State → List BoardRow → List RowChange → Pipeline → List Job → List Facts → List Row → Plan
shows_pipeline_by s after changes p jobs facts rows = let t = applied changes s in ((pipeline_shown p (claims_in t after p.id) jobs facts rows).0, changes)

-- What becomes of a pipeline: to which of its jobs it is done, their facts and rows after it, and the rows that are put,
-- which are those that differ.
pub record IsOutcome (act : Act) (only : Option ℕ) (s : State) (before : List BoardRow) (pipeline : ℕ) (outcome : Outcome) : Type 0 where
  pub within : All (λ place. place < length (jobs_of s pipeline)) outcome.places.items
  pub jobs : (other : Job) → map (λ place. slice_index_or (jobs_of s pipeline) place other) outcome.places.items ≡ acted_jobs act only s before pipeline
  pub facts : outcome.facts.items ≡ facts_of (acted_state act only s before pipeline) pipeline
  pub rows : AreRowsOf (acted_state act only s before pipeline) pipeline outcome.rows.items
  pub differing : outcome.changed.items ≡ changed_rows (numbers_of s pipeline) (rows_of s before pipeline) outcome.rows.items
  pub board : AreBoard (acted_state act only s before pipeline) (put_rows outcome.changed.items before)
