-- Which pending jobs are remembered, and when that is right.
use Rattle.std.specs.Prelude.{◌≡◌, ◌≤◌, ℕ, Bool, List, Contains, Option, Some, IfSome, option_map, option_and_then}
use Rattle.ci_machine_steps.specs.Prelude.{Status, is_status, BoardRow, Job, Pipeline, QueuedJob, State, Kept, status_for, job_at, pipeline_at}
use Rattle.ci_memory_queue.specs.declared.queue.Asks.{Asks}
use Rattle.ci_memory_queue.specs.declared.queue.Class.{Class}
use Rattle.ci_memory_queue.specs.declared.queue.Queue.{Queue}
use Rattle.ci_memory_queue.specs.Notes.{Noted, AreKnown}

-- what a job of a pipeline asks of a runner
abbrev pub asked_by : Job → Pipeline → Asks
asked_by j p = record { project = p.project; tags = j.options.tags; group = j.options.resource_group }

-- what the job with a number asks: none where it or its pipeline isn't there
abbrev pub asks_at : State → ℕ → Option Asks
asks_at s n = option_and_then (λ j. option_map (asked_by j) (pipeline_at s j.pipeline)) (job_at s n)

-- what a job asks that is found with its project
abbrev pub asked_of : QueuedJob → Asks
asked_of q = record { project = q.project; tags = q.job.options.tags; group = q.job.options.resource_group }

-- the job with this number is pending: its row says so
abbrev pub is_pending_at : List BoardRow → ℕ → Bool
is_pending_at board n = is_status (status_for board n) Status.Pending

-- A class of those that ask this has the job.
pub record IsAmong (classes : List Class) (asks : Asks) (job : ℕ) : Type 0 where
  pub of : Class
  pub there : Contains classes of
  pub same : of.asks ≡ asks
  pub has : Contains of.jobs.keys job

-- The job is in a class by what it asks, and its pipeline has no greater number than this one.
pub record IsSorted (s : State) (classes : List Class) (newest_pipeline job : ℕ) : Type 0 where
  pub asks : Asks
  pub asked : asks_at s job ≡ Some asks
  pub among : IsAmong classes asks job
  pub pipeline : IfSome (job_at s job) (λ j. j.pipeline ≤ newest_pipeline)

-- each pending job is noted as fresh or in a class by what it asks, and none of them has a greater number than the newest
abbrev pub Covers : List Class → Noted → State → List BoardRow → Type 0
Covers classes notes s board = AreKnown (is_pending_at board) (IsSorted s classes) notes

-- where a queue is remembered, it covers what is kept; nothing remembered is right for all
abbrev pub IsRight : Option Queue → Kept → Type 0
IsRight queue k = IfSome queue (λ q. Covers q.classes.items q.notes k.state k.board)
