-- The statuses of a state's jobs are one assignment: within a pipeline no job waits for itself, by way of whatever others.
use Rattle.std.specs.Prelude.{◌≡◌, ℕ, ◌<◌, true, List, [], ◌∷◌, length, filter, All, Contains}
use Rattle.ci_machine.specs.Prelude.{AreWithin, IsAcyclic, Status, IsAssignment, State, jobs_of, pairs_of, graph_of, facts_of, AreBoard, is_pending}
use Rattle.ci_machine.specs.declared.records.Job.{Job}
use Rattle.ci_machine.specs.declared.records.Need.{Need}
use Rattle.ci_machine.specs.declared.records.Attempt.{Attempt}
use Rattle.ci_machine.specs.declared.records.BoardRow.{BoardRow}
use Rattle.ci_machine_steps.specs.History.{Past}
use Rattle.ci_machine_steps.specs.Laws.{grants}

-- the job that waits and the one that it waits for are there, in one pipeline
pub record JoinsOnePipeline (s : State) (w : Need) : Type 0 where
  pub job : Job
  pub pred : Job
  pub is_job : Contains s.jobs job
  pub is_pred : Contains s.jobs pred
  pub its_job : job.id ≡ w.job
  pub its_pred : pred.id ≡ w.pred
  pub one_pipeline : job.pipeline ≡ pred.pipeline

-- each need joins two jobs of one pipeline; and the pairs of each pipeline are of its jobs, and no walk along them returns to its start
pub record HasNoCircle (s : State) : Type 0 where
  pub joined : All (JoinsOnePipeline s) s.needs
  pub within : (pipeline : ℕ) → AreWithin (length (jobs_of s pipeline)) (pairs_of s pipeline)
  pub acyclic : (pipeline : ℕ) → IsAcyclic (pairs_of s pipeline)

-- The state's jobs have one status each: there are rows of them, and no others; and any two assignments of statuses to the jobs of a pipeline are
-- the same.
pub record HasOneBoard (s : State) : Type 0 where
  pub board : List BoardRow
  pub are_board : AreBoard s board
  pub only : (other : List BoardRow) → AreBoard s other → other ≡ board
  pub one_assignment : (pipeline : ℕ) (a b : ℕ → Status) → IsAssignment (graph_of s pipeline) (facts_of s pipeline) a → IsAssignment (graph_of s pipeline) (facts_of s pipeline) b
      → (i : ℕ) → i < length (jobs_of s pipeline) → a i ≡ b i

-- the job's status is pending, in the state's one board
pub record IsPendingIn (s : State) (job : Job) : Type 0 where
  pub one : HasOneBoard s
  pub pending : is_pending one.board job ≡ true

-- just one line of the history granted the attempt, and in the state before it the attempt's job had the status pending
pub record WasPending (h : List Past) (a : Attempt) : Type 0 where
  pub line : Past
  pub once : filter (grants a.id) h ≡ line ∷ []
  pub job : Job
  pub is_job : Contains line.before.jobs job
  pub its_job : job.id ≡ a.job
  pub pending : IsPendingIn line.before job
