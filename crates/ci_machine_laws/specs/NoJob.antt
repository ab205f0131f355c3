-- A runner asks for a job, and there is none for it: why each pending job isn't one that it may be given.
use Rattle.std.specs.Prelude.{◌≡◌, ◌⊎◌, ◌<◌, ℕ, true, false, List, [], All, Contains, Some}
use Rattle.ci_machine_steps.specs.Prelude.{Created, Pending, Attempt, BoardRow, OldestFirst, NewestReadyFirst, Job, Pipeline, Runner, State, status_for, is_live, order_of}
use Rattle.ci_machine_steps.specs.Prelude.{is_pending, HasOneBoard}

-- the job's pipeline is one of this project
abbrev pub IsOfProject : State → ℕ → Job → Type 0
IsOfProject s project job = (p : Pipeline) × Contains s.pipelines p × (p.id ≡ job.pipeline) × (p.project ≡ project)

-- a job of the state has this resource group of the project
pub record HasGroup (s : State) (project : ℕ) (group : List ℕ) (job : Job) : Type 0 where
  pub is_job : Contains s.jobs job
  pub its_group : job.options.resource_group ≡ Some group
  pub of_project : IsOfProject s project job

-- Why jobs of this pipeline must wait for a resource group of the project, where the state's jobs have these rows.
pub data MustWait (s : State) (board : List BoardRow) (project : ℕ) (group : List ℕ) (pipeline : ℕ) : Type 0 where
  -- a job with the group has a live attempt
  held : (other : Job) (a : Attempt) → HasGroup s project group other → Contains s.attempts a → a.job ≡ other.id → is_live a ≡ true → MustWait s board project group pipeline
  -- the group's mode is oldest_first, and a job of an older pipeline with the group is created or pending
  older_first : (other : Job) → HasGroup s project group other → order_of s.modes project group ≡ Some OldestFirst → other.pipeline < pipeline
      → (status_for board other.id ≡ Created) ⊎ (status_for board other.id ≡ Pending) → MustWait s board project group pipeline
  -- the group's mode is newest_ready_first, and a job of a newer pipeline with the group is pending
  newer_first : (other : Job) → HasGroup s project group other → order_of s.modes project group ≡ Some NewestReadyFirst → pipeline < other.pipeline
      → status_for board other.id ≡ Pending → MustWait s board project group pipeline

-- Why the job isn't one that the runner may be given.
pub data IsNotFor (s : State) (board : List BoardRow) (runner : Runner) (job : Job) : Type 0 where
  paused : runner.paused ≡ true → IsNotFor s board runner job
  -- the runner is another project's
  of_other : (own project : ℕ) → runner.project ≡ Some own → IsOfProject s project job → (project ≡ own → ⊥) → IsNotFor s board runner job
  -- the job has no tags, and the runner runs no untagged jobs
  untagged : job.options.tags ≡ [] → runner.untagged ≡ false → IsNotFor s board runner job
  -- the runner lacks a tag of the job
  lacks_tag : (tag : List ℕ) → Contains job.options.tags tag → (Contains runner.tags tag → ⊥) → IsNotFor s board runner job
  -- the job must wait for its resource group
  waits : (project : ℕ) (group : List ℕ) → HasGroup s project group job → MustWait s board project group job.pipeline → IsNotFor s board runner job

-- the runner with the token may be given none of the pending jobs
pub record HasNoJob (s : State) (token : List ℕ) : Type 0 where
  pub one : HasOneBoard s
  pub runner : Runner
  pub is_runner : Contains s.runners runner
  pub its_token : runner.token ≡ token
  pub none : All (λ job. is_pending one.board job ≡ true → IsNotFor s one.board runner job) s.jobs
