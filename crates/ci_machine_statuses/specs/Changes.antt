-- What changes of a state do to the statuses of its jobs.
use Rattle.std.specs.Prelude.{◌≡◌, ◌≤◌, ℕ, true, false, List, ◌++◌, map, All, Contains}
use Rattle.std.specs.Ordering.{nat_cmp}
use Rattle.std.specs.List.Sorted.{IsStrictlySortedBy}
use Rattle.ci_machine_steps.specs.Prelude.{Status, Job, Need, Attempt, BoardRow, Record, Key, RowChange, Put, Append, Remove, is_live, State, numbers_of, graph_of, facts_of}
use Rattle.ci_machine_steps.specs.Prelude.{row_for}

-- Between two states the jobs of each pipeline are the same, with the same graph; and the facts of every pipeline but this one.
pub record IsWithin (s t : State) (pipeline : ℕ) : Type 0 where
  pub numbers : map (λ j. j.id) t.jobs ≡ map (λ j. j.id) s.jobs
  pub its_numbers : (other : ℕ) → numbers_of t other ≡ numbers_of s other
  pub graphs : (other : ℕ) → graph_of t other ≡ graph_of s other
  pub facts : (other : ℕ) → (pipeline ≡ other → ⊥) → facts_of t other ≡ facts_of s other

-- Between two states nothing changes that a status depends on.
pub record HaveSameFacts (s t : State) : Type 0 where
  pub numbers : map (λ j. j.id) t.jobs ≡ map (λ j. j.id) s.jobs
  pub its_numbers : (pipeline : ℕ) → numbers_of t pipeline ≡ numbers_of s pipeline
  pub graphs : (pipeline : ℕ) → graph_of t pipeline ≡ graph_of s pipeline
  pub facts : (pipeline : ℕ) → facts_of t pipeline ≡ facts_of s pipeline

-- the state has an attempt of this number and job that stands likewise
abbrev pub HasLike : State → Attempt → Type 0
HasLike s a = (b : Attempt) × Contains s.attempts b × (b.id ≡ a.id) × (b.job ≡ a.job) × (b.state ≡ a.state)

-- the state has a live attempt of this number and job
abbrev pub HasLive : State → Attempt → Type 0
HasLive s a = (b : Attempt) × Contains s.attempts b × (b.id ≡ a.id) × (b.job ≡ a.job) × (is_live b ≡ true)

-- no status depends on the record, where it is put into the state
abbrev pub IsNoStatus : State → Record → Type 0
IsNoStatus s (Record.Project p) = Unit {0}
IsNoStatus s (Record.Variable v) = Unit {0}
IsNoStatus s (Record.Runner r) = Unit {0}
IsNoStatus s (Record.Pipeline p) = ⊥
IsNoStatus s (Record.Job j) = ⊥
IsNoStatus s (Record.JobVariable v) = Unit {0}
IsNoStatus s (Record.Need w) = ⊥
IsNoStatus s (Record.Attempt a) = HasLike s a
IsNoStatus s (Record.Mode m) = Unit {0}
IsNoStatus s (Record.Next counter n) = Unit {0}

-- no status depends on the record with the key: it is a project's variable, or the process mode of a resource group
abbrev pub IsNoStatusKey : Key → Type 0
IsNoStatusKey (Key.Variable project name) = Unit {0}
IsNoStatusKey (Key.Mode project name) = Unit {0}
IsNoStatusKey _ = ⊥

-- the change leaves all statuses of the state
abbrev pub LeavesStatuses : State → RowChange → Type 0
LeavesStatuses s (Put r) = IsNoStatus s r
LeavesStatuses s (Append more) = Unit {0}
LeavesStatuses s (Remove k) = IsNoStatusKey k

-- the row of a pending job that is started
abbrev pub started_row : List BoardRow → ℕ → BoardRow
started_row board job = record { job = job; row = record (row_for board job) { status = Status.Running } }

-- A pipeline was made: its jobs come behind all others, and so do their needs; none of them was tried.
pub record IsMade (s t : State) (pipeline : ℕ) (jobs : List Job) (needs : List Need) : Type 0 where
  pub unused : All (λ j. j.pipeline ≡ pipeline → ⊥) s.jobs
  pub all_jobs : t.jobs ≡ s.jobs ++ jobs
  pub all_needs : t.needs ≡ s.needs ++ needs
  pub same_attempts : t.attempts ≡ s.attempts
  pub ascend : IsStrictlySortedBy nat_cmp (map (λ j. j.id) jobs)
  pub behind : All (λ j. s.next.job ≤ j.id) jobs
  pub within : All (λ j. j.pipeline ≡ pipeline) jobs
  pub idle : All (λ j. (j.cancelled ≡ false) × (j.played ≡ false)) jobs
  pub among : All (λ w. Contains (map (λ j. j.id) jobs) w.job) needs
