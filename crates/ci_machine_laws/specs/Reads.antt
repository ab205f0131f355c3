-- What is told of the newest pipelines of a project, and of its resource groups.
use Rattle.std.specs.Prelude.{◌≡◌, ◌⊎◌, ◌<◌, ℕ, true, List, length, map, All, Contains, Option, Some, None}
use Rattle.std.specs.Ordering.{nat_cmp}
use Rattle.std.specs.Cmp.Lexicographic.{slice_cmp}
use Rattle.std.specs.List.Sorted.{IsStrictlySortedBy}
use Rattle.serde_json.specs.Written.{compact_text}
use Rattle.ci_machine_steps.specs.Prelude.{LISTED_PIPELINES, Pipeline, BoardRow, Attempt, GroupMode, Reply, Json, State, AreBoard, with_status, is_live, order_of, is_in_group}
use Rattle.ci_machine_steps.specs.Prelude.{listed, listed_pipeline_data, group_data, holding_job}

-- The pipelines are the newest of a project: each is one of the state's, of this project; their numbers fall; and each other pipeline of the
-- project has a lesser number than all of them, which are a hundred then.
pub record AreNewest (s : State) (project : ℕ) (pipelines : List Pipeline) : Type 0 where
  pub own : All (λ p. Contains s.pipelines p × (p.project ≡ project)) pipelines
  pub fall : IsStrictlySortedBy (λ a b. nat_cmp b a) (map (λ p. p.id) pipelines)
  pub newest : All (λ p. p.project ≡ project → Contains pipelines p ⊎ ((length pipelines ≡ LISTED_PIPELINES) × All (λ q. p.id < q.id) pipelines)) s.pipelines

-- the reply tells the newest pipelines of a project, each with the status that it has in the state
pub record TellsNewest (s : State) (project : ℕ) (reply : Reply) : Type 0 where
  pub board : List BoardRow
  pub are_board : AreBoard s board
  pub pipelines : List Pipeline
  pub are_newest : AreNewest s project pipelines
  pub told : reply.body ≡ Some (Json (compact_text (listed listed_pipeline_data (map (with_status s board) pipelines))))

-- ---- the resource groups of a project

-- the attempt is live, and its job has this resource group of the project
abbrev pub IsHeldBy : State → ℕ → List ℕ → Attempt → Type 0
IsHeldBy s project group a = Contains s.attempts a × (is_live a ≡ true) × (is_in_group s project group a ≡ true)

-- the mode is one of the state's, of this resource group of the project
abbrev pub IsModeOf : State → ℕ → List ℕ → GroupMode → Type 0
IsModeOf s project group m = Contains s.modes m × (m.project ≡ project) × (m.group ≡ group)

-- The keys are those of the resource groups of a project that have a process mode or are held, each once, by their bytes.
pub record AreGroups (s : State) (project : ℕ) (groups : List (List ℕ)) : Type 0 where
  pub ascend : IsStrictlySortedBy (slice_cmp nat_cmp) groups
  pub no_others : All (λ g. ((m : GroupMode) × IsModeOf s project g m) ⊎ ((a : Attempt) × IsHeldBy s project g a)) groups
  pub with_mode : (g : List ℕ) (m : GroupMode) → IsModeOf s project g m → Contains groups g
  pub held : (g : List ℕ) (a : Attempt) → IsHeldBy s project g a → Contains groups g

-- the job is one whose live attempt holds the group; or there is none, and no attempt holds it
abbrev pub IsHolder : State → ℕ → List ℕ → Option ℕ → Type 0
IsHolder s project group (Some job) = (a : Attempt) × IsHeldBy s project group a × (a.job ≡ job)
IsHolder s project group None = (a : Attempt) → IsHeldBy s project group a → ⊥

-- the reply tells these groups, each with its mode and the job that holds it
pub record TellsGroups (s : State) (project : ℕ) (reply : Reply) : Type 0 where
  pub groups : List (List ℕ)
  pub are_groups : AreGroups s project groups
  pub holders : (g : List ℕ) → IsHolder s project g (holding_job s project g)
  pub told : reply.body ≡ Some (Json (compact_text (listed (λ g. group_data g (order_of s.modes project g) (holding_job s project g)) groups)))
