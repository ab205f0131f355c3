-- The job that goes first in a resource group, as it is looked for along a line.
use Rattle.std.specs.Prelude.{◌≡◌, ◌≤◌, ℕ, true, List, Contains, Option, Some, None}
use Rattle.ci_machine_steps.specs.Prelude.{GroupOrder, OldestFirst, NewestReadyFirst, Kept}
use Rattle.ci_memory_queue.specs.Places.{place_at, counts_at}

-- the job counts in the order, and stands in the group of the project with this pipeline
abbrev pub IsInGroup : GroupOrder → Kept → ℕ → List ℕ → ℕ → ℕ → Type 0
IsInGroup order k project group job pipeline =
    (counts_at order k.board job ≡ true) × (place_at k.state job ≡ Some (record { pipeline = pipeline; project = project; group = Some group }))

-- the job was looked up, which is in the group with the pipeline that was found, or it isn't
abbrev pub IsFoundAt : GroupOrder → Kept → ℕ → List ℕ → ℕ → Option ℕ → Type 0
IsFoundAt order k project group job None = (pipeline : ℕ) → IsInGroup order k project group job pipeline → ⊥
IsFoundAt order k project group job (Some pipeline) = IsInGroup order k project group job pipeline

-- the first of the two jobs goes before the other, or they are the same
abbrev pub GoesFirst : GroupOrder → ℕ → ℕ → Type 0
GoesFirst OldestFirst first job = first ≤ job
GoesFirst NewestReadyFirst first job = job ≤ first

-- The pipeline that was found has the one of these jobs in the group that goes before all of them; none where they are none.
abbrev pub IsFirst : GroupOrder → Kept → ℕ → List ℕ → List ℕ → Option ℕ → Type 0
IsFirst order k project group jobs None = (job : ℕ) → Contains jobs job → ⊥
IsFirst order k project group jobs (Some pipeline) = (first : ℕ) × (IsInGroup order k project group first pipeline × ((job : ℕ) → Contains jobs job → GoesFirst order first job))
