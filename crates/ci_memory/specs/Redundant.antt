-- The redundant pipeline, as it is looked for among those that aren't finished.
use Rattle.std.specs.Prelude.{◌≡◌, ◌<◌, ℕ, Bool, ◌&&◌, not, List, [], ◌∷◌, find, All, Contains, Option, Some, None, nat_lt, if◌then◌else◌}
use Rattle.std.specs.List.{list_any}
use Rattle.ci_machine_steps.specs.Prelude.{Pipeline, State, pipeline_at, was_tried, is_newer_of, is_bound_to}

-- one of its jobs was tried and isn't interruptible
abbrev pub is_held_back : State → Pipeline → Bool
is_held_back s p = list_any (λ j. is_bound_to p j && was_tried s j) s.jobs

-- there is a newer pipeline of its project, ref and kind, and no job holds it back
abbrev pub is_superseded : State → Pipeline → Bool
is_superseded s p = list_any (is_newer_of p) s.pipelines && not (is_held_back s p)

abbrev pub if_superseded : State → Option Pipeline → Option Pipeline
if_superseded s None = None
if_superseded s (Some p) = find (is_superseded s) (p ∷ [])

-- the pipeline with this number, if it is so
abbrev pub superseded_at : State → ℕ → Option Pipeline
superseded_at s n = if_superseded s (pipeline_at s n)

-- the one of least number of those that are so among these numbers, if there is one
abbrev pub IsLeast : State → List ℕ → Option Pipeline → Type 0
IsLeast s numbers None = All (λ n. superseded_at s n ≡ None) numbers
IsLeast s numbers (Some p) =
    Contains numbers p.id × (superseded_at s p.id ≡ Some p) × All (λ n. n < p.id → superseded_at s n ≡ None) numbers

-- the one of lesser number
abbrev pub lesser : Option Pipeline → Option Pipeline → Option Pipeline
lesser None q = q
lesser (Some p) None = Some p
lesser (Some p) (Some q) = if nat_lt q.id p.id then Some q else Some p
