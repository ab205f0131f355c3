-- The one assignment of statuses to the jobs of a graph, and the rows that belong to it.
use Rattle.std.specs.Prelude.{◌≡◌, ℕ, ◌<◌, false, List, map, length, count_by, slice_index_or, None}
use Rattle.ci_graph.specs.JobGraph.{JobGraph, part_at, predecessors_of}
use Rattle.ci_board.specs.declared.facts.Status.{Status}
use Rattle.ci_board.specs.declared.facts.Effect.{Effect}
use Rattle.ci_board.specs.declared.facts.Facts.{Facts}
use Rattle.ci_board.specs.declared.facts.Row.{Row}
use Rattle.ci_board.specs.Effects.{effect, is_open, is_fail, is_bar, status_of_effects}

abbrev pub no_facts : Facts
no_facts = record { last = None; attempts = 0; cancelled = false; played = false }

abbrev pub no_row : Row
no_row = record { status = Status.Created; opens = 0; failed = 0; barred = 0 }

abbrev pub facts_at : List Facts → ℕ → Facts
facts_at facts j = slice_index_or facts j no_facts

abbrev pub row_at : List Row → ℕ → Row
row_at rows j = slice_index_or rows j no_row

abbrev pub statuses : List Row → ℕ → Status
statuses rows j = (row_at rows j).status

-- the effects of j's predecessors, where the statuses are a
abbrev pub effects_of : JobGraph → List Facts → (ℕ → Status) → ℕ → List Effect
effects_of g facts a j = map (λ p. effect (part_at g p) (facts_at facts p) (part_at g j).gives_needs (a p)) (predecessors_of g j)

-- each job has its standing, or where it is idle the status that its predecessors' effects give
abbrev pub IsAssignment : JobGraph → List Facts → (ℕ → Status) → Type 0
IsAssignment g facts a = (j : ℕ) → j < length g.parts → a j ≡ status_of_effects (part_at g j) (facts_at facts j) (effects_of g facts a j)

-- s is j's status in an assignment
abbrev pub IsStatusOf : JobGraph → List Facts → ℕ → Status → Type 0
IsStatusOf g facts j s = (a : ℕ → Status) × IsAssignment g facts a × (a j ≡ s)

-- j's row: its status, and its numbers of open, failed and barred predecessors
abbrev pub row_of : JobGraph → List Facts → (ℕ → Status) → ℕ → Row
row_of g facts a j = record {
  status = a j;
  opens = count_by is_open (effects_of g facts a j);
  failed = count_by is_fail (effects_of g facts a j);
  barred = count_by is_bar (effects_of g facts a j);
}

-- the rows are those of an assignment
pub record HaveAssignment (g : JobGraph) (facts : List Facts) (rows : List Row) (a : ℕ → Status) : Type 0 where
  pub is : IsAssignment g facts a
  pub each : (j : ℕ) → j < length g.parts → row_at rows j ≡ row_of g facts a j
