-- The rows of a graph's jobs, and what a change of facts makes of them.
use Rattle.std.specs.Prelude.{◌≡◌, ◌↔◌, ℕ, ◌+◌, ◌<◌, Bool, false, List, [], ◌∷◌, length, if◌then◌else◌, ◌==◌, slice_set, ◌||◌, ◌&&◌}
use Rattle.ci_board.specs.declared.facts.Facts.{Facts}
use Rattle.ci_board.specs.declared.facts.Row.{Row}
use Rattle.ci_board.specs.declared.facts.FactsChange.{FactsChange}
use Rattle.ci_graph.specs.Lists.{times, is_among, number_at}
use Rattle.ci_graph.specs.JobGraph.{JobGraph, successors_of}
use Rattle.ci_board.specs.Effects.{is_status}
pub use Rattle.ci_board.specs.Statuses.{no_facts, no_row, facts_at, row_at, statuses}
use Rattle.ci_board.specs.Statuses.{row_of, HaveAssignment}

-- the rows of these facts: their statuses are the one assignment, and each row is its job's by that
abbrev pub AreRows : JobGraph → List Facts → List Row → Type 0
AreRows g facts rows = HaveAssignment g facts rows (statuses rows)

-- the numbers alone are those of the statuses as they stand
abbrev pub AreNumbered : JobGraph → List Facts → List Row → Type 0
AreNumbered g facts rows = (j : ℕ) → j < length g.parts → row_at rows j ≡ row_of g facts (statuses rows) j

-- the sum of the out-degrees of those that pass
abbrev pub degrees : JobGraph → (ℕ → Bool) → List ℕ → ℕ
degrees g t [] = 0
degrees g t (j ∷ js) = if t j then length (successors_of g j) + degrees g t js else degrees g t js

-- a board as contracts see it
pub record BoardState : Type 0 where
  pub graph : JobGraph
  pub facts : List Facts
  pub rows : List Row

-- the facts after the changes: each named job's are replaced, by the last change that names it
abbrev pub replaced : List FactsChange → List Facts → List Facts
replaced [] facts = facts
replaced (c ∷ cs) facts = replaced cs (slice_set facts c.position c.facts)

abbrev pub is_named : List FactsChange → ℕ → Bool
is_named [] j = false
is_named (c ∷ cs) j = (c.position == j) || is_named cs j

-- both are the same
abbrev pub same_row : Row → Row → Bool
same_row a b = is_status a.status b.status && ((a.opens == b.opens) && ((a.failed == b.failed) && (a.barred == b.barred)))

-- the positions from k on at which the rows differ, ascending
abbrev pub differing : ℕ → List Row → List Row → List ℕ
differing k [] rows = []
differing k (a ∷ olds) [] = []
differing k (a ∷ olds) (b ∷ bs) = if same_row a b then differing (k + 1) olds bs else k ∷ differing (k + 1) olds bs

-- the answer has, ascending, exactly the positions at which the rows differ
pub record IsAnswer (answer : List ℕ) (olds rows : List Row) : Type 0 where
  pub rising : (i k : ℕ) → i < k → k < length answer → number_at answer i < number_at answer k
  pub exact : (j : ℕ) → j < length rows → (0 < times j answer) ↔ (row_at olds j ≡ row_at rows j → ⊥)
  pub within : (j : ℕ) → 0 < times j answer → j < length rows

-- the changed jobs and the answered ones
abbrev pub is_touched : List FactsChange → List ℕ → ℕ → Bool
is_touched changes answer j = is_named changes j || is_among answer j
