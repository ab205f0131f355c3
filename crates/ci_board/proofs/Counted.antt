-- Rows as the code keeps them: their numbers are tallies over the predecessors, and each status is that of its row's numbers.
use Rattle.std.proofs.Common.{◌≡◌, ℕ, ◌<◌, Bool, List, length}
use Rattle.ci_board.specs.Prelude.{tally, JobGraph, part_at, predecessors_of, Effect, Facts, Row, effect, is_open, is_fail, is_bar, facts_at, row_at, status_of_row}

-- the effect of p on a job, which gives needs or not, as facts and rows stand
abbrev pub effect_at : JobGraph → List Facts → List Row → Bool → ℕ → Effect
effect_at g facts rows needs p = effect (part_at g p) (facts_at facts p) needs (row_at rows p).status

-- a row's numbers are those of the statuses as they stand
pub record HasCounts (g : JobGraph) (facts : List Facts) (rows : List Row) (i : ℕ) : Type 0 where
  pub opens : (row_at rows i).opens ≡ tally (λ p. is_open (effect_at g facts rows (part_at g i).gives_needs p)) (predecessors_of g i)
  pub failed : (row_at rows i).failed ≡ tally (λ p. is_fail (effect_at g facts rows (part_at g i).gives_needs p)) (predecessors_of g i)
  pub barred : (row_at rows i).barred ≡ tally (λ p. is_bar (effect_at g facts rows (part_at g i).gives_needs p)) (predecessors_of g i)

abbrev pub AreCounted : JobGraph → List Facts → List Row → Type 0
AreCounted g facts rows = (i : ℕ) → i < length g.parts → HasCounts g facts rows i

-- the numbers are those of the statuses, and each status is that of its numbers
pub record AreCountedRows (g : JobGraph) (facts : List Facts) (rows : List Row) : Type 0 where
  pub counted : AreCounted g facts rows
  pub settled : (i : ℕ) → i < length g.parts → (row_at rows i).status ≡ status_of_row (part_at g i) (facts_at facts i) (row_at rows i)
