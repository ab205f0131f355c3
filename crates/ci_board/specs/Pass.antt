-- How the code does it, and not what is meant: one pass over the order that corrects rows, by the numbers that they keep. Only contracts of
-- functions that the crate keeps to itself speak of these; that they come to the one assignment is proved.
use Rattle.std.specs.Prelude.{ℕ, ◌+◌, ◌-◌, Bool, true, false, ◌&&◌, not, List, [], ◌∷◌, length, if◌then◌else◌, ◌==◌, nat_lt, slice_set}
use Rattle.ci_board.specs.declared.facts.Status.{Status}
use Rattle.ci_board.specs.declared.facts.Effect.{Effect}
use Rattle.ci_board.specs.declared.facts.Facts.{Facts}
use Rattle.ci_board.specs.declared.facts.Row.{Row}
use Rattle.ci_graph.specs.declared.part.Part.{Part}
use Rattle.ci_board.specs.declared.pass.Effects.{Effects}
use Rattle.ci_board.specs.Effects.{effect, is_open, is_fail, is_bar, waits_for_play, status_by}
use Rattle.ci_board.specs.Standing.{standing}
use Rattle.ci_values.specs.declared.when.When.{When}
use Rattle.ci_graph.specs.JobGraph.{JobGraph, part_at, part_of, successors_of}
use Rattle.ci_board.specs.Rows.{facts_at, row_at}

-- the status of an idle job by the numbers of its open, failed and barred predecessors, as rows keep them
abbrev pub is_met_by_counts : When → ℕ → ℕ → Bool
is_met_by_counts When.OnSuccess failed barred = (failed == 0) && (barred == 0)
is_met_by_counts When.Manual failed barred = (failed == 0) && (barred == 0)
is_met_by_counts When.OnFailure failed barred = not (failed == 0)
is_met_by_counts When.Always failed barred = true

abbrev pub idle_by_counts : Part → Facts → ℕ → ℕ → ℕ → Status
idle_by_counts part facts opens failed barred =
    if opens == 0 then (if is_met_by_counts part.«when» failed barred then (if waits_for_play part.«when» facts then Status.Manual else Status.Pending) else Status.Skipped)
    else Status.Created

abbrev pub status_of_row : Part → Facts → Row → Status
status_of_row part facts row = status_by (standing part facts) (idle_by_counts part facts row.opens row.failed row.barred)

abbrev pub same_test : Bool → Bool → Bool
same_test true true = true
same_test false false = true
same_test true false = false
same_test false true = false

-- one less where it was, one more where it is
abbrev pub moved : ℕ → Bool → Bool → ℕ
moved n true true = n
moved n false false = n
moved n true false = n - 1
moved n false true = if nat_lt n 18446744073709551615 then n + 1 else n

abbrev pub moved_row : Effect → Effect → Row → Row
moved_row was is row = record {
  status = row.status;
  opens = moved row.opens (is_open was) (is_open is);
  failed = moved row.failed (is_fail was) (is_fail is);
  barred = moved row.barred (is_bar was) (is_bar is);
}

abbrev pub side : Effects → Bool → Effect
side b needs = if needs then b.with_needs else b.without

abbrev pub corrected : List Part → Effects → Effects → List ℕ → List Row → List Row
corrected parts was is [] rows = rows
corrected parts was is (s ∷ ss) rows =
    corrected parts was is ss (slice_set rows s (moved_row (side was (part_of parts s).gives_needs) (side is (part_of parts s).gives_needs) (row_at rows s)))

abbrev pub both : JobGraph → List Facts → Status → ℕ → Effects
both g facts s j = record { with_needs = effect (part_at g j) (facts_at facts j) true s; without = effect (part_at g j) (facts_at facts j) false s }

abbrev pub same_effect : Effect → Effect → Bool
same_effect a b = (same_test (is_open a) (is_open b) && same_test (is_fail a) (is_fail b)) && same_test (is_bar a) (is_bar b)

-- whether its successors have to be corrected
abbrev pub differs : Effects → Effects → Bool
differs a b = not (same_effect a.with_needs b.with_needs && same_effect a.without b.without)

-- facts and rows as they stand, and the edges handed out so far
pub record PassState : Type 0 where
  pub facts : List Facts
  pub rows : List Row
  pub meter : ℕ

-- the position gets its new facts and the status of its numbers; where this means something else to others, they are corrected
abbrev pub next_status : JobGraph → List Facts → ℕ → PassState → Status
next_status g fresh j h = status_of_row (part_at g j) (facts_at fresh j) (row_at h.rows j)

abbrev pub was : JobGraph → ℕ → PassState → Effects
was g j h = both g h.facts (row_at h.rows j).status j

abbrev pub is : JobGraph → List Facts → ℕ → PassState → Effects
is g fresh j h = both g fresh (next_status g fresh j h) j

abbrev pub put : JobGraph → List Facts → ℕ → PassState → PassState
put g fresh j h = record {
  facts = slice_set h.facts j (facts_at fresh j);
  rows = slice_set h.rows j (record (row_at h.rows j) { status = next_status g fresh j h });
  meter = h.meter;
}

abbrev pub stepped : JobGraph → List Facts → ℕ → PassState → PassState
stepped g fresh j h =
    if differs (was g j h) (is g fresh j h)
    then record { facts = (put g fresh j h).facts; rows = corrected g.parts (was g j h) (is g fresh j h) (successors_of g j) (put g fresh j h).rows; meter = h.meter + length (successors_of g j) }
    else put g fresh j h

abbrev pub passed : JobGraph → List Facts → List ℕ → PassState → PassState
passed g fresh [] h = h
passed g fresh (j ∷ js) h = passed g fresh js (stepped g fresh j h)

-- the row of a job whose predecessors are all open
abbrev pub first_row : List ℕ → Row
first_row predecessors = record { status = Status.Created; opens = length predecessors; failed = 0; barred = 0 }
