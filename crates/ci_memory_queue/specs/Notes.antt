-- What is noted of jobs at a commit: those which may have come to count since they were last looked up, or to ask something else.
use Rattle.std.specs.Prelude.{◌≡◌, ◌⊎◌, ◌≤◌, ℕ, Bool, true, Contains, nat_lt, max, List, [], ◌∷◌, ◌++◌, Option, Some, None, if◌then◌else◌, option_map, option_and_then}
use Rattle.ci_machine_steps.specs.Prelude.{BoardRow, GroupOrder, Job, Pipeline, Key, Record, RowChange, Put, Append, Remove}
use Rattle.ci_memory_queue.specs.Places.{counts_as}

-- The notes, as contracts see them.
pub record Noted : Type 0 where
  pub fresh : List ℕ  -- jobs that aren't sorted yet
  pub newest : ℕ  -- no job that counts has a greater number
  pub newest_pipeline : ℕ  -- no job that is sorted is of a pipeline with a greater number

-- each job that counts is noted as fresh or is where it belongs, and none of them has a greater number than the newest
abbrev pub AreKnown : (ℕ → Bool) → (ℕ → ℕ → Type 0) → Noted → Type 0
AreKnown counts IsPlaced q = (job : ℕ) → counts job ≡ true → (job ≤ q.newest) × (Contains q.fresh job ⊎ IsPlaced q.newest_pipeline job)

abbrev pub with_note : Noted → ℕ → Noted
with_note q job = record q { fresh = q.fresh ++ job ∷ [] }

-- A job that is put may ask something else now. One that is newer than all that count is noted by its row.
abbrev pub job_noted : Job → Noted → Noted
job_noted j q = if nat_lt q.newest j.id then q else with_note q j.id

-- a pipeline that jobs may have been sorted by: all is forgotten
abbrev pub pipeline_noted : Pipeline → Noted → Option Noted
pipeline_noted p q = if nat_lt q.newest_pipeline p.id then Some q else None

abbrev pub record_noted : Record → Noted → Option Noted
record_noted (Record.Job j) q = Some (job_noted j q)
record_noted (Record.Pipeline p) q = pipeline_noted p q
record_noted _ q = Some q

-- so it is where a job or a pipeline goes
abbrev pub removal_noted : Key → Noted → Option Noted
removal_noted (Key.Job n) q = None
removal_noted (Key.Pipeline n) q = None
removal_noted _ q = Some q

abbrev pub change_noted : RowChange → Noted → Option Noted
change_noted (Put r) q = record_noted r q
change_noted (Append t) q = Some q
change_noted (Remove k) q = removal_noted k q

abbrev pub changes_noted : List RowChange → Noted → Option Noted
changes_noted [] q = Some q
changes_noted (c ∷ cs) q = option_and_then (changes_noted cs) (change_noted c q)

-- a row by which its job counts now
abbrev pub row_noted : GroupOrder → BoardRow → Noted → Noted
row_noted order r q = if counts_as order r.row.status then record q { fresh = q.fresh ++ r.job ∷ []; newest = max q.newest r.job } else q

abbrev pub rows_noted : GroupOrder → List BoardRow → Noted → Noted
rows_noted order [] q = q
rows_noted order (r ∷ rs) q = rows_noted order rs (row_noted order r q)

-- what is noted behind a commit of these changes and rows; none where all is forgotten
abbrev pub noted : GroupOrder → List RowChange → List BoardRow → Noted → Option Noted
noted order changes rows q = option_map (rows_noted order rows) (changes_noted changes q)
