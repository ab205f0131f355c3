-- The records of pipelines as they are remembered, and when that is right.
use Rattle.std.specs.Prelude.{◌==◌, ◌||◌, ◌&&◌, if◌then◌else◌, Bool, false, All, Option, Some, None, IfSome}
use Rattle.std.specs.List.{list_any}
use Rattle.ci_machine_steps.specs.Prelude.{Kept, is_within, Key, Record, RowChange, Put, Remove, Attempt, Job}
use Rattle.ci_server_lookups.specs.Prelude.{IsRight}
use Rattle.ci_server_lookups.specs.declared.sheet.Sheet.{Sheet}
use Rattle.ci_memory_boards.specs.Fresh.{IsFresh}
use Rattle.ci_memory_boards.specs.declared.boards.Boards.{Boards}

-- The change is of a job of the pipeline or between the two numbers, or of what such a job waits for; or an attempt goes that is
-- remembered, or comes to be of a job that isn't.
abbrev pub touches : Sheet → RowChange → Bool
touches m (Put (Record.Job j)) = j.pipeline == m.pipeline || is_within m.first m.last j.id
touches m (Put (Record.Need n)) = is_within m.first m.last n.job
touches m (Remove (Key.Job n)) = is_within m.first m.last n
touches m (Remove (Key.Need n p)) = is_within m.first m.last n
touches m (Remove (Key.Needs n)) = is_within m.first m.last n
touches m (Remove (Key.Attempt n)) = list_any (λ a. a.id == n) m.attempts.items
touches m _ = false

-- the job is one of the pipeline's, and between the two numbers
abbrev pub owns : Sheet → Job → Bool
owns m j = j.pipeline == m.pipeline && is_within m.first m.last j.id

-- such a job that the change puts
abbrev pub own_job : Sheet → RowChange → Option Job
own_job m (Put (Record.Job j)) = if owns m j then Some j else None
own_job m _ = None

-- the attempt that the change puts
abbrev pub attempt_put : RowChange → Option Attempt
attempt_put (Put (Record.Attempt a)) = Some a
attempt_put _ = None

-- each pipeline that is remembered is remembered right
abbrev pub AreRightSheets : Boards → Kept → Type 0
AreRightSheets b k = IfSome b.sheets (λ sheets. All (λ m. IsRight m k) sheets.items)

-- and pipelines and jobs are new from the numbers on that are remembered, if they are
abbrev pub AreRight : Boards → Kept → Type 0
AreRight b k = AreRightSheets b k × IfSome b.fresh (λ f. IsFresh f k)
