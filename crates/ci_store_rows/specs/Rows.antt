-- The row of each record: its values in the order of the table's columns.
use Rattle.std.specs.Prelude.{ℕ, pos, Bool, if◌then◌else◌, [], ◌∷◌, Option, Some, None}
use Rattle.ci_store.specs.Prelude.{Value, Int, Text, Blob, or_null, Row, Project, Variable, Runner, Pipeline, Job, JobVariable, Need, Attempt, BoardRow, Holder, GroupMode}
use Rattle.ci_store.specs.Prelude.{GroupOrder, OldestFirst, NewestReadyFirst, status_number, RefKind, Branch, Tag, Source, Push, Web, Schedule, Api, Trigger}
use Rattle.ci_machine.specs.Prelude.{Cause, UnknownFailure, ScriptFailure, ApiFailure, StuckOrTimeoutFailure, RunnerSystemFailure, JobExecutionTimeout, AttemptState, Live}
use Rattle.ci_machine.specs.Prelude.{Succeeded, Failed, Cancelled}
use Rattle.ci_store_rows.specs.JsonText.{list_text, spec_text}
use Rattle.ci_store_rows.specs.declared.block.Block.{Block}

abbrev pub number : ℕ → Value
number n = Int (pos n)

abbrev pub flag : Bool → Value
flag b = Int (if b then pos 1 else pos 0)

abbrev pub kind_number : RefKind → ℕ
kind_number Branch = 0
kind_number Tag = 1

abbrev pub source_number : Source → ℕ
source_number Push = 0
source_number Web = 1
source_number Schedule = 2
source_number Api = 3
source_number Trigger = 4

abbrev pub cause_number : Cause → ℕ
cause_number UnknownFailure = 0
cause_number ScriptFailure = 1
cause_number ApiFailure = 2
cause_number StuckOrTimeoutFailure = 3
cause_number RunnerSystemFailure = 4
cause_number JobExecutionTimeout = 5

abbrev pub state_number : AttemptState → ℕ
state_number Live = 0
state_number (Succeeded exit) = 1
state_number (Failed cause exit) = 2
state_number Cancelled = 3

abbrev pub cause_in : AttemptState → Option ℕ
cause_in (Failed cause exit) = Some (cause_number cause)
cause_in _ = None

abbrev pub exit_in : AttemptState → Option ℕ
exit_in (Succeeded exit) = exit
exit_in (Failed cause exit) = exit
exit_in _ = None

-- a group that isn't unordered; an unordered one has no row
abbrev pub order_number : GroupOrder → ℕ
order_number OldestFirst = 1
order_number NewestReadyFirst = 2

abbrev pub project_row : Project → Row
project_row p = number p.id ∷ Text p.name ∷ Text p.token ∷ or_null Text p.file ∷ []

abbrev pub variable_row : Variable → Row
variable_row v = number v.project ∷ Text v.key ∷ Text v.value ∷ []

abbrev pub runner_row : Runner → Row
runner_row r = number r.id ∷ Text r.name ∷ Text r.token ∷ or_null number r.project ∷ Text (list_text r.tags) ∷ flag r.untagged ∷ flag r.paused ∷ []

abbrev pub pipeline_row : Pipeline → Row
pipeline_row p = number p.id ∷ number p.project ∷ Text p.git_ref ∷ number (kind_number p.kind) ∷ number (source_number p.source) ∷ number p.created ∷ []

abbrev pub job_row : Job → Row
job_row j = number j.id ∷ number j.pipeline ∷ number j.position ∷ Text j.name ∷ Text j.stage ∷ Text (spec_text j.options) ∷ flag j.played ∷ flag j.cancelled ∷ number j.set_aside ∷ []

abbrev pub job_variable_row : JobVariable → Row
job_variable_row v = number v.job ∷ Text v.key ∷ Text v.value ∷ []

abbrev pub attempt_row : Attempt → Row
attempt_row a =
    number a.id ∷ number a.job ∷ number a.runner ∷ Text a.token ∷ number a.granted ∷ number a.seen ∷ number (state_number a.state) ∷ or_null number (cause_in a.state) ∷ or_null number (exit_in a.state) ∷ []

abbrev pub block_row : Block → Row
block_row b = number b.attempt ∷ number b.seq ∷ Blob b.bytes ∷ []

abbrev pub need_row : Need → Row
need_row n = number n.job ∷ number n.pred ∷ []

abbrev pub board_row : BoardRow → Row
board_row r = number r.job ∷ number (status_number r.row.status) ∷ number r.row.opens ∷ number r.row.failed ∷ number r.row.barred ∷ []

abbrev pub holder_row : Holder → Row
holder_row h = number h.project ∷ Text h.group ∷ number h.attempt ∷ []

abbrev pub mode_row : GroupMode → Row
mode_row m = number m.project ∷ Text m.group ∷ number (order_number m.order) ∷ []
