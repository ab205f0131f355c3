-- The texts of reports, line by line and column by column.
use Rattle.std.specs.Prelude.{ℕ, ◌-◌, ◌^◌, Bool, if◌then◌else◌, List, ◌++◌, length, flat_map, Option, Some, None, codes, decimal}
use Rattle.std.specs.Fmt.{styled_text, styled_decimal, format_spec}
use Rattle.ci_board.specs.Prelude.{status_text}
use Rattle.ci_machine.specs.declared.records.PipelineWithStatus.{PipelineWithStatus}
use Rattle.ci_machine.specs.Prelude.{source_text, shown_text, moment_text}
use Rattle.ci_machine.specs.declared.report.QueueRow.{QueueRow}
use Rattle.ci_machine.specs.declared.report.JobRow.{JobRow}
use Rattle.ci_machine.specs.declared.report.PipelineRows.{PipelineRows}
use Rattle.ci_machine.specs.declared.report.RunnerRow.{RunnerRow}

-- ---- columns, in std's words for the options of a format: spaces fill what is narrower, and what is wider stands whole; the function
-- `fills_columns` says it without those words

-- a number at the right of a column
abbrev pub right : ℕ → ℕ → List ℕ
right width n = styled_decimal (format_spec 32 3 0 width (2 ^ 64 - 1)) n

-- a text at the left of a column
abbrev pub left : ℕ → List ℕ → List ℕ
left width text = styled_text (format_spec 32 1 0 width (2 ^ 64 - 1)) text

-- ---- the report of the queue

unfoldable pub queue_line : QueueRow → List ℕ
queue_line row = right 8 row.job ++ codes " " ++ right 7 row.project ++ codes " " ++ left 20 (shown_text row.status) ++ codes " " ++ row.name ++ codes "\n"

abbrev pub queue_report : List QueueRow → List ℕ
queue_report rows =
    codes "     JOB PROJECT STATUS               NAME\n"
    ++ flat_map queue_line rows
    ++ codes "jobs: " ++ decimal (length rows) ++ codes "\n"

-- ---- the report of a pipeline

unfoldable pub head_line : PipelineWithStatus → List ℕ
head_line head =
    codes "pipeline " ++ decimal head.pipeline.id ++ codes " project " ++ decimal head.pipeline.project ++ codes " ref " ++ head.pipeline.git_ref
    ++ codes " source " ++ source_text head.pipeline.source ++ codes " status " ++ status_text head.status ++ codes " created " ++ moment_text head.pipeline.created ++ codes "\n"

unfoldable pub job_line : JobRow → List ℕ
job_line row = right 8 row.job ++ codes " " ++ left 20 (shown_text row.status) ++ codes " " ++ right 5 row.tries ++ codes " " ++ row.name ++ codes "\n"

abbrev pub pipeline_report : PipelineRows → List ℕ
pipeline_report p =
    head_line p.head
    ++ codes "     JOB STATUS               TRIES NAME\n"
    ++ flat_map job_line p.jobs.items

-- ---- the report of the runners

abbrev pub yes_or_no : Bool → List ℕ
yes_or_no b = if b then codes "yes" else codes "no"

-- when a runner was last given a job, if it ever was
abbrev pub grant_text : Option ℕ → List ℕ
grant_text (Some moment) = moment_text moment
grant_text None = codes "-"

unfoldable pub runner_line : RunnerRow → List ℕ
runner_line row = right 8 row.runner ++ codes " " ++ left 6 (yes_or_no row.paused) ++ codes " " ++ right 4 row.live ++ codes " " ++ left 19 (grant_text row.last_grant) ++ codes " " ++ row.name ++ codes "\n"

abbrev pub runner_report : List RunnerRow → List ℕ
runner_report rows = codes "  RUNNER PAUSED LIVE LAST GRANT          NAME\n" ++ flat_map runner_line rows
