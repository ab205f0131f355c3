-- Reports as compact JSON: a list of objects, whose members stand in the order of their bytes, and the end of a line.
use Rattle.std.specs.Prelude.{ℕ, List, ◌++◌, [], ◌∷◌, Option, Some, None, codes}
use Rattle.serde_json.specs.Data.{Data, object, boolean, null, member, no_members, string, number, unsigned}
use Rattle.serde_json.specs.Written.{compact_text}
use Rattle.ci_board.specs.Prelude.{status_text}
use Rattle.ci_machine.specs.Prelude.{source_text, listed, shown_text, stamp_text}
use Rattle.ci_machine.specs.declared.report.QueueRow.{QueueRow}
use Rattle.ci_machine.specs.declared.report.JobRow.{JobRow}
use Rattle.ci_machine.specs.declared.report.PipelineRows.{PipelineRows}
use Rattle.ci_machine.specs.declared.report.RunnerRow.{RunnerRow}

abbrev pub line_of : Data → List ℕ
line_of d = compact_text d ++ codes "\n"

-- a pending job: {"id":..,"name":..,"project":..,"status":..}
abbrev pub queued_data : QueueRow → Data
queued_data row =
    object (member (codes "id") (number (unsigned row.job))
    (member (codes "name") (string row.name)
    (member (codes "project") (number (unsigned row.project))
    (member (codes "status") (string (shown_text row.status)) no_members))))

abbrev pub queue_json : List QueueRow → List ℕ
queue_json rows = line_of (listed queued_data rows)

-- a job of a pipeline: {"id":..,"name":..,"status":..,"tries":..}
abbrev pub job_data : JobRow → Data
job_data row =
    object (member (codes "id") (number (unsigned row.job))
    (member (codes "name") (string row.name)
    (member (codes "status") (string (shown_text row.status))
    (member (codes "tries") (number (unsigned row.tries)) no_members))))

-- a pipeline: {"created":..,"id":..,"jobs":[..],"project":..,"ref":..,"source":..,"status":..}
abbrev pub pipeline_data : PipelineRows → Data
pipeline_data p =
    object (member (codes "created") (string (stamp_text p.head.pipeline.created))
    (member (codes "id") (number (unsigned p.head.pipeline.id))
    (member (codes "jobs") (listed job_data p.jobs.items)
    (member (codes "project") (number (unsigned p.head.pipeline.project))
    (member (codes "ref") (string p.head.pipeline.git_ref)
    (member (codes "source") (string (source_text p.head.pipeline.source))
    (member (codes "status") (string (status_text p.head.status)) no_members)))))))

abbrev pub pipeline_json : PipelineRows → List ℕ
pipeline_json p = line_of (listed pipeline_data (p ∷ []))

-- when a runner was last given a job, and null where it never was
abbrev pub grant_data : Option ℕ → Data
grant_data (Some moment) = string (stamp_text moment)
grant_data None = null

-- a runner: {"id":..,"last_grant":..,"live":..,"name":..,"paused":..}
abbrev pub runner_data : RunnerRow → Data
runner_data row =
    object (member (codes "id") (number (unsigned row.runner))
    (member (codes "last_grant") (grant_data row.last_grant)
    (member (codes "live") (number (unsigned row.live))
    (member (codes "name") (string row.name)
    (member (codes "paused") (boolean row.paused) no_members)))))

abbrev pub runner_json : List RunnerRow → List ℕ
runner_json rows = line_of (listed runner_data rows)
