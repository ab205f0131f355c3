-- A user acts on a job, or on the jobs of a pipeline: the request is refused, or its reply shows the state after it.
use Rattle.std.specs.Prelude.{◌≡◌, Bool, List, if◌then◌else◌, Result, Ok, Err}
use Rattle.ci_machine.specs.Prelude.{Status, State, applied, jobs_of, facts_of, rows_of, status_for, AreBoard, queued, claims_in}
use Rattle.ci_machine.specs.declared.records.Pipeline.{Pipeline}
use Rattle.ci_machine.specs.declared.records.Job.{Job}
use Rattle.ci_machine.specs.declared.records.BoardRow.{BoardRow}
use Rattle.ci_machine.specs.declared.change.RowChange.{RowChange}
use Rattle.ci_machine.specs.declared.reply.Code.{Code}
use Rattle.ci_machine_steps.specs.Plans.{Plan, refused}
use Rattle.ci_machine_steps.specs.Shows.{job_shown, pipeline_shown}

-- the job that was asked for, where its status passes the test; else this code refuses it
abbrev pub permitted : List BoardRow → (Status → Bool) → Code → Result Job Code → Result Job Code
permitted board test code (Err refusal) = Err refusal
permitted board test code (Ok job) = if test (status_for board job.id) then Ok job else Err code

-- These changes are made, and the reply shows the job as it stands in the state after them: its status is that of the state's board, and the
-- resource groups for which it must wait are those for which it must wait then.
abbrev pub ShowsJobAfter : State → Job → List RowChange → Plan → Type 0
ShowsJobAfter s job changes plan =
    let t = applied changes s in
    (after : List BoardRow) × AreBoard t after × (plan ≡ ((job_shown (claims_in t after job.pipeline) (queued t job).project job (status_for after job.id)).0, changes))

-- these changes are made, and the reply shows the pipeline as it stands in the state after them
abbrev pub ShowsPipelineAfter : State → Pipeline → List RowChange → Plan → Type 0
ShowsPipelineAfter s p changes plan =
    let t = applied changes s in
    (after : List BoardRow) × AreBoard t after × (plan ≡ ((pipeline_shown p (claims_in t after p.id) (jobs_of t p.id) (facts_of t p.id) (rows_of t after p.id)).0, changes))

-- what is to be done to the job that was asked for is done, unless a code refuses it
abbrev pub ActsOn : State → (Job → List RowChange) → Result Job Code → Plan → Type 0
ActsOn s act (Err code) plan = plan ≡ refused code
ActsOn s act (Ok job) plan = ShowsJobAfter s job (act job) plan
