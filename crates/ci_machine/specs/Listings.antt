-- What is read of a project and of what it has, as compact JSON, the members of each object in the order of their bytes. What isn't known is null.
use Rattle.std.specs.Prelude.{ℕ, Bool, true, false, List, [], ◌∷◌, map, filter, find, ◌==◌, codes, Option, Some, None}
use Rattle.serde_json.specs.Data.{Data, array, object, boolean, null, member, no_members, string, number, unsigned}
use Rattle.serde_json.specs.View.{items_of}
use Rattle.ci_board.specs.Prelude.{AttemptState, Live, Succeeded, Failed, Cancelled, Cause, UnknownFailure, ScriptFailure, ApiFailure, StuckOrTimeoutFailure, RunnerSystemFailure}
use Rattle.ci_board.specs.Prelude.{JobExecutionTimeout, When, OnSuccess, OnFailure, Always, Manual, status_text, is_allowed}
use Rattle.ci_board.specs.declared.facts.Facts.{Facts}
use Rattle.ci_board.specs.declared.facts.Row.{Row}
use Rattle.ci_machine.specs.declared.records.Project.{Project}
use Rattle.ci_machine.specs.declared.records.RefKind.{RefKind}
use Rattle.ci_machine.specs.declared.records.PipelineWithStatus.{PipelineWithStatus}
use Rattle.ci_machine.specs.declared.records.Runner.{Runner}
use Rattle.ci_machine.specs.declared.records.Attempt.{Attempt}
use Rattle.ci_machine.specs.declared.records.Need.{Need}
use Rattle.ci_machine.specs.declared.records.Job.{Job}
use Rattle.ci_machine.specs.declared.records.Claim.{Claim}
use Rattle.ci_machine.specs.declared.records.GroupOrder.{GroupOrder}
use Rattle.ci_machine.specs.Dates.{stamp_text}
use Rattle.ci_machine.specs.Reply as reply
use Rattle.ci_machine.specs.Bodies.{source_text, order_text, printed_status}

-- ---- words and values

-- why an attempt failed, in GitLab's words
abbrev pub cause_text : Cause → List ℕ
cause_text UnknownFailure = codes "unknown_failure"
cause_text ScriptFailure = codes "script_failure"
cause_text ApiFailure = codes "api_failure"
cause_text StuckOrTimeoutFailure = codes "stuck_or_timeout_failure"
cause_text RunnerSystemFailure = codes "runner_system_failure"
cause_text JobExecutionTimeout = codes "job_execution_timeout"

-- when a job runs, as the keyword `when` has it
abbrev pub when_text : When → List ℕ
when_text OnSuccess = codes "on_success"
when_text OnFailure = codes "on_failure"
when_text Always = codes "always"
when_text Manual = codes "manual"

abbrev pub number_or_null : Option ℕ → Data
number_or_null None = null
number_or_null (Some n) = number (unsigned n)

abbrev pub text_or_null : Option (List ℕ) → Data
text_or_null None = null
text_or_null (Some text) = string text

-- a list of what is told of each
abbrev pub listed : {A : Type 0} → (A → Data) → List A → Data
listed told xs = array (items_of (map told xs))

-- ---- a project: {"id":..,"name":..}

abbrev pub project_data : Project → Data
project_data p = object (member (codes "id") (number (unsigned p.id)) (member (codes "name") (string p.name) no_members))

-- ---- a pipeline: {"created_at":..,"id":..,"ref":..,"source":..,"status":..,"tag":..}

abbrev pub is_tag : RefKind → Bool
is_tag RefKind.Branch = false
is_tag RefKind.Tag = true

abbrev pub listed_pipeline_data : PipelineWithStatus → Data
listed_pipeline_data p =
    object (member (codes "created_at") (string (stamp_text p.pipeline.created))
    (member (codes "id") (number (unsigned p.pipeline.id))
    (member (codes "ref") (string p.pipeline.git_ref)
    (member (codes "source") (string (source_text p.pipeline.source))
    (member (codes "status") (string (status_text p.status))
    (member (codes "tag") (boolean (is_tag p.pipeline.kind)) no_members))))))

-- ---- an attempt: {"exit_code":..,"failure_reason":..,"heard_at":..,"id":..,"runner":..,"started_at":..,"status":..}

-- the exit code that its runner sent, if it did
abbrev pub exit_of : AttemptState → Option ℕ
exit_of Live = None
exit_of (Succeeded exit) = exit
exit_of (Failed cause exit) = exit
exit_of Cancelled = None

-- why it failed, if it did
abbrev pub reason_of : AttemptState → Option (List ℕ)
reason_of Live = None
reason_of (Succeeded exit) = None
reason_of (Failed cause exit) = Some (cause_text cause)
reason_of Cancelled = None

-- a runner: {"id":..,"name":..}
abbrev pub runner_or_null : Option Runner → Data
runner_or_null None = null
runner_or_null (Some r) = object (member (codes "id") (number (unsigned r.id)) (member (codes "name") (string r.name) no_members))

-- an attempt of one of these runners
abbrev pub attempt_data : List Runner → Attempt → Data
attempt_data runners a =
    object (member (codes "exit_code") (number_or_null (exit_of a.state))
    (member (codes "failure_reason") (text_or_null (reason_of a.state))
    (member (codes "heard_at") (string (stamp_text a.seen))
    (member (codes "id") (number (unsigned a.id))
    (member (codes "runner") (runner_or_null (find (λ r. r.id == a.runner) runners))
    (member (codes "started_at") (string (stamp_text a.granted))
    (member (codes "status") (string (reply.status_text (reply.status_of_state a.state))) no_members)))))))

-- ---- a job: {"allow_failure":..,"attempts":[..],"id":..,"name":..,"needs":[..],"resource_group":..,"stage":..,"status":..,"tag_list":[..],"when":..}

-- those among these attempts that are of a job
abbrev pub attempts_among : List Attempt → ℕ → List Attempt
attempts_among attempts job = filter (λ a. a.job == job) attempts

-- the jobs that a job waits for, by these pairs of a graph
abbrev pub needs_among : List Need → ℕ → List ℕ
needs_among needs job = map (λ w. w.pred) (filter (λ w. w.job == job) needs)

-- A job with what it is printed as, whether its pipeline goes on though it has its status, its attempts and the jobs that it waits for.
abbrev pub listed_job_data : List ℕ → Bool → List Data → List ℕ → Job → Data
listed_job_data status allowed attempts needs j =
    object (member (codes "allow_failure") (boolean allowed)
    (member (codes "attempts") (array (items_of attempts))
    (member (codes "id") (number (unsigned j.id))
    (member (codes "name") (string j.name)
    (member (codes "needs") (listed (λ n. number (unsigned n)) needs)
    (member (codes "resource_group") (text_or_null j.options.resource_group)
    (member (codes "stage") (string j.stage)
    (member (codes "status") (string status)
    (member (codes "tag_list") (listed string j.options.tags)
    (member (codes "when") (string (when_text j.options.part.«when»)) no_members))))))))))

-- a job of a project, with its facts and its row, by these claims on resource groups, runners, pairs of a graph and attempts
abbrev pub told_job : List Claim → ℕ → List Runner → List Need → List Attempt → Job → Facts → Row → Data
told_job claims project runners needs attempts j facts row =
    listed_job_data (printed_status claims project j row.status) (is_allowed j.options.part facts row.status)
    (map (attempt_data runners) (attempts_among attempts j.id)) (needs_among needs j.id) j

-- jobs of a project, each with its facts and its row
abbrev pub told_jobs : List Claim → ℕ → List Runner → List Need → List Attempt → List Job → List Facts → List Row → List Data
told_jobs claims project runners needs attempts [] facts rows = []
told_jobs claims project runners needs attempts (j ∷ js) [] rows = []
told_jobs claims project runners needs attempts (j ∷ js) (f ∷ facts) [] = []
told_jobs claims project runners needs attempts (j ∷ js) (f ∷ facts) (r ∷ rows) =
    told_job claims project runners needs attempts j f r ∷ told_jobs claims project runners needs attempts js facts rows

-- ---- a resource group: {"holder":..,"key":..,"process_mode":..}

-- with its process mode, by its order, and the job whose live attempt holds it
abbrev pub group_data : List ℕ → Option GroupOrder → Option ℕ → Data
group_data group order holder =
    object (member (codes "holder") (number_or_null holder)
    (member (codes "key") (string group)
    (member (codes "process_mode") (string (order_text order)) no_members)))
