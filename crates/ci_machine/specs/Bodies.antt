-- The bodies of replies: compact JSON, the members of each object in the order of their bytes.
use Rattle.std.specs.Prelude.{ℕ, Bool, List, [], ◌∷◌, map, codes, insert, count_by, if◌then◌else◌, Option, Some, None}
use Rattle.std.specs.List.{list_any}
use Rattle.std.specs.Fmt.{decimal}
use Rattle.std.specs.Ordering.{nat_cmp, is_lt}
use Rattle.std.specs.Cmp.Lexicographic.{slice_cmp}
use Rattle.std.specs.Str.{bytes_eq}
use Rattle.serde_json.specs.Data.{Data, array, object, boolean, member, no_members, string, number, unsigned}
use Rattle.serde_json.specs.View.{items_of}
use Rattle.ci_board.specs.declared.facts.Status.{Status}
use Rattle.ci_board.specs.declared.facts.Facts.{Facts}
use Rattle.ci_board.specs.declared.facts.Row.{Row}
use Rattle.ci_board.specs.Prelude.{status_text, statuses, pipeline_status}
use Rattle.ci_machine.specs.declared.records.Pipeline.{Pipeline}
use Rattle.ci_machine.specs.declared.records.Source.{Source}
use Rattle.ci_machine.specs.declared.records.Source.TheVariants.{Push, Web, Schedule, Api, Trigger}
use Rattle.ci_machine.specs.declared.records.Job.{Job}
use Rattle.ci_machine.specs.declared.records.JobVariable.{JobVariable}
use Rattle.ci_machine.specs.declared.records.QueuedJob.{QueuedJob}
use Rattle.ci_machine.specs.declared.records.Claim.{Claim}
use Rattle.ci_machine.specs.declared.records.GroupOrder.{GroupOrder}
use Rattle.ci_machine.specs.declared.records.GroupOrder.TheVariants.{OldestFirst, NewestReadyFirst}
use Rattle.ci_machine.specs.declared.reply.Detail.{Detail}
use Rattle.ci_machine.specs.Eligible.{is_free}
use Rattle.ci_machine.specs.Reply.{detail_text}

abbrev pub source_text : Source → List ℕ
source_text Push = codes "push"
source_text Web = codes "web"
source_text Schedule = codes "schedule"
source_text Api = codes "api"
source_text Trigger = codes "trigger"

-- a fault of what was to be made: {"code":"M14","detail":..}
abbrev pub fault_data : Detail → Data
fault_data d = object (member (codes "code") (string (codes "M14")) (member (codes "detail") (string (detail_text d)) no_members))

-- a new project or runner: {"id":..,"token":..}
abbrev pub created_data : ℕ → List ℕ → Data
created_data id token = object (member (codes "id") (number (unsigned id)) (member (codes "token") (string token) no_members))

-- a runner that was paused, or goes on: {"id":..,"paused":..}
abbrev pub paused_data : ℕ → Bool → Data
paused_data id paused = object (member (codes "id") (number (unsigned id)) (member (codes "paused") (boolean paused) no_members))

-- a pipeline that was pruned: {"pruned":..}
abbrev pub pruned_data : ℕ → Data
pruned_data pipeline = object (member (codes "pruned") (number (unsigned pipeline)) no_members)

-- the process mode of a resource group, by its order
abbrev pub order_text : Option GroupOrder → List ℕ
order_text None = codes "unordered"
order_text (Some OldestFirst) = codes "oldest_first"
order_text (Some NewestReadyFirst) = codes "newest_ready_first"

-- a resource group with its process mode: {"key":..,"process_mode":..}
abbrev pub mode_data : List ℕ → Option GroupOrder → Data
mode_data group order = object (member (codes "key") (string group) (member (codes "process_mode") (string (order_text order)) no_members))

-- the status of a job of a project as it is printed: one that is pending waits for its resource group while one of these claims is on that
abbrev pub printed_status : List Claim → ℕ → Job → Status → List ℕ
printed_status claims project j Status.Pending = if is_free claims project j.options.resource_group then status_text Status.Pending else codes "waiting_for_resource"
printed_status claims project j s = status_text s

-- a job with its status: {"id":..,"name":..,"stage":..,"status":..}
abbrev pub job_data : List ℕ → Job → Data
job_data status j =
    object (member (codes "id") (number (unsigned j.id))
    (member (codes "name") (string j.name)
    (member (codes "stage") (string j.stage)
    (member (codes "status") (string status) no_members))))

-- how many jobs of a file aren't hidden: {"jobs":..}
abbrev pub file_data : ℕ → Data
file_data count = object (member (codes "jobs") (number (unsigned count)) no_members)

-- jobs of a project with their rows
abbrev pub jobs_data : List Claim → ℕ → List Job → List Row → List Data
jobs_data claims project [] rows = []
jobs_data claims project (j ∷ js) [] = []
jobs_data claims project (j ∷ js) (r ∷ rows) = job_data (printed_status claims project j r.status) j ∷ jobs_data claims project js rows

-- the status of a pipeline whose jobs have these facts and rows
abbrev pub status_of_jobs : List Job → List Facts → List Row → Status
status_of_jobs jobs facts rows = pipeline_status (map (λ j. j.options.part) jobs) facts (statuses rows)

-- a pipeline with its jobs, which have these facts and rows: {"id":..,"jobs":[..],"ref":..,"source":..,"status":..}
abbrev pub pipeline_data : Pipeline → List Claim → List Job → List Facts → List Row → Data
pipeline_data p claims jobs facts rows =
    object (member (codes "id") (number (unsigned p.id))
    (member (codes "jobs") (array (items_of (jobs_data claims p.project jobs rows)))
    (member (codes "ref") (string p.git_ref)
    (member (codes "source") (string (source_text p.source))
    (member (codes "status") (string (status_text (status_of_jobs jobs facts rows))) no_members)))))

-- a variable as a runner is given it: {"key":..,"value":..}
abbrev pub variable_data : JobVariable → Data
variable_data v = object (member (codes "key") (string v.key) (member (codes "value") (string v.value) no_members))

-- variables by their keys, with this one where none has its key
abbrev pub with_default : JobVariable → List JobVariable → List JobVariable
with_default v vs =
    if list_any (λ w. bytes_eq w.key v.key) vs then vs
    else insert vs (count_by (λ w. is_lt (slice_cmp nat_cmp w.key v.key)) vs) v

-- the variables of a grant: the job's, and the numbers of its pipeline and of the attempt where it has none of these keys
abbrev pub granted_variables : Job → ℕ → List JobVariable → List JobVariable
granted_variables j attempt vs =
    with_default (record { job = j.id; key = codes "CI_JOB_ID"; value = decimal attempt })
    (with_default (record { job = j.id; key = codes "CI_PIPELINE_ID"; value = decimal j.pipeline }) vs)

-- what a runner is given of a job: its attempt, the job, and what to run
abbrev pub grant_data : ℕ → List ℕ → QueuedJob → List JobVariable → Data
grant_data attempt token q vs =
    object (member (codes "id") (number (unsigned attempt))
    (member (codes "job_info") (object (member (codes "name") (string q.job.name)
    (member (codes "project_id") (number (unsigned q.project))
    (member (codes "stage") (string q.job.stage) no_members))))
    (member (codes "script") (array (items_of (map string q.job.options.script)))
    (member (codes "timeout") (number (unsigned q.job.options.timeout))
    (member (codes "token") (string token)
    (member (codes "variables") (array (items_of (map variable_data (granted_variables q.job attempt vs)))) no_members))))))
