-- A pipeline is to be made from its project's file.
use Rattle.std.specs.Prelude.{◌≡◌, ℕ, ◌+◌, ◌-◌, Bool, true, false, ◌&&◌, ◌||◌, not, List, [], ◌∷◌, ◌++◌, length, map, replicate, if◌then◌else◌, nat_lt, Option, Some, None, Result, Ok, Err, unwrap_or, codes}
use Rattle.std.specs.List.{list_any}
use Rattle.std.specs.Fmt.{decimal}
use Rattle.std.specs.declared.cmp.Ordering.{Ordering}
use Rattle.std.specs.Ordering.{nat_cmp}
use Rattle.std.specs.Cmp.Lexicographic.{slice_cmp}
use Rattle.std.specs.Str.{bytes_eq}
use Rattle.serde_json.specs.Written.{compact_text}
use Rattle.ci_machine.specs.Prelude.{is_name, MAX_NUMBER, Variables, is_variable_name, Row, no_facts, State, applied, put, need_cmp, rows_of, AreBoard}
use Rattle.ci_machine.specs.Prelude.{claims_in, source_text, pipeline_data}
use Rattle.ci_graph_layout.specs.Prelude.{Config, MAX_VARIABLES, Given, IncludedJob, layered, job_part, Plans}
use Rattle.ci_graph_layout.specs.Fault as layout
use Rattle.ci_graph_layout.specs.declared.fault.GraphCode.{GraphCode}
use Rattle.ci_graph_layout.specs.declared.fault.GraphCode.TheVariants.{G1, G2, G3, G4, G5}
use Rattle.ci_machine.specs.declared.limits.TheConstants.{DEFAULT_TIMEOUT_SECONDS}
use Rattle.ci_machine.specs.declared.records.Project.{Project}
use Rattle.ci_machine.specs.declared.records.Variable.{Variable}
use Rattle.ci_machine.specs.declared.records.Pipeline.{Pipeline}
use Rattle.ci_machine.specs.declared.records.RefKind.{RefKind}
use Rattle.ci_machine.specs.declared.records.RefKind.TheVariants.{Branch, Tag}
use Rattle.ci_machine.specs.declared.records.JobOptions.{JobOptions}
use Rattle.ci_machine.specs.declared.records.Job.{Job}
use Rattle.ci_machine.specs.declared.records.JobVariable.{JobVariable}
use Rattle.ci_machine.specs.declared.records.Need.{Need}
use Rattle.ci_machine.specs.declared.records.Claim.{Claim}
use Rattle.ci_machine.specs.declared.change.RowChange.{RowChange}
use Rattle.ci_machine.specs.declared.change.RowChange.TheVariants.{Put}
use Rattle.ci_machine.specs.declared.change.Record.{Record}
use Rattle.ci_machine.specs.declared.change.Counter.{Counter}
use Rattle.ci_machine.specs.declared.request.PipelineVariable.{PipelineVariable}
use Rattle.ci_machine.specs.declared.request.NewPipeline.{NewPipeline}
use Rattle.ci_machine.specs.declared.reply.Code.{Code}
use Rattle.ci_machine.specs.declared.reply.Code.TheVariants.{M13, M15}
use Rattle.ci_machine.specs.declared.reply.FaultCode.TheVariants.{G, K}
use Rattle.ci_machine.specs.declared.reply.Detail.{Detail}
use Rattle.ci_machine.specs.declared.records.BoardRow.{BoardRow}
use Rattle.ci_machine_steps.specs.Plans.{Plan, refused, faulted, created}
use Rattle.ci_machine_steps.specs.Files.{IsRead}

-- ---- what refuses it before the file is read

-- each has the name of a variable, and none has that of a later one
abbrev pub have_names : List PipelineVariable → Bool
have_names [] = true
have_names (v ∷ vs) = is_variable_name v.key && not (list_any (λ w. bytes_eq w.key v.key) vs) && have_names vs

abbrev pub file_or_none : Option (List ℕ) → Result (List ℕ) Plan
file_or_none None = Err (refused M13)
file_or_none (Some text) = Ok text

abbrev pub file_for : Project → NewPipeline → Result (List ℕ) Plan
file_for project new =
    if not (is_name new.git_ref) then Err (faulted (Detail.Code (K 16)))
    else if nat_lt MAX_VARIABLES (length new.variables) then Err (faulted (Detail.Code (K 11)))
    else if not (have_names new.variables) then Err (faulted (Detail.Code (K 12)))
    else file_or_none project.file

-- the file by which a pipeline is to be made, of the project that was asked for, if it was; or what refuses it
abbrev pub may_create : Result Project Code → NewPipeline → Result (List ℕ) Plan
may_create (Err code) new = Err (refused code)
may_create (Ok project) new = file_for project new

-- ---- what its file lays out

-- the variable that names the ref
abbrev pub ref_name : RefKind → List ℕ
ref_name Branch = codes "CI_COMMIT_BRANCH"
ref_name Tag = codes "CI_COMMIT_TAG"

-- the predefined variables of all its jobs; each job has its name and stage beside them
abbrev pub predefined : NewPipeline → Variables
predefined new =
    (codes "CI", codes "true")
    ∷ (ref_name new.kind, new.git_ref)
    ∷ (codes "CI_COMMIT_REF_NAME", new.git_ref)
    ∷ (codes "CI_PIPELINE_SOURCE", source_text new.source)
    ∷ (codes "CI_PROJECT_ID", decimal new.project)
    ∷ []

-- the variables that it brings: its own, those of its project, and the predefined
abbrev pub given_by : NewPipeline → List Variable → Given
given_by new vs = record { pipeline = map (λ v. (v.key, v.value)) new.variables; project = map (λ v. (v.key, v.value)) vs; predefined = predefined new }

abbrev pub graph_fault : GraphCode → Detail
graph_fault G1 = Detail.Code (G 1)
graph_fault G2 = Detail.Code (G 2)
graph_fault G3 = Detail.Code (G 3)
graph_fault G4 = Detail.Code (G 4)
graph_fault G5 = Detail.Code (G 5)

-- what a file configures, and the jobs that a pipeline has of it, with the pairs of them
pub record Layout : Type 0 where
  pub config : Config
  pub plan : layout.Plan

-- What a file lays out where a pipeline brings these variables: its jobs and their pairs; or the first fault of the file, and
-- then of the graph.
pub data IsLaidOut (text : List ℕ) (given : Given) : Result Layout Detail → Type 0 where
  misread : (fault : Detail) → IsRead text (Err fault) → IsLaidOut text given (Err fault)
  unplanned : (c : Config) (code : GraphCode) → IsRead text (Ok c) → Plans given c (Err code) → IsLaidOut text given (Err (graph_fault code))
  planned : (c : Config) (p : layout.Plan) → IsRead text (Ok c) → Plans given c (Ok p) → IsLaidOut text given (Ok (record { config = c; plan = p }))

-- ---- its jobs

-- what the file and its rules fix of a job
abbrev pub job_options : IncludedJob → JobOptions
job_options i = record {
  script = i.job.script;
  timeout = unwrap_or i.job.timeout DEFAULT_TIMEOUT_SECONDS;
  tags = i.job.tags;
  resource_group = i.job.resource_group;
  interruptible = i.job.interruptible;
  part = job_part i;
}

-- the job at a position of a pipeline, whose first job has the number first
abbrev pub new_job : ℕ → ℕ → ℕ → IncludedJob → Job
new_job pipeline first position i =
    record { id = first + position; pipeline = pipeline; position = position; name = i.job.name; stage = i.job.stage; options = job_options i; played = false; cancelled = false; set_aside = 0 }

-- the jobs from a position on
abbrev pub new_jobs : ℕ → ℕ → ℕ → List IncludedJob → List Job
new_jobs pipeline first position [] = []
new_jobs pipeline first position (i ∷ is) = new_job pipeline first position i ∷ new_jobs pipeline first (position + 1) is

-- ---- their variables

abbrev pub name_cmp : List ℕ × List ℕ → List ℕ × List ℕ → Ordering
name_cmp v w = slice_cmp nat_cmp v.0 w.0

-- By their names, each with its first value: the last is put first, and each before it takes the place of one of its name.
abbrev pub merged : Variables → Variables
merged [] = []
merged (v ∷ vs) = put name_cmp v (merged vs)

abbrev pub variable : ℕ → List ℕ × List ℕ → JobVariable
variable job v = record { job = job; key = v.0; value = v.1 }

-- the variables of a job with this number, of all layers
abbrev pub job_variables : Given → Config → ℕ → IncludedJob → List JobVariable
job_variables given c job i = map (variable job) (merged (layered given c i.job i.variables))

-- of jobs with the numbers from n on
abbrev pub variables_from : Given → Config → ℕ → List IncludedJob → List JobVariable
variables_from given c n [] = []
variables_from given c n (i ∷ is) = job_variables given c n i ++ variables_from given c (n + 1) is

-- ---- which of them waits for which

abbrev pub need_of : ℕ → ℕ × ℕ → Need
need_of first pair = record { job = first + pair.1; pred = first + pair.0 }

-- these pairs of positions, by the numbers of the jobs, put among those before them; a repeat counts once
abbrev pub put_needs : ℕ → List (ℕ × ℕ) → List Need → List Need
put_needs first [] needs = needs
put_needs first (pair ∷ pairs) needs = put_needs first pairs (put need_cmp (need_of first pair) needs)

-- ---- it is made

-- the records of a new pipeline
pub record Creation : Type 0 where
  pub pipeline : Pipeline
  pub jobs : List Job
  pub variables : List JobVariable
  pub needs : List Need

-- the pipeline with this number
abbrev pub new_pipeline : ℕ → NewPipeline → ℕ → Pipeline
new_pipeline id new now = record { id = id; project = new.project; git_ref = new.git_ref; kind = new.kind; source = new.source; created = now }

-- with these next numbers of pipelines and jobs
abbrev pub creation : ℕ → ℕ → NewPipeline → Given → ℕ → Layout → Creation
creation id first new given now laid = record {
  pipeline = new_pipeline id new now;
  jobs = new_jobs id first 0 laid.plan.jobs;
  variables = variables_from given laid.config first laid.plan.jobs;
  needs = put_needs first laid.plan.pairs [];
}

abbrev pub creation_changes : ℕ → Creation → List RowChange
creation_changes first made =
    Put (Record.Pipeline made.pipeline)
    ∷ Put (Record.Next Counter.Pipeline (made.pipeline.id + 1))
    ∷ Put (Record.Next Counter.Job (first + length made.jobs))
    ∷ (map (λ j. Put (Record.Job j)) made.jobs ++ (map (λ v. Put (Record.JobVariable v)) made.variables ++ map (λ w. Put (Record.Need w)) made.needs))

-- the pipeline is shown with the statuses of its jobs, which have these rows, where these claims are on resource groups
abbrev pub pipeline_created : ℕ → Creation → List Claim → List Row → Plan
pipeline_created first made claims rows = (created (compact_text (pipeline_data made.pipeline claims made.jobs (replicate (length made.jobs) no_facts) rows)), creation_changes first made)

-- the number of the pipeline, or that of the last of so many jobs from the first on, is over the limit
abbrev pub lacks_numbers : ℕ → ℕ → ℕ → Bool
lacks_numbers pipeline first count = nat_lt MAX_NUMBER pipeline || nat_lt MAX_NUMBER (first + count - 1)

-- The records are made, and the pipeline is shown as it stands in the state after that: with the rows of that state's board, and with the claims that
-- are on resource groups then.
abbrev pub ShowsCreated : State → ℕ → Creation → Plan → Type 0
ShowsCreated s first made plan =
    let t = applied (creation_changes first made) s in
    (after : List BoardRow) × AreBoard t after × (plan ≡ pipeline_created first made (claims_in t after made.pipeline.id) (rows_of t after made.pipeline.id))

abbrev pub MakesUnless : Bool → State → ℕ → Creation → Plan → Type 0
MakesUnless true s first made plan = plan ≡ refused M15
MakesUnless false s first made plan = ShowsCreated s first made plan

-- it is made of what the file lays out, with the state's next numbers
abbrev pub Makes : State → NewPipeline → Given → ℕ → Result Layout Detail → Plan → Type 0
Makes s new given now (Err fault) plan = plan ≡ faulted fault
Makes s new given now (Ok laid) plan = MakesUnless (lacks_numbers s.next.pipeline s.next.job (length laid.plan.jobs)) s s.next.job (creation s.next.pipeline s.next.job new given now laid) plan

-- it is made of this file, if nothing refuses it before
abbrev pub Creates : State → NewPipeline → Given → ℕ → Result (List ℕ) Plan → Plan → Type 0
Creates s new given now (Err refusal) plan = plan ≡ refusal
Creates s new given now (Ok text) plan = (laid : Result Layout Detail) × IsLaidOut text given laid × Makes s new given now laid plan
