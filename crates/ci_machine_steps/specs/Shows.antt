-- A pipeline of a project is asked for, a job of one, or the trace of a job's last attempt.
use Rattle.std.specs.Prelude.{ℕ, List, [], if◌then◌else◌, ◌==◌, Option, Some, None, Result, Ok, Err}
use Rattle.serde_json.specs.Written.{compact_text}
use Rattle.ci_machine.specs.declared.records.Project.{Project}
use Rattle.ci_machine.specs.declared.records.Pipeline.{Pipeline}
use Rattle.ci_machine.specs.declared.records.Job.{Job}
use Rattle.ci_machine.specs.declared.records.Claim.{Claim}
use Rattle.ci_machine.specs.declared.request.JobQuery.{JobQuery}
use Rattle.ci_machine.specs.declared.reply.Code.{Code}
use Rattle.ci_machine.specs.declared.reply.Code.TheVariants.{M1, M2, M3}
use Rattle.ci_machine.specs.declared.reply.Body.TheVariants.{Json, Plain}
use Rattle.ci_machine.specs.Prelude.{Facts, Row, Status, printed_status, job_data, pipeline_data}
use Rattle.ci_machine_steps.specs.Plans.{Plan, refused, fine}

-- the job, where its pipeline is the project's
abbrev pub job_within : Option Job → Option Pipeline → ℕ → Result Job Code
job_within (Some job) (Some pipeline) project = if pipeline.project == project then Ok job else Err M3
job_within (Some job) None project = Err M3
job_within None pipeline project = Err M3

-- the job that a query names: the project with the query's token, the job with its number, and that job's pipeline
abbrev pub asked_job : Option Project → Option Job → Option Pipeline → JobQuery → Result Job Code
asked_job None job pipeline query = Err M1
asked_job (Some project) job pipeline query = if project.id == query.project then job_within job pipeline project.id else Err M2

-- the job of a project with its status, where these claims are on resource groups
abbrev pub job_shown : List Claim → ℕ → Job → Status → Plan
job_shown claims project job status = (fine (Json (compact_text (job_data (printed_status claims project job status) job))), [])

abbrev pub shown : List Claim → ℕ → Result Job Code → Status → Plan
shown claims project (Ok job) status = job_shown claims project job status
shown claims project (Err code) status = refused code

-- a job of a project, and its status, where these claims are on resource groups
abbrev pub show_job : Option Project → Option Job → Option Pipeline → List Claim → Status → JobQuery → Plan
show_job project job pipeline claims status query = shown claims query.project (asked_job project job pipeline query) status

abbrev pub trace_shown : List ℕ → Plan
trace_shown trace = (fine (Plain trace), [])

abbrev pub traced : Result Job Code → List ℕ → Plan
traced (Ok job) trace = trace_shown trace
traced (Err code) trace = refused code

-- a job of a project, and the trace of its last attempt
abbrev pub show_trace : Option Project → Option Job → Option Pipeline → List ℕ → JobQuery → Plan
show_trace project job pipeline trace query = traced (asked_job project job pipeline query) trace

-- ---- a pipeline

-- the pipeline, where it is the project's
abbrev pub pipeline_within : Option Pipeline → ℕ → Result Pipeline Code
pipeline_within None project = Err M3
pipeline_within (Some pipeline) project = if pipeline.project == project then Ok pipeline else Err M3

-- the pipeline that was found, of the project that was asked for
abbrev pub asked_pipeline : Result Project Code → Option Pipeline → Result Pipeline Code
asked_pipeline (Err code) pipeline = Err code
asked_pipeline (Ok project) pipeline = pipeline_within pipeline project.id

abbrev pub pipeline_shown : Pipeline → List Claim → List Job → List Facts → List Row → Plan
pipeline_shown p claims jobs facts rows = (fine (Json (compact_text (pipeline_data p claims jobs facts rows))), [])

-- a pipeline, and its jobs with their facts and rows, where these claims are on resource groups
abbrev pub show_pipeline : Result Pipeline Code → List Claim → List Job → List Facts → List Row → Plan
show_pipeline (Ok p) claims jobs facts rows = pipeline_shown p claims jobs facts rows
show_pipeline (Err code) claims jobs facts rows = refused code
