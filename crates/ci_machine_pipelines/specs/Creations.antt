-- What is answered where a pipeline is to be made of a text: its records.
use Rattle.std.specs.Prelude.{◌≡◌, ⊤, ℕ, Bool, true, false, List, length, replicate, Option, Some, None, Result, Ok, Err}
use Rattle.serde_json.specs.Written.{compact_text}
use Rattle.ci_machine_steps.specs.Prelude.{Row, no_facts, layer_view, Claim, Need, Variable, NewPipeline, pipeline_data, keyword_fault, Layout, IsLaidOut, graph_fault}
use Rattle.ci_machine_steps.specs.Prelude.{lacks_numbers}
use Rattle.ci_graph_layout.specs.Prelude.{X8, K13, config_view, plan_view, given_view}
use Rattle.ci_config.specs.declared.file.Config.{Config}
use Rattle.ci_graph_layout.specs.Inclusion as inclusion
use Rattle.ci_graph_layout.specs.declared.planning.PipelinePlan.{PipelinePlan}
use Rattle.ci_graph_layout.specs.declared.fault.PlanFault.{PlanFault}
use Rattle.ci_machine_steps.specs.Pipelines as pipelines
use Rattle.ci_machine_pipelines.specs.declared.creation.Creation.{Creation}
use Rattle.ci_machine_pipelines.specs.declared.files.FileFault.{FileFault}
use Rattle.ci_machine_pipelines.specs.declared.files.FileFault.TheVariants.{Memory, Fault}
use Rattle.ci_machine_pipelines.specs.declared.layers.Brought.{Brought}
use Rattle.ci_machine_pipelines.specs.declared.layouts.Start.{Start}

-- ---- what the code has, without where it lies in memory

abbrev pub brought_view : Brought → inclusion.Given
brought_view b = record { pipeline = layer_view b.pipeline.items; project = layer_view b.project.items; predefined = layer_view b.predefined.items }

abbrev pub layout_view : Config → PipelinePlan → Layout
layout_view c p = record { config = config_view c; plan = plan_view p }

abbrev pub creation_view : Creation → pipelines.Creation
creation_view c = record { pipeline = c.pipeline; jobs = c.jobs.items; variables = c.variables.items; needs = c.needs.items }

-- a job, and the one that it waits for
abbrev pub need_of_key : ℕ × ℕ → Need
need_of_key key = record { job = key.0; pred = key.1 }

-- ---- what a pipeline is made with, beside its file

-- its number and that of its first job, what was asked for, the variables that it brings, and the moment
pub record Origin : Type 0 where
  pub id : ℕ
  pub first_job : ℕ
  pub asked : NewPipeline
  pub given : inclusion.Given
  pub moment : ℕ

abbrev pub origin_view : Start → Origin
origin_view s = record { id = s.id; first_job = s.first_job; asked = s.asked.now; given = given_view s.given; moment = s.moment }

-- that of a pipeline that is asked for, of a project with these variables
abbrev pub origin : ℕ → ℕ → NewPipeline → List Variable → ℕ → Origin
origin id first_job asked vs moment = record { id = id; first_job = first_job; asked = asked; given = pipelines.given_by asked vs; moment = moment }

-- ---- what is answered

abbrev pub plan_fault : PlanFault → FileFault
plan_fault PlanFault.Memory = Memory
plan_fault (PlanFault.Fault code) = Fault (graph_fault code)
plan_fault PlanFault.Pattern = Fault (keyword_fault (K13 X8))

-- the body that shows the pipeline, of whose jobs none was tried, with these rows, where these are the resource groups for which they must wait
abbrev pub created_text : Creation → List Claim → List Row → List ℕ
created_text c claims rows = compact_text (pipeline_data c.pipeline claims c.jobs.items (replicate (length c.jobs.items) no_facts) rows)

-- the records of what a file lays out
abbrev pub creation_of : Origin → Layout → pipelines.Creation
creation_of o laid = pipelines.creation o.id o.first_job o.asked o.given o.moment laid

-- the number of the pipeline, or that of its last job, is over the limit
abbrev pub numbers_lack : Origin → Layout → Bool
numbers_lack o laid = lacks_numbers o.id o.first_job (length laid.plan.jobs)

-- these are its records; or there are none, since a number is over the limit
abbrev pub IsMadeOf : Origin → Layout → Option Creation → Type 0
IsMadeOf o laid (Some made) = (creation_view made ≡ creation_of o laid) × (numbers_lack o laid ≡ false)
IsMadeOf o laid None = numbers_lack o laid ≡ true

-- What a text lays out has these records, or a number is over the limit; or this is its first fault; or memory was refused.
abbrev pub LaysOut : List ℕ → Origin → Result (Option Creation) FileFault → Type 0
LaysOut text o (Ok made) = (laid : Layout) × IsLaidOut text o.given (Ok laid) × IsMadeOf o laid made
LaysOut text o (Err Memory) = ⊤
LaysOut text o (Err (Fault detail)) = IsLaidOut text o.given (Err detail)
