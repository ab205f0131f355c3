-- A project is read, or what it has: its newest pipelines, the jobs of a pipeline, the attempts of a job, the trace of one of them, and its resource groups.
use Rattle.std.specs.Prelude.{ℕ, List, [], ◌∷◌, map, find, take, ◌==◌, if◌then◌else◌, Option, Some, None, option_map, option_and_then, Result, Ok, Err}
use Rattle.std.specs.Ordering.{nat_cmp}
use Rattle.std.specs.Cmp.Lexicographic.{slice_cmp}
use Rattle.serde_json.specs.Data.{Data, array}
use Rattle.serde_json.specs.View.{items_of}
use Rattle.serde_json.specs.Written.{compact_text}
use Rattle.ci_machine.specs.declared.limits.TheConstants.{LISTED_PIPELINES}
use Rattle.ci_machine.specs.declared.records.Project.{Project}
use Rattle.ci_machine.specs.declared.records.Pipeline.{Pipeline}
use Rattle.ci_machine.specs.declared.records.Job.{Job}
use Rattle.ci_machine.specs.declared.records.Attempt.{Attempt}
use Rattle.ci_machine.specs.declared.records.BoardRow.{BoardRow}
use Rattle.ci_machine.specs.declared.request.Subject.{Subject}
use Rattle.ci_machine.specs.declared.reply.Code.{Code}
use Rattle.ci_machine.specs.declared.reply.Code.TheVariants.{M3}
use Rattle.ci_machine.specs.declared.reply.Body.{Body}
use Rattle.ci_machine.specs.declared.reply.Body.TheVariants.{Json, Plain}
use Rattle.ci_machine.specs.Prelude.{State, put, jobs_of, attempts_of, facts_of, rows_of, pipeline_at, job_at, attempt_at, pipeline_of, trace_of, newest_of, with_status, holds}
use Rattle.ci_machine.specs.Prelude.{order_of, holders, holders_in, claims_in, modes_in, listed, project_data, listed_pipeline_data, attempt_data, told_jobs, group_data}
use Rattle.ci_machine_steps.specs.Plans.{Plan, refused, fine}
use Rattle.ci_machine_steps.specs.Shows.{job_within, pipeline_within}

abbrev pub json : Data → Body
json d = Json (compact_text d)

-- ---- the newest pipelines of a project, each with its status

abbrev pub listed_pipelines : State → ℕ → List Pipeline
listed_pipelines s project = take LISTED_PIPELINES (newest_of s project)

abbrev pub pipelines_read : State → List BoardRow → ℕ → Data
pipelines_read s board project = listed listed_pipeline_data (map (with_status s board) (listed_pipelines s project))

-- ---- the jobs of a pipeline of the project

abbrev pub jobs_read : State → List BoardRow → ℕ → Result Pipeline Code → Result Body Code
jobs_read s board project (Err code) = Err code
jobs_read s board project (Ok p) =
    Ok (json (array (items_of (told_jobs (claims_in s board p.id) project s.runners s.needs s.attempts (jobs_of s p.id) (facts_of s p.id) (rows_of s board p.id)))))

-- ---- the attempts of a job of the project

abbrev pub attempts_read : State → Result Job Code → Result Body Code
attempts_read s (Err code) = Err code
attempts_read s (Ok j) = Ok (json (listed (attempt_data s.runners) (attempts_of s j.id)))

-- ---- the trace of an attempt of a job of the project

-- the attempt, where it is one of the job
abbrev pub attempt_within : Option Attempt → ℕ → Result Attempt Code
attempt_within None job = Err M3
attempt_within (Some a) job = if a.job == job then Ok a else Err M3

abbrev pub trace_read : State → Result Attempt Code → Result Body Code
trace_read s (Err code) = Err code
trace_read s (Ok a) = Ok (Plain (trace_of s a.id))

abbrev pub attempt_of : State → Result Job Code → ℕ → Result Attempt Code
attempt_of s (Err code) attempt = Err code
attempt_of s (Ok j) attempt = attempt_within (attempt_at s attempt) j.id

-- ---- the resource groups of a project that have a process mode or are held

-- names with these among them, each once, by their bytes
abbrev pub with_names : List (List ℕ) → List (List ℕ) → List (List ℕ)
with_names [] names = names
with_names (x ∷ xs) names = with_names xs (put (slice_cmp nat_cmp) x names)

abbrev pub group_names : State → ℕ → List (List ℕ)
group_names s project = with_names (map (λ h. h.group) (holders_in project (holders s))) (map (λ m. m.group) (modes_in project s.modes))

-- the job whose live attempt holds the group, if one does
abbrev pub holding_job : State → ℕ → List ℕ → Option ℕ
holding_job s project group = option_map (λ a. a.job) (option_and_then (λ h. attempt_at s h.attempt) (find (holds project group) (holders s)))

abbrev pub group_read : State → ℕ → List ℕ → Data
group_read s project group = group_data group (order_of s.modes project group) (holding_job s project group)

abbrev pub groups_read : State → ℕ → Data
groups_read s project = listed (group_read s project) (group_names s project)

-- ---- a project, or what it has

abbrev pub read_subject : State → List BoardRow → Project → Subject → Result Body Code
read_subject s board p Subject.Project = Ok (json (project_data p))
read_subject s board p Subject.Pipelines = Ok (json (pipelines_read s board p.id))
read_subject s board p (Subject.Jobs n) = jobs_read s board p.id (pipeline_within (pipeline_at s n) p.id)
read_subject s board p (Subject.Attempts n) = let job = job_at s n in attempts_read s (job_within job (pipeline_of s job) p.id)
read_subject s board p (Subject.Trace n attempt) = let job = job_at s n in trace_read s (attempt_of s (job_within job (pipeline_of s job) p.id) attempt)
read_subject s board p Subject.ResourceGroups = Ok (json (groups_read s p.id))

abbrev pub read_of : State → List BoardRow → Result Project Code → Subject → Result Body Code
read_of s board (Err code) what = Err code
read_of s board (Ok p) what = read_subject s board p what

-- what was read, or why nothing was; nothing changes
abbrev pub told : Result Body Code → Plan
told (Ok body) = (fine body, [])
told (Err code) = refused code

abbrev pub read : State → List BoardRow → Result Project Code → Subject → Plan
read s board project what = told (read_of s board project what)
