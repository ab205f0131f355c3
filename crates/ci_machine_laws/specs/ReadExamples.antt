-- Worked examples of what is read of a project and of what it has, each one computed.
use Rattle.std.specs.Prelude.{ℕ, zero, suc, true, false, List, [], ◌∷◌, ◌++◌, map, Option, Some, None, codes}
use Rattle.ci_machine_steps.specs.Prelude.{AttemptState, Live, Succeeded, Cancelled, ScriptFailure, JobExecutionTimeout, Always, Yes, Status, BoardRow, Pipeline, Branch, Tag, Push}
use Rattle.ci_machine_steps.specs.Prelude.{Web, Api, Job, JobOptions, Attempt, GroupMode, GroupOrder, OldestFirst, NewestReadyFirst, ReadQuery, Subject, plain_options, State}
use Rattle.ci_machine_steps.specs.Prelude.{empty, Plan, asked_project, project_with, listed_pipelines, read}
use Rattle.ci_machine.specs.Prelude.{Failed, Part, no_part}
use Rattle.ci_machine_laws.specs.ActExamples.{its_pipeline, by_hand, need, row, board_from}

-- ---- jobs and attempts

-- fixed of a job with this resource group, if it is one
abbrev pub in_group : Option (List ℕ) → Part → JobOptions
in_group group part = record (plain_options []) { resource_group = group; part = part }

-- a job of a pipeline, at its place there
abbrev pub job_in : ℕ → ℕ → ℕ → List ℕ → List ℕ → JobOptions → Job
job_in pipeline position n name stage options = record { id = n; pipeline = pipeline; position = position; name = name; stage = stage; options = options; played = false; cancelled = false; set_aside = 0 }

-- an attempt of a job by a runner, which was granted and last heard of at these moments
abbrev pub attempt_of : ℕ → ℕ → ℕ → ℕ → ℕ → AttemptState → Attempt
attempt_of n job runner granted seen state = record { id = n; job = job; runner = runner; token = []; granted = granted; seen = seen; state = state }

abbrev pub mode_in : ℕ → List ℕ → GroupOrder → GroupMode
mode_in project group order = record { project = project; group = group; order = order }

-- ---- two projects

-- The pipeline 1 is of the project 1. Its `build`, which a runner with the tag `gpu` must run, failed, was tried again and succeeded; its `lint`
-- waited for that, was cancelled, tried again and ran over its time.
abbrev pub first_jobs : List Job
first_jobs =
    record (job_in 1 0 1 (codes "build") (codes "build") (record (plain_options []) { tags = codes "gpu" ∷ codes "arm" ∷ [] })) { set_aside = 1 }
    ∷ record (job_in 1 1 2 (codes "lint") (codes "test") (in_group None (record no_part { allow_failure = Yes }))) { set_aside = 1 }
    ∷ []

-- The pipeline 3 is of the project 1 too. Its `edge` holds the resource group `edge`, and its `ship`, which a user played, `prod`, for which `check`
-- waits; `done` is behind both of them.
abbrev pub third_jobs : List Job
third_jobs =
    job_in 3 0 4 (codes "edge") (codes "build") (in_group (Some (codes "edge")) no_part)
    ∷ record (job_in 3 1 5 (codes "ship") (codes "deploy") (in_group (Some (codes "prod")) by_hand)) { played = true }
    ∷ job_in 3 2 6 (codes "check") (codes "deploy") (in_group (Some (codes "prod")) no_part)
    ∷ job_in 3 3 7 (codes "done") (codes "last") (in_group None (record no_part { «when» = Always }))
    ∷ []

-- The pipeline 2 is of the project 2, and its `ship` holds the group `prod` of that project. Of the project 1 the group `Zone` has a mode, and is held
-- by none.
abbrev pub two_projects : State
two_projects = record empty {
  projects =
      record { id = 1; name = codes "hello"; token = codes "p"; file = None }
      ∷ record { id = 2; name = codes "other"; token = codes "q"; file = None }
      ∷ [];
  runners =
      record { id = 1; name = codes "shell"; token = codes "r"; project = None; tags = codes "arm" ∷ codes "gpu" ∷ []; untagged = true; paused = false }
      ∷ record { id = 2; name = codes "big"; token = codes "s"; project = None; tags = codes "arm" ∷ codes "gpu" ∷ []; untagged = true; paused = false }
      ∷ [];
  pipelines =
      record { id = 1; project = 1; git_ref = codes "main"; kind = Branch; source = Api; created = 1000 }
      ∷ record { id = 2; project = 2; git_ref = codes "main"; kind = Branch; source = Web; created = 1005 }
      ∷ record { id = 3; project = 1; git_ref = codes "v1"; kind = Tag; source = Push; created = 90061 }
      ∷ [];
  jobs = first_jobs ++ (job_in 2 0 3 (codes "ship") (codes "deploy") (in_group (Some (codes "prod")) no_part) ∷ third_jobs);
  needs = need 2 1 ∷ need 7 4 ∷ need 7 5 ∷ [];
  attempts =
      attempt_of 1 1 1 1010 1020 (Failed ScriptFailure (Some 2))
      ∷ attempt_of 2 1 2 1030 1090 (Succeeded (Some 0))
      ∷ attempt_of 3 2 1 1100 1160 Cancelled
      ∷ attempt_of 4 2 2 1200 4790 (Failed JobExecutionTimeout None)
      ∷ attempt_of 5 3 2 90070 90070 Live
      ∷ attempt_of 6 4 1 90080 90090 Live
      ∷ attempt_of 7 5 2 90100 90130 Live
      ∷ [];
  traces = record { attempt = 1; bytes = codes "no make" } ∷ record { attempt = 2; bytes = codes "made" } ∷ record { attempt = 5; bytes = codes "other" } ∷ [];
  modes = mode_in 1 (codes "Zone") NewestReadyFirst ∷ mode_in 1 (codes "prod") OldestFirst ∷ mode_in 2 (codes "prod") NewestReadyFirst ∷ [];
}

-- the rows of its jobs
abbrev pub two_projects_board : List BoardRow
two_projects_board = board_from 1 (
    row Status.Success 0 0 0
    ∷ row Status.Failed 0 0 0
    ∷ row Status.Running 0 0 0
    ∷ row Status.Running 0 0 0
    ∷ row Status.Running 0 0 0
    ∷ row Status.Pending 0 0 0
    ∷ row Status.Created 2 0 0
    ∷ [])

-- ---- what is read

abbrev pub read_query : ℕ → List ℕ → Subject → ReadQuery
read_query project token subject = record { project = project; token = token; subject = subject }

-- what is answered
abbrev pub read_by : ReadQuery → Plan
read_by query = read two_projects two_projects_board (asked_project (project_with two_projects query.token) query.project) query.subject

-- read of the project 1, with its token
abbrev pub read_first : Subject → Plan
read_first subject = read_by (read_query 1 (codes "p") subject)

-- ---- a project with so many pipelines

abbrev pub pipelines_to : ℕ → List Pipeline
pipelines_to zero = []
pipelines_to (suc n) = pipelines_to n ++ record its_pipeline { id = suc n } ∷ []

-- the numbers of those that are listed
abbrev pub numbers_listed : ℕ → List ℕ
numbers_listed count = map (λ p. p.id) (listed_pipelines (record two_projects { pipelines = pipelines_to count }) 1)

-- so many numbers, of which the first is this one, and each other is one less
abbrev pub down_from : ℕ → ℕ → List ℕ
down_from zero first = []
down_from (suc count) zero = []
down_from (suc count) (suc n) = suc n ∷ down_from count n
