-- Worked examples of who is given a job, and when, each one computed: tags, paused runners, resource groups, time limits, and pipelines
-- that a newer one makes redundant.
use Rattle.std.specs.Prelude.{ℕ, Bool, true, false, List, [], ◌∷◌, Option, Some, None, codes}
use Rattle.ci_machine_steps.specs.Prelude.{Status, no_row, Runner, Pipeline, Job, JobOptions, BoardRow, NewRunner, Report, HttpStatus, State, first_numbers, Plan, plain_options}
use Rattle.ci_machine_steps.specs.Prelude.{pause_runner, runner_at}
use Rattle.ci_machine_laws.specs.Examples.{job, leased, after, asked, said, new_runner}
use Rattle.ci_machine_laws.specs.ActExamples.{its_pipeline}

-- ---- one pending job, of the project 1, and one runner, which has the token `r`

abbrev pub some_runner : Runner
some_runner = record { id = 1; name = codes "r"; token = codes "r"; project = None; tags = []; untagged = true; paused = false }

-- a runner with these tags, which runs no untagged jobs
abbrev pub tagged : List (List ℕ) → Runner
tagged tags = record some_runner { tags = tags; untagged = false }

abbrev pub tagged_job : List (List ℕ) → Job
tagged_job tags = record job { options = record (plain_options []) { tags = tags } }

-- a job with these tags waits
abbrev pub waits : List (List ℕ) → Runner → State
waits tags runner = record leased { runners = runner ∷ []; jobs = tagged_job tags ∷ []; attempts = []; next = first_numbers }

-- the runner is paused, or goes on
abbrev pub pause : Bool → State → Plan
pause paused s = pause_runner (runner_at s 1) paused

-- the statuses of the jobs 1 and 2, of which none waits for the other
abbrev pub both : Status → Status → List BoardRow
both first second = (record { job = 1; row = record no_row { status = first } }) ∷ (record { job = 2; row = record no_row { status = second } }) ∷ []

-- what the runner is answered
abbrev pub answer_of : State → List BoardRow → HttpStatus
answer_of s board = (asked s board (codes "r")).0.status

-- ---- runners to be made

abbrev pub with_tags : List (List ℕ) → NewRunner
with_tags tags = record new_runner { tags = tags }

abbrev pub for_project : Option ℕ → NewRunner
for_project project = record new_runner { project = project }

-- ---- a time limit of a minute, for the job of an attempt that was granted at 1000

abbrev pub of_a_minute : State
of_a_minute = record leased { jobs = (record job { options = record (plain_options []) { timeout = 60 } }) ∷ [] }

-- its runner is heard of at these moments
abbrev pub heard_at : List ℕ → State → State
heard_at [] s = s
heard_at (now ∷ later) s = heard_at later (after (said s [] Report.Running now) s)

abbrev pub replies_at : List ℕ → State → List HttpStatus
replies_at [] s = []
replies_at (now ∷ later) s = (said s [] Report.Running now).0.status ∷ replies_at later (after (said s [] Report.Running now) s)

abbrev pub moments : List ℕ
moments = 1010 ∷ 1020 ∷ 1030 ∷ 1040 ∷ 1050 ∷ 1005 ∷ []

-- ---- two pipelines of `main`, each of a job `ship` with the resource group `prod`

abbrev pub ship_options : Bool → JobOptions
ship_options interruptible = record (plain_options []) { resource_group = Some (codes "prod"); interruptible = interruptible }

abbrev pub ship : Bool → ℕ → Job
ship interruptible n = record job { id = n; pipeline = n; name = codes "ship"; stage = codes "test"; options = ship_options interruptible }

-- the second is of this ref
abbrev pub second : List ℕ → Pipeline
second git_ref = record its_pipeline { id = 2; git_ref = git_ref }

abbrev pub ships : Bool → List ℕ → State
ships interruptible git_ref = record leased {
  runners = some_runner ∷ [];
  pipelines = its_pipeline ∷ second git_ref ∷ [];
  jobs = ship interruptible 1 ∷ ship interruptible 2 ∷ [];
  attempts = [];
  next = first_numbers;
}

-- the runner is granted a job
abbrev pub after_asking : State → List BoardRow → State
after_asking s board = after (asked s board (codes "r")) s

-- the first job is granted
abbrev pub shipping : Bool → List ℕ → State
shipping interruptible git_ref = after_asking (ships interruptible git_ref) (both Status.Pending Status.Pending)
