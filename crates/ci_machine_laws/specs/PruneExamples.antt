-- Worked examples of pipelines that are pruned, each one computed.
use Rattle.std.specs.Prelude.{ℕ, List, [], ◌∷◌, Some, None, codes}
use Rattle.ci_machine_steps.specs.Prelude.{Live, Succeeded, Row, Status, Pipeline, Job, JobVariable, Attempt, Trace, BoardRow, State, first_numbers, jobs_of, Plan, prune}
use Rattle.ci_machine_laws.specs.Examples.{job, leased}
use Rattle.ci_machine_laws.specs.ActExamples.{its_pipeline, need, tried, row, board_from}

-- ---- the first pipeline has the jobs 1 and 2, of which the second waits for the first; the second pipeline has the job 3. Each was tried once.

-- the first moment of 1970-01-02
abbrev pub second_day : ℕ
second_day = 86400

abbrev pub first_pipeline : Pipeline
first_pipeline = its_pipeline

abbrev pub second_pipeline : Pipeline
second_pipeline = record its_pipeline { id = 2; created = 90000 }

-- the job n of a pipeline
abbrev pub job_in : ℕ → ℕ → Job
job_in pipeline n = record job { id = n; pipeline = pipeline }

-- its variable
abbrev pub variable_of : ℕ → JobVariable
variable_of n = record { job = n; key = codes "A"; value = codes "v" }

-- its attempt, which has the number of the job, and succeeded
abbrev pub succeeded_at : ℕ → Attempt
succeeded_at n = tried n n (Succeeded None)

-- the trace of that
abbrev pub its_trace : ℕ → Trace
its_trace n = record { attempt = n; bytes = codes "ok" }

abbrev pub both_done : State
both_done = record leased {
  pipelines = first_pipeline ∷ second_pipeline ∷ [];
  jobs = job_in 1 1 ∷ job_in 1 2 ∷ job_in 2 3 ∷ [];
  job_variables = variable_of 1 ∷ variable_of 2 ∷ variable_of 3 ∷ [];
  needs = need 2 1 ∷ [];
  attempts = succeeded_at 1 ∷ succeeded_at 2 ∷ succeeded_at 3 ∷ [];
  traces = its_trace 1 ∷ its_trace 2 ∷ its_trace 3 ∷ [];
  next = record first_numbers { project = 2; pipeline = 3; job = 4; attempt = 4 };
}

abbrev pub done_row : Row
done_row = row Status.Success 0 0 0

abbrev pub both_board : List BoardRow
both_board = board_from 1 (done_row ∷ done_row ∷ done_row ∷ [])

abbrev pub first_pruned : Plan
first_pruned = prune (Some first_pipeline) (jobs_of both_done 1) both_done.attempts

-- ---- what is left: the second pipeline, and each next number as it was

abbrev pub second_left : State
second_left = record both_done {
  pipelines = second_pipeline ∷ [];
  jobs = job_in 2 3 ∷ [];
  job_variables = variable_of 3 ∷ [];
  needs = [];
  attempts = succeeded_at 3 ∷ [];
  traces = its_trace 3 ∷ [];
}

abbrev pub second_board : List BoardRow
second_board = board_from 3 (done_row ∷ [])

abbrev pub second_pruned : Plan
second_pruned = prune (Some second_pipeline) (jobs_of second_left 2) second_left.attempts

-- ---- the job 2 runs still, or can't yet

-- it runs
abbrev pub running : State
running = record both_done { attempts = succeeded_at 1 ∷ tried 2 2 Live ∷ succeeded_at 3 ∷ [] }

-- it waits for a runner
abbrev pub waiting : State
waiting = record both_done { attempts = succeeded_at 1 ∷ succeeded_at 3 ∷ [] }

-- the rows where it has this status
abbrev pub with_second : Status → List BoardRow
with_second status = board_from 1 (done_row ∷ row status 0 0 0 ∷ done_row ∷ [])
