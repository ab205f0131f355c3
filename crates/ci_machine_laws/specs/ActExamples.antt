-- Worked examples of what a user does to jobs, each one computed: they are cancelled, tried again, played.
use Rattle.std.specs.Prelude.{ℕ, ◌+◌, ◌-◌, Bool, true, List, [], ◌∷◌, map, None, codes}
use Rattle.ci_machine_steps.specs.Prelude.{AttemptState, Live, Succeeded, ScriptFailure, When, OnSuccess, OnFailure, Always, Manual, Yes, Row, Status, Pipeline, Branch, Api, Job}
use Rattle.ci_machine_steps.specs.Prelude.{Need, Attempt, BoardRow, PipelineQuery, RowChange, State, applied, jobs_of, attempts_of, facts_of, Plan, plain_options, job_shown}
use Rattle.ci_machine_steps.specs.Prelude.{pipeline_shown, play, retry, cancellable_jobs, cancel}
use Rattle.ci_machine.specs.Prelude.{Failed, Part, no_part}
use Rattle.ci_machine_laws.specs.Examples.{attempt, job, leased, after}

-- ---- pipelines by hand

-- what a status depends on of a job that runs at this time
abbrev pub at : When → Part
at w = record no_part { «when» = w }

-- of a job that a user starts; the pipeline goes on while it waits
abbrev pub by_hand : Part
by_hand = record (at Manual) { allow_failure = Yes }

-- of a job that gives `needs`
abbrev pub needing : When → Part
needing w = record (at w) { gives_needs = true }

-- the job with this number, name and stage
abbrev pub job_with : ℕ → List ℕ → List ℕ → Part → Job
job_with id name stage part = record job { id = id; position = id - 1; name = name; stage = stage; options = record (plain_options []) { part = part } }

abbrev pub need : ℕ → ℕ → Need
need job pred = record { job = job; pred = pred }

-- the attempt with this number, of a job
abbrev pub tried : ℕ → ℕ → AttemptState → Attempt
tried id job state = record (attempt 1000 state) { id = id; job = job }

-- the pipeline 1 of the project 1, which has the token `p`
abbrev pub its_pipeline : Pipeline
its_pipeline = record { id = 1; project = 1; git_ref = codes "main"; kind = Branch; source = Api; created = 1000 }

-- its jobs, which of them waits for which, and their attempts
abbrev pub has_jobs : List Job → List Need → List Attempt → State
has_jobs jobs needs attempts = record leased { pipelines = its_pipeline ∷ []; jobs = jobs; needs = needs; attempts = attempts }

abbrev pub pipeline_query : ℕ → ℕ → List ℕ → PipelineQuery
pipeline_query project number token = record { project = project; token = token; pipeline = number }

-- a status, and the numbers of open, failed and barred predecessors
abbrev pub row : Status → ℕ → ℕ → ℕ → Row
row status opens failed barred = record { status = status; opens = opens; failed = failed; barred = barred }

-- the rows of the jobs from a number on
abbrev pub board_from : ℕ → List Row → List BoardRow
board_from n [] = []
board_from n (r ∷ rows) = record { job = n; row = r } ∷ board_from (n + 1) rows

-- the changes, and the reply that shows the pipeline with these rows after them; none of its jobs has a resource group
abbrev pub pipeline_after : State → List RowChange → List Row → Plan
pipeline_after s changes rows =
    let t = applied changes s in
    ((pipeline_shown its_pipeline [] (jobs_of t 1) (facts_of t 1) rows).0, changes)

-- the changes, and the reply that shows the job with this status
abbrev pub job_after : Job → List RowChange → Status → Plan
job_after j changes status = ((job_shown [] 1 j status).0, changes)

-- ---- a pipeline is cancelled

-- `run`, which runs, `hand`, which waits for a user, and `alarm`, which runs where a job failed; `later`, of the stage behind
abbrev pub run : Job
run = job_with 1 (codes "run") (codes "build") (at OnSuccess)

abbrev pub four : State
four = has_jobs
    (run ∷ job_with 2 (codes "hand") (codes "build") by_hand ∷ job_with 3 (codes "alarm") (codes "build") (at OnFailure) ∷ job_with 4 (codes "later") (codes "test") (at OnSuccess) ∷ [])
    (need 4 1 ∷ need 4 2 ∷ need 4 3 ∷ [])
    (tried 1 1 Live ∷ [])

abbrev pub four_board : List BoardRow
four_board = board_from 1 (row Status.Running 0 0 0 ∷ row Status.Manual 0 0 0 ∷ row Status.Skipped 0 0 0 ∷ row Status.Created 1 0 0 ∷ [])

abbrev pub cancelled_rows : List Row
cancelled_rows = row Status.Canceled 0 0 0 ∷ row Status.Canceled 0 0 0 ∷ row Status.Skipped 0 0 0 ∷ row Status.Canceled 0 0 1 ∷ []

abbrev pub all_cancelled : Plan
all_cancelled = pipeline_after four (cancel four.attempts (cancellable_jobs four four_board 1)) cancelled_rows

abbrev pub cancel_marks : State → List Bool
cancel_marks s = map (λ j. j.cancelled) s.jobs

-- `run` alone is cancelled, and `later` is skipped
abbrev pub run_cancelled : Plan
run_cancelled = job_after run (cancel four.attempts (run ∷ [])) Status.Canceled

abbrev pub run_cancelled_rows : List Row
run_cancelled_rows = row Status.Canceled 0 0 0 ∷ row Status.Manual 0 0 0 ∷ row Status.Skipped 0 0 0 ∷ row Status.Skipped 0 0 1 ∷ []

-- ---- a job is tried again, and jobs that were skipped are taken back

-- `a`, which failed; `f`, which ran since it did and succeeded, `w`, which runs in any case, and `s`, which need it; `g`, which needs `s`
abbrev pub first : Job
first = job_with 1 (codes "a") (codes "build") (at OnSuccess)

abbrev pub five : State
five = has_jobs
    (first ∷ job_with 2 (codes "f") (codes "test") (needing OnFailure) ∷ job_with 3 (codes "w") (codes "test") (needing Always) ∷ job_with 4 (codes "s") (codes "test") (needing OnSuccess) ∷ job_with 5 (codes "g") (codes "deploy") (needing OnSuccess) ∷ [])
    (need 2 1 ∷ need 3 1 ∷ need 4 1 ∷ need 5 4 ∷ [])
    (tried 1 1 (Failed ScriptFailure None) ∷ tried 2 2 (Succeeded None) ∷ [])

abbrev pub five_board : List BoardRow
five_board = board_from 1 (row Status.Failed 0 0 0 ∷ row Status.Success 0 1 0 ∷ row Status.Pending 0 1 0 ∷ row Status.Skipped 0 1 0 ∷ row Status.Skipped 0 0 1 ∷ [])

abbrev pub first_retried : Plan
first_retried = job_after first (retry (attempts_of five 1) first) Status.Pending

abbrev pub retried_rows : List Row
retried_rows = row Status.Pending 0 0 0 ∷ row Status.Success 1 0 0 ∷ row Status.Created 1 0 0 ∷ row Status.Created 1 0 0 ∷ row Status.Created 1 0 0 ∷ []

-- ---- a job is played

-- `hand`, which waits for a user; `ship`, of the stage behind
abbrev pub hand : Job
hand = job_with 1 (codes "hand") (codes "test") by_hand

abbrev pub ship : Job
ship = job_with 2 (codes "ship") (codes "deploy") (at OnSuccess)

abbrev pub two : State
two = has_jobs (hand ∷ ship ∷ []) (need 2 1 ∷ []) []

abbrev pub two_board : List BoardRow
two_board = board_from 1 (row Status.Manual 0 0 0 ∷ row Status.Pending 0 0 0 ∷ [])

abbrev pub hand_played : Plan
hand_played = job_after hand (play hand) Status.Pending

abbrev pub played_rows : List Row
played_rows = row Status.Pending 0 0 0 ∷ row Status.Created 1 0 0 ∷ []

-- then it succeeds
abbrev pub succeeded : State
succeeded = record (after hand_played two) { attempts = tried 1 1 (Succeeded None) ∷ [] }

abbrev pub succeeded_board : List BoardRow
succeeded_board = board_from 1 (row Status.Success 0 0 0 ∷ row Status.Pending 0 0 0 ∷ [])

-- and is tried again: it was played, and waits for no user
abbrev pub played_hand : Job
played_hand = record hand { played = true }

abbrev pub hand_retried : Plan
hand_retried = job_after played_hand (retry (attempts_of succeeded 1) played_hand) Status.Pending
