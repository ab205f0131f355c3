-- Worked examples of process modes, each one computed: which job of a resource group is offered, and which ones wait.
use Rattle.std.specs.Prelude.{ℕ, false, List, [], ◌∷◌, Option, Some, None, option_map, codes}
use Rattle.ci_machine_steps.specs.Prelude.{AttemptState, Succeeded, Status, Pipeline, Job, Attempt, GroupMode, GroupOrder, BoardRow, NewMode, RowChange, Put, Remove, Record, Key}
use Rattle.ci_machine_steps.specs.Prelude.{State, order_of, Plan, asked_project, show_mode, project_with, offer}
use Rattle.ci_machine_laws.specs.Examples.{job, leased}
use Rattle.ci_machine_laws.specs.ActExamples.{its_pipeline, need, tried, row, board_from}
use Rattle.ci_machine_laws.specs.WaitingExamples.{some_runner, ship_options, ship}

-- ---- the modes of the resource group `prod` of the project 1, whose token is `p`

abbrev pub new_mode : Option GroupOrder → NewMode
new_mode order = record { project = 1; token = codes "p"; group = codes "prod"; order = order }

abbrev pub prod_in : ℕ → GroupOrder → List GroupMode
prod_in project order = record { project = project; group = codes "prod"; order = order } ∷ []

abbrev pub has_order : GroupOrder → List RowChange
has_order order = Put (Record.Mode (record { project = 1; group = codes "prod"; order = order })) ∷ []

abbrev pub has_none : List RowChange
has_none = Remove (Key.Mode 1 (codes "prod")) ∷ []

-- what is answered where its mode is asked for
abbrev pub mode_shown : State → Plan
mode_shown s = show_mode (asked_project (project_with s (codes "p")) 1) (order_of s.modes 1 (codes "prod")) (codes "prod")

-- ---- the pipelines of two or three refs

abbrev pub of_ref : ℕ → List ℕ → Pipeline
of_ref n git_ref = record its_pipeline { id = n; git_ref = git_ref }

-- the number of the job that a runner is offered that runs all jobs
abbrev pub offered : State → List BoardRow → Option ℕ
offered s board = option_map (λ q. q.job.id) (offer s board (Some some_runner))

-- ---- three pipelines of the refs `a`, `b` and `c`, each of the one job `ship`

abbrev pub three : List GroupMode → List Attempt → State
three modes attempts = record leased {
  runners = some_runner ∷ [];
  pipelines = of_ref 1 (codes "a") ∷ of_ref 2 (codes "b") ∷ of_ref 3 (codes "c") ∷ [];
  jobs = ship false 1 ∷ ship false 2 ∷ ship false 3 ∷ [];
  attempts = attempts;
  modes = modes;
}

-- the first two are pending, and the third has this status
abbrev pub third_is : Status → List BoardRow
third_is last = board_from 1 (row Status.Pending 0 0 0 ∷ row Status.Pending 0 0 0 ∷ row last 0 0 0 ∷ [])

-- the third is granted, and then it succeeds
abbrev pub third_tried : AttemptState → List Attempt
third_tried state = tried 1 3 state ∷ []

-- ---- two pipelines of the refs `a` and `b`, each of `pre` and of `ship`, of the stage behind

abbrev pub pre : ℕ → ℕ → Job
pre pipeline n = record job { id = n; pipeline = pipeline; name = codes "pre" }

abbrev pub behind : ℕ → ℕ → Job
behind pipeline n = record job { id = n; pipeline = pipeline; position = 1; name = codes "ship"; stage = codes "test"; options = ship_options false }

-- both `pre` were granted: the second one succeeded, and the first is in this state
abbrev pub pairs : List GroupMode → AttemptState → State
pairs modes first = record leased {
  runners = some_runner ∷ [];
  pipelines = of_ref 1 (codes "a") ∷ of_ref 2 (codes "b") ∷ [];
  jobs = pre 1 1 ∷ behind 1 2 ∷ pre 2 3 ∷ behind 2 4 ∷ [];
  needs = need 2 1 ∷ need 4 3 ∷ [];
  attempts = tried 1 1 first ∷ tried 2 3 (Succeeded None) ∷ [];
  modes = modes;
}

-- the first runs, so that its `ship` is created
abbrev pub pairs_running : List BoardRow
pairs_running = board_from 1 (row Status.Running 0 0 0 ∷ row Status.Created 1 0 0 ∷ row Status.Success 0 0 0 ∷ row Status.Pending 0 0 0 ∷ [])

-- it has succeeded, and both `ship` are pending
abbrev pub pairs_done : List BoardRow
pairs_done = board_from 1 (row Status.Success 0 0 0 ∷ row Status.Pending 0 0 0 ∷ row Status.Success 0 0 0 ∷ row Status.Pending 0 0 0 ∷ [])
