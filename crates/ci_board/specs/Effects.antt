-- What a job's status means to the jobs that wait for it, and what an idle job makes of it.
use Rattle.std.specs.Prelude.{ℕ, Bool, true, false, ◌&&◌, not, List, if◌then◌else◌, ◌==◌, Option, Some, None}
use Rattle.std.specs.List.{list_any}
use Rattle.ci_values.specs.declared.attempts.AttemptState.{AttemptState}
use Rattle.ci_values.specs.declared.when.When.{When}
use Rattle.ci_values.specs.declared.when.AllowFailure.{AllowFailure}
use Rattle.ci_graph.specs.declared.part.Part.{Part}
use Rattle.ci_board.specs.declared.facts.Status.{Status}
use Rattle.ci_board.specs.declared.facts.Facts.{Facts}
use Rattle.ci_board.specs.declared.facts.Effect.{Effect}
use Rattle.ci_board.specs.declared.facts.Effect.TheVariants.{Good, Fails, Bars, Open}
use Rattle.ci_board.specs.Standing.{standing}

abbrev pub status_number : Status → ℕ
status_number Status.Created = 0
status_number Status.Pending = 1
status_number Status.Running = 2
status_number Status.Success = 3
status_number Status.Failed = 4
status_number Status.Canceled = 5
status_number Status.Skipped = 6
status_number Status.Manual = 7

-- both are the same
abbrev pub is_status : Status → Status → Bool
is_status a b = status_number a == status_number b

-- the last attempt failed with one of these exit codes
abbrev pub is_listed : List ℕ → Option AttemptState → Bool
is_listed codes (Some (AttemptState.Failed cause (Some exit))) = list_any (λ c. c == exit) codes
is_listed codes (Some (AttemptState.Failed cause None)) = false
is_listed codes (Some AttemptState.Live) = false
is_listed codes (Some (AttemptState.Succeeded exit)) = false
is_listed codes (Some AttemptState.Cancelled) = false
is_listed codes None = false

-- the pipeline goes on though the job has this status
abbrev pub is_allowed_by : AllowFailure → Facts → Status → Bool
is_allowed_by AllowFailure.No facts s = false
is_allowed_by AllowFailure.Yes facts s = true
is_allowed_by (AllowFailure.ExitCodes codes) facts s = is_status Status.Failed s && is_listed codes facts.last

abbrev pub is_allowed : Part → Facts → Status → Bool
is_allowed part facts s = is_allowed_by part.allow_failure facts s

-- what a job's part, facts and status mean to a job behind it, which gives `needs` or not
abbrev pub effect : Part → Facts → Bool → Status → Effect
effect part facts gives_needs Status.Success = Good
effect part facts gives_needs Status.Failed = if is_allowed part facts Status.Failed then Good else Fails
effect part facts gives_needs Status.Canceled = if is_allowed part facts Status.Canceled then Good else Bars
effect part facts gives_needs Status.Skipped = if gives_needs then Bars else Good
effect part facts gives_needs Status.Manual = if is_allowed part facts Status.Manual then Good else Open
effect part facts gives_needs Status.Created = Open
effect part facts gives_needs Status.Pending = Open
effect part facts gives_needs Status.Running = Open

abbrev pub is_open : Effect → Bool
is_open Open = true
is_open _ = false

abbrev pub is_fail : Effect → Bool
is_fail Fails = true
is_fail _ = false

abbrev pub is_bar : Effect → Bool
is_bar Bars = true
is_bar _ = false

-- the job's `when` is met by these effects of its predecessors
abbrev pub is_met : When → List Effect → Bool
is_met When.OnSuccess effects = not (list_any is_fail effects) && not (list_any is_bar effects)
is_met When.Manual effects = not (list_any is_fail effects) && not (list_any is_bar effects)
is_met When.OnFailure effects = list_any is_fail effects
is_met When.Always effects = true

-- a user has to play the job first
abbrev pub waits_for_play : When → Facts → Bool
waits_for_play When.Manual facts = not facts.played
waits_for_play When.OnSuccess facts = false
waits_for_play When.OnFailure facts = false
waits_for_play When.Always facts = false

-- the status of an idle job, by the effects of its predecessors
abbrev pub idle_status : Part → Facts → List Effect → Status
idle_status part facts effects =
    if list_any is_open effects then Status.Created
    else if is_met part.«when» effects then (if waits_for_play part.«when» facts then Status.Manual else Status.Pending)
    else Status.Skipped

abbrev pub status_by : Option Status → Status → Status
status_by (Some standing) idle = standing
status_by None idle = idle

-- the status of a job: its standing, or where it is idle what its predecessors' effects make of it
abbrev pub status_of_effects : Part → Facts → List Effect → Status
status_of_effects part facts effects = status_by (standing part facts) (idle_status part facts effects)
