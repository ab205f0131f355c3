-- What a job's status is by its own facts.
use Rattle.std.specs.Prelude.{ℕ, Bool, false, ◌&&◌, if◌then◌else◌, nat_le, ◌==◌, Option, Some, None}
use Rattle.ci_values.specs.Attempts.{is_live_state, has_cause}
use Rattle.ci_values.specs.declared.attempts.AttemptState.{AttemptState}
use Rattle.ci_values.specs.declared.attempts.Cause.{Cause}
use Rattle.ci_values.specs.declared.when.Retry.{Retry}
use Rattle.ci_graph.specs.declared.part.Part.{Part}
use Rattle.ci_board.specs.declared.facts.Status.{Status}
use Rattle.ci_board.specs.declared.facts.Facts.{Facts}

-- the last attempt is live
abbrev pub is_live : Option AttemptState → Bool
is_live None = false
is_live (Some last) = is_live_state last

-- after n attempts, of which the last failed for this cause, the job is tried again by itself
abbrev pub is_retried : Retry → ℕ → Cause → Bool
is_retried retry n cause = nat_le n retry.max && has_cause retry.causes cause

-- the status by the last of n attempts; none where the job is idle, since it is to be tried again or was never tried
abbrev pub after_last : Part → ℕ → Option AttemptState → Option Status
after_last part n None = None
after_last part n (Some AttemptState.Live) = Some Status.Running
after_last part n (Some (AttemptState.Succeeded exit)) = Some Status.Success
after_last part n (Some (AttemptState.Failed cause exit)) = if is_retried part.retry n cause then None else Some Status.Failed
after_last part n (Some AttemptState.Cancelled) = Some Status.Failed

-- the first that holds: running, cancelled, and else by the attempts that aren't set aside; none where the job is idle
abbrev pub standing : Part → Facts → Option Status
standing part facts =
    if is_live facts.last then Some Status.Running
    else if facts.cancelled then Some Status.Canceled
    else if facts.attempts == 0 then None
    else after_last part facts.attempts facts.last
