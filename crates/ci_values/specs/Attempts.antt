-- How an attempt stands, and sets of the causes for which one fails.
use Rattle.std.specs.Prelude.{Bool, true, false}
use Rattle.ci_values.specs.declared.attempts.AttemptState.{AttemptState}
use Rattle.ci_values.specs.declared.attempts.AttemptState.TheVariants.{Live, Succeeded, Failed, Cancelled}
use Rattle.ci_values.specs.declared.attempts.Cause.{Cause}
use Rattle.ci_values.specs.declared.attempts.Cause.TheVariants.{UnknownFailure, ScriptFailure, ApiFailure, StuckOrTimeoutFailure, RunnerSystemFailure, JobExecutionTimeout}
use Rattle.ci_values.specs.declared.when.Causes.{Causes}

abbrev pub is_live_state : AttemptState → Bool
is_live_state Live = true
is_live_state (Succeeded exit) = false
is_live_state (Failed cause exit) = false
is_live_state Cancelled = false

-- the set has the cause
abbrev pub has_cause : Causes → Cause → Bool
has_cause causes UnknownFailure = causes.unknown_failure
has_cause causes ScriptFailure = causes.script_failure
has_cause causes ApiFailure = causes.api_failure
has_cause causes StuckOrTimeoutFailure = causes.stuck_or_timeout_failure
has_cause causes RunnerSystemFailure = causes.runner_system_failure
has_cause causes JobExecutionTimeout = causes.job_execution_timeout
