-- What a runner says of an attempt.
use Rattle.std.specs.Prelude.{ℕ, List, if◌then◌else◌, Option, Some, None, option_map, option_and_then, codes}
use Rattle.std.specs.Str.{bytes_eq}
use Rattle.serde_json.specs.Data.{Data}
use Rattle.serde_json.specs.Find.{get, as_number, as_u64}
use Rattle.ci_machine.specs.Prelude.{Cause, UnknownFailure, ScriptFailure, ApiFailure, StuckOrTimeoutFailure, RunnerSystemFailure, JobExecutionTimeout, within}
use Rattle.ci_machine.specs.declared.request.Report.{Report}
use Rattle.ci_machine.specs.declared.request.Report.TheVariants.{Running, Success, Failed}
use Rattle.ci_machine.specs.declared.request.JobUpdate.{JobUpdate}
use Rattle.ci_http_messages.specs.Json.{object_in, text_or_empty}
use Rattle.ci_http_messages.specs.Texts.{token_of}
use Rattle.ci_config.specs.declared.limits.TheConstants.{MAX_EXIT_CODE}

-- the cause that a failure's reason names; any other text names an unknown one
abbrev pub cause_named : List ℕ → Cause
cause_named reason =
    if bytes_eq reason (codes "script_failure") then ScriptFailure
    else (if bytes_eq reason (codes "api_failure") then ApiFailure
    else (if bytes_eq reason (codes "stuck_or_timeout_failure") then StuckOrTimeoutFailure
    else (if bytes_eq reason (codes "runner_system_failure") then RunnerSystemFailure
    else (if bytes_eq reason (codes "job_execution_timeout") then JobExecutionTimeout
    else UnknownFailure))))

-- an exit code, or that there is none; what isn't a number in digits alone, or is over the limit, is neither
abbrev pub exit_of : Option Data → Option (Option ℕ)
exit_of None = Some None
exit_of (Some value) = option_map (λ n. Some n) (option_and_then (within MAX_EXIT_CODE) (option_and_then as_u64 (as_number value)))

-- the report of a state; the cause counts where the attempt failed
abbrev pub report_by : List ℕ → Cause → Option ℕ → Option Report
report_by state cause exit =
    if bytes_eq state (codes "running") then Some Running
    else (if bytes_eq state (codes "success") then Some (Success exit)
    else (if bytes_eq state (codes "failed") then Some (Failed cause exit)
    else None))

-- the report, by the members `state`, `failure_reason` and `exit_code`
abbrev pub report_of : Option Data → Option Data → Option Data → Option Report
report_of state failure_reason exit_code =
    option_and_then (λ named. option_and_then (λ reason. option_and_then (report_by named (cause_named reason)) (exit_of exit_code))
    (text_or_empty failure_reason)) (text_or_empty state)

-- the update of an attempt, by the members `token`, `state`, `failure_reason` and `exit_code`
abbrev pub update_of : ℕ → Option Data → Option Data → Option Data → Option Data → Option JobUpdate
update_of attempt token state failure_reason exit_code =
    option_and_then (λ holder. option_map (λ report. record { attempt = attempt; token = holder; report = report })
    (report_of state failure_reason exit_code)) (token_of token)

-- the update of an attempt that a body asks for
abbrev pub update_in : ℕ → List ℕ → Option JobUpdate
update_in attempt body =
    option_and_then (λ object. update_of attempt (get (codes "token") object) (get (codes "state") object)
    (get (codes "failure_reason") object) (get (codes "exit_code") object)) (object_in body)
