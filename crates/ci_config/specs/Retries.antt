-- How often a job is tried again.
use Rattle.std.specs.Prelude.{ℕ, true, false, List, Option, Some, None, Result, Ok, if◌then◌else◌}
use Rattle.ci_yaml_lines.specs.Prelude.{UnknownFailure, ScriptFailure, ApiFailure, StuckOrTimeoutFailure, RunnerSystemFailure, JobExecutionTimeout, Causes, Retry, meaning_of}
use Rattle.ci_yaml_lines.specs.Prelude.{Value}
use Rattle.ci_config.specs.Fault.{K9, Placed}
use Rattle.ci_config.specs.Reading.{◌>>=◌, or_fault, entries, keyword_of}
use Rattle.ci_config.specs.Config.{Text}
use Rattle.ci_config.specs.Tables.{causes, retry_keywords, retry_left_out}
use Rattle.ci_config.specs.Values.{is_text, is_number, text_of, list_of, map_of, number_up_to}
use Rattle.ci_config.specs.declared.keyword.CauseWord.{CauseWord}
use Rattle.ci_config.specs.declared.keyword.CauseWord.TheVariants.{Always, One}
use Rattle.ci_config.specs.declared.keyword.RetryKeyword.{RetryKeyword}
use Rattle.ci_config.specs.declared.limits.TheConstants.{MAX_RETRIES}

abbrev pub no_causes : Causes
no_causes = record { unknown_failure = false; script_failure = false; api_failure = false; stuck_or_timeout_failure = false; runner_system_failure = false; job_execution_timeout = false }

abbrev pub all_causes : Causes
all_causes = record { unknown_failure = true; script_failure = true; api_failure = true; stuck_or_timeout_failure = true; runner_system_failure = true; job_execution_timeout = true }

-- the set with what a word names
abbrev pub with_cause : CauseWord → Causes → Causes
with_cause Always set = all_causes
with_cause (One UnknownFailure) set = record set { unknown_failure = true }
with_cause (One ScriptFailure) set = record set { script_failure = true }
with_cause (One ApiFailure) set = record set { api_failure = true }
with_cause (One StuckOrTimeoutFailure) set = record set { stuck_or_timeout_failure = true }
with_cause (One RunnerSystemFailure) set = record set { runner_system_failure = true }
with_cause (One JobExecutionTimeout) set = record set { job_execution_timeout = true }

abbrev pub cause_of : Value → Result CauseWord Placed
cause_of v = text_of v >>= λ word. or_fault (meaning_of causes word) K9

abbrev pub cause_in : Value → Causes → Result Causes Placed
cause_in v set = cause_of v >>= λ cause. Ok (with_cause cause set)

-- one cause, or a list of them
abbrev pub causes_of : Value → Result Causes Placed
causes_of v = if is_text v then cause_in v no_causes else (list_of v >>= λ vs. entries (λ before. cause_in) 0 no_causes vs)

-- ---- the map

pub record RetrySaid : Type 0 where
  pub max : Option ℕ
  pub causes : Causes

abbrev pub max_of : Value → Result ℕ Placed
max_of v = number_up_to MAX_RETRIES K9 v

abbrev pub retry_value : RetryKeyword → Value → RetrySaid → Result RetrySaid Placed
retry_value RetryKeyword.Max v r = max_of v >>= λ max. Ok (record r { max = Some max })
retry_value RetryKeyword.When v r = causes_of v >>= λ causes. Ok (record r { causes = causes })

abbrev pub retry_entry : Text × Value → RetrySaid → Result RetrySaid Placed
retry_entry m r = keyword_of retry_keywords retry_left_out m.0 >>= λ k. retry_value k m.1 r

abbrev pub retry_said : RetrySaid → Result Retry Placed
retry_said r = or_fault r.max K9 >>= λ max. Ok (record { max = max; causes = r.causes })

abbrev pub blank_retry : RetrySaid
blank_retry = record { max = None; causes = all_causes }

abbrev pub retry_from : List (Text × Value) → Result Retry Placed
retry_from ms = entries (λ before. retry_entry) 0 blank_retry ms >>= retry_said

-- a number, or a map
abbrev pub retry_of : Value → Result Retry Placed
retry_of v = if is_number v then (max_of v >>= λ max. Ok (record { max = max; causes = all_causes })) else (map_of v >>= retry_from)
