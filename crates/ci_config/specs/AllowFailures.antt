-- Whether a pipeline goes on where a job failed.
use Rattle.std.specs.Prelude.{ℕ, Bool, true, false, List, [], ◌∷◌, length, Option, Some, None, Result, Ok, nat_lt, if◌then◌else◌}
use Rattle.ci_yaml_lines.specs.Prelude.{AllowFailure, No, Yes, ExitCodes, Value}
use Rattle.ci_config.specs.Fault.{K4, K11, Placed}
use Rattle.ci_config.specs.Reading.{◌>>=◌, demand, or_fault, each, entries, keyword_of}
use Rattle.ci_config.specs.Config.{Text}
use Rattle.ci_config.specs.Tables.{allow_failure_keywords, allow_failure_left_out}
use Rattle.ci_config.specs.Values.{is_bool, is_number, bool_of, list_of, map_of, number_up_to}
use Rattle.ci_config.specs.declared.keyword.AllowFailureKeyword.{AllowFailureKeyword}
use Rattle.ci_config.specs.declared.limits.TheConstants.{MAX_EXIT_CODE, MAX_EXIT_CODES}

abbrev pub exit_code_of : Value → Result ℕ Placed
exit_code_of v = number_up_to MAX_EXIT_CODE K4 v

abbrev pub exit_code_in : List ℕ → Value → Result ℕ Placed
exit_code_in before v = exit_code_of v >>= λ code. demand (nat_lt (length before) MAX_EXIT_CODES) K11 (Ok code)

-- one exit code, or a list of them
abbrev pub exit_codes_of : Value → Result (List ℕ) Placed
exit_codes_of v = if is_number v then (exit_code_of v >>= λ code. Ok (code ∷ [])) else (list_of v >>= λ vs. each exit_code_in [] vs)

abbrev pub allow_failure_value : AllowFailureKeyword → Value → Option (List ℕ) → Result (Option (List ℕ)) Placed
allow_failure_value AllowFailureKeyword.ExitCodes v said = exit_codes_of v >>= λ codes. Ok (Some codes)

abbrev pub allow_failure_entry : Text × Value → Option (List ℕ) → Result (Option (List ℕ)) Placed
allow_failure_entry m said = keyword_of allow_failure_keywords allow_failure_left_out m.0 >>= λ k. allow_failure_value k m.1 said

abbrev pub allow_failure_said : Option (List ℕ) → Result AllowFailure Placed
allow_failure_said said = or_fault said K4 >>= λ codes. Ok (ExitCodes codes)

abbrev pub allow_failure_from : List (Text × Value) → Result AllowFailure Placed
allow_failure_from ms = entries (λ before. allow_failure_entry) 0 None ms >>= allow_failure_said

abbrev pub yes_or_no : Bool → AllowFailure
yes_or_no true = Yes
yes_or_no false = No

-- a Bool, or a map
abbrev pub allow_failure_of : Value → Result AllowFailure Placed
allow_failure_of v = if is_bool v then (bool_of v >>= λ b. Ok (yes_or_no b)) else (map_of v >>= allow_failure_from)
