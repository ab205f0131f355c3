-- What a job needs.
use Rattle.std.specs.Prelude.{Bool, false, List, [], Option, Some, None, Result, Ok, if◌then◌else◌}
use Rattle.ci_yaml_lines.specs.Prelude.{Value}
use Rattle.ci_config.specs.Fault.{K4, Placed}
use Rattle.ci_config.specs.Reading.{◌>>=◌, or_fault, each, entries, keyword_of}
use Rattle.ci_config.specs.Config.{Text, Need}
use Rattle.ci_config.specs.Tables.{need_keywords, need_left_out}
use Rattle.ci_config.specs.Values.{is_text, bool_of, list_of, map_of, name_of}
use Rattle.ci_config.specs.declared.keyword.NeedKeyword.{NeedKeyword}

pub record NeedSaid : Type 0 where
  pub job : Option Text
  pub optional : Bool

abbrev pub need_value : NeedKeyword → Value → NeedSaid → Result NeedSaid Placed
need_value NeedKeyword.Job v n = name_of v >>= λ name. Ok (record n { job = Some name })
need_value NeedKeyword.Optional v n = bool_of v >>= λ b. Ok (record n { optional = b })

abbrev pub need_entry : Text × Value → NeedSaid → Result NeedSaid Placed
need_entry m n = keyword_of need_keywords need_left_out m.0 >>= λ k. need_value k m.1 n

abbrev pub need_said : NeedSaid → Result Need Placed
need_said n = or_fault n.job K4 >>= λ job. Ok (record { job = job; optional = n.optional })

abbrev pub blank_need : NeedSaid
blank_need = record { job = None; optional = false }

abbrev pub need_from : List (Text × Value) → Result Need Placed
need_from ms = entries (λ before. need_entry) 0 blank_need ms >>= need_said

-- a text, or a map
abbrev pub need_of : List Need → Value → Result Need Placed
need_of before v = if is_text v then (name_of v >>= λ name. Ok (record { job = name; optional = false })) else (map_of v >>= need_from)

abbrev pub needs_of : Value → Result (List Need) Placed
needs_of v = list_of v >>= λ vs. each need_of [] vs
