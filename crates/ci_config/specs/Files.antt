-- The top level of a file.
use Rattle.std.specs.Prelude.{ℕ, Bool, false, List, [], ◌∷◌, ◌++◌, length, Option, Some, None, Result, Ok, nat_lt, ◌==◌, not, if◌then◌else◌}
use Rattle.std.specs.Str.{bytes_eq}
use Rattle.std.specs.List.{list_any}
use Rattle.ci_yaml_lines.specs.Prelude.{is_name, Variables, meaning_of, word_in, Value}
use Rattle.ci_config.specs.Fault.{K2, K7, K11, K16, Placed}
use Rattle.ci_config.specs.Reading.{◌>>=◌, fails, demand, each, entries}
use Rattle.ci_config.specs.Config.{Text, Job}
use Rattle.ci_config.specs.Expressions.{Patterns, below}
use Rattle.ci_config.specs.Jobs.{job_from}
use Rattle.ci_config.specs.Tables.{file_keywords, file_left_out}
use Rattle.ci_config.specs.Values.{text_of, list_of, map_of, variables_of}
use Rattle.ci_config.specs.declared.keyword.FileKeyword.{FileKeyword}
use Rattle.ci_config.specs.declared.limits.TheConstants.{MAX_STAGES, MAX_JOBS}

pub record FileSaid : Type 0 where
  pub stages : Option (List Text)
  pub variables : Variables
  pub jobs : List Job

abbrev pub is_among : List Text → Text → Bool
is_among names name = list_any (λ other. bytes_eq other name) names

abbrev pub stage_in : List Text → Value → Result Text Placed
stage_in before v = text_of v >>= λ bs. demand (not (is_among before bs)) K7 (demand (nat_lt (length before) MAX_STAGES) K11 (demand (is_name bs) K16 (Ok bs)))

abbrev pub stages_of : Value → Result (List Text) Placed
stages_of v = list_of v >>= λ vs. each stage_in [] vs

-- the name begins with `.`
abbrev pub is_hidden : Text → Bool
is_hidden [] = false
is_hidden (b ∷ bs) = b == 46

-- a job, behind so many
abbrev pub job_of : ℕ → Text → Value → Patterns → Result Job Placed
job_of before name v p = map_of v >>= λ ms. demand (nat_lt before MAX_JOBS) K11 (demand (is_name name) K16 (job_from p name ms))

abbrev pub with_job : FileSaid → Job → FileSaid
with_job f j = record f { jobs = f.jobs ++ j ∷ [] }

abbrev pub job_value : Text → Value → FileSaid → Patterns → Result FileSaid Placed
job_value name v f p = job_of (length f.jobs) name v p >>= λ j. Ok (with_job f j)

-- an entry that is no keyword: left out by its name, hidden, or a job
abbrev pub other_value : Option Text → Text → Value → FileSaid → Patterns → Result FileSaid Placed
other_value (Some name) key v f p = fails (K2 name)
other_value None key v f p = if is_hidden key then Ok f else job_value key v f p

abbrev pub keyword_value : FileKeyword → Value → FileSaid → Result FileSaid Placed
keyword_value FileKeyword.Stages v f = stages_of v >>= λ ts. Ok (record f { stages = Some ts })
keyword_value FileKeyword.Variables v f = variables_of v >>= λ vs. Ok (record f { variables = vs })

abbrev pub file_value : Option FileKeyword → Text → Value → FileSaid → Patterns → Result FileSaid Placed
file_value (Some k) key v f p = keyword_value k v f
file_value None key v f p = other_value (word_in file_left_out key) key v f p

abbrev pub file_entry : Patterns → Text × Value → FileSaid → Result FileSaid Placed
file_entry p m f = file_value (meaning_of file_keywords m.0) m.0 m.1 f p

abbrev pub blank_file : FileSaid
blank_file = record { stages = None; variables = []; jobs = [] }

abbrev pub file_from : List (Text × Value) → Patterns → Result FileSaid Placed
file_from ms p = entries (λ before. file_entry (below before p)) 0 blank_file ms
