-- A job.
use Rattle.std.specs.Prelude.{false, List, [], ◌∷◌, Some, None, Result, Ok, codes, if◌then◌else◌}
use Rattle.ci_yaml_lines.specs.Prelude.{Value}
use Rattle.ci_config.specs.Fault.{Placed}
use Rattle.ci_config.specs.Reading.{◌>>=◌, entries, keyword_of}
use Rattle.ci_config.specs.AllowFailures.{allow_failure_of}
use Rattle.ci_config.specs.Config.{Text, Job}
use Rattle.ci_config.specs.Expressions.{Patterns, below}
use Rattle.ci_config.specs.Needs.{needs_of}
use Rattle.ci_config.specs.Retries.{retry_of}
use Rattle.ci_config.specs.Rules.{rules_of}
use Rattle.ci_config.specs.Tables.{job_keywords, job_left_out}
use Rattle.ci_config.specs.Values.{is_text, text_of, bool_of, name_of, timeout_of, texts_of, names_of, variables_of}
use Rattle.ci_config.specs.Whens.{when_of}
use Rattle.ci_config.specs.declared.keyword.JobKeyword.{JobKeyword}
use Rattle.ci_config.specs.declared.keyword.PlainJobKeyword.{PlainJobKeyword}
use Rattle.ci_config.specs.declared.limits.TheConstants.{MAX_SCRIPT_ITEMS, MAX_TAGS}

-- an empty text is no line
abbrev pub lines_of : Text → List Text
lines_of [] = []
lines_of (b ∷ bs) = (b ∷ bs) ∷ []

-- a text, or a list of texts
abbrev pub script_of : Value → Result (List Text) Placed
script_of v = if is_text v then (text_of v >>= λ bs. Ok (lines_of bs)) else texts_of MAX_SCRIPT_ITEMS v

abbrev pub plain_job_value : PlainJobKeyword → Value → Job → Result Job Placed
plain_job_value PlainJobKeyword.Script v j = script_of v >>= λ lines. Ok (record j { script = lines })
plain_job_value PlainJobKeyword.Stage v j = name_of v >>= λ name. Ok (record j { stage = name })
plain_job_value PlainJobKeyword.Needs v j = needs_of v >>= λ ns. Ok (record j { needs = Some ns })
plain_job_value PlainJobKeyword.When v j = when_of v >>= λ w. Ok (record j { when = Some w })
plain_job_value PlainJobKeyword.AllowFailure v j = allow_failure_of v >>= λ a. Ok (record j { allow_failure = Some a })
plain_job_value PlainJobKeyword.Retry v j = retry_of v >>= λ r. Ok (record j { retry = Some r })
plain_job_value PlainJobKeyword.Tags v j = names_of MAX_TAGS v >>= λ ts. Ok (record j { tags = ts })
plain_job_value PlainJobKeyword.Timeout v j = timeout_of v >>= λ n. Ok (record j { timeout = Some n })
plain_job_value PlainJobKeyword.ResourceGroup v j = name_of v >>= λ name. Ok (record j { resource_group = Some name })
plain_job_value PlainJobKeyword.Interruptible v j = bool_of v >>= λ b. Ok (record j { interruptible = b })
plain_job_value PlainJobKeyword.Variables v j = variables_of v >>= λ vs. Ok (record j { variables = vs })

abbrev pub rules_value : Value → Job → Patterns → Result Job Placed
rules_value v j p = rules_of v p >>= λ rs. Ok (record j { rules = Some rs })

abbrev pub job_value : JobKeyword → Value → Job → Patterns → Result Job Placed
job_value JobKeyword.Rules v j p = rules_value v j p
job_value (JobKeyword.Plain k) v j p = plain_job_value k v j

abbrev pub job_entry : Patterns → Text × Value → Job → Result Job Placed
job_entry p m j = keyword_of job_keywords job_left_out m.0 >>= λ k. job_value k m.1 j p

-- what holds where nothing is written
abbrev pub blank_job : Text → Job
blank_job name = record {
  name = name;
  stage = codes "test";
  script = [];
  needs = None;
  rules = None;
  when = None;
  allow_failure = None;
  retry = None;
  tags = [];
  timeout = None;
  resource_group = None;
  interruptible = false;
  variables = [];
}

abbrev pub job_from : Patterns → Text → List (Text × Value) → Result Job Placed
job_from p name ms = entries (λ before. job_entry (below before p)) 0 (blank_job name) ms
