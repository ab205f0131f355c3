-- When a job runs.
use Rattle.std.specs.Prelude.{Result, Ok, codes}
use Rattle.ci_yaml_lines.specs.Prelude.{When, meaning_of, Value}
use Rattle.ci_config.specs.Fault.{K2, K8, K14, Placed}
use Rattle.ci_config.specs.Reading.{◌>>=◌, fails, or_fault}
use Rattle.ci_config.specs.Tables.{whens}
use Rattle.ci_config.specs.Values.{text_of}
use Rattle.ci_config.specs.declared.keyword.RuleWhen.{RuleWhen}
use Rattle.ci_config.specs.declared.keyword.WhenWord.{WhenWord}
use Rattle.ci_config.specs.declared.keyword.WhenWord.TheVariants.{Runs, Never, Delayed}

abbrev pub when_word : Value → Result WhenWord Placed
when_word v = text_of v >>= λ word. or_fault (meaning_of whens word) K8

-- in a job
abbrev pub in_job : WhenWord → Result When Placed
in_job (Runs w) = Ok w
in_job Never = fails K14
in_job Delayed = fails (K2 (codes "delayed"))

abbrev pub when_of : Value → Result When Placed
when_of v = when_word v >>= in_job

-- in a rule
abbrev pub in_rule : WhenWord → Result RuleWhen Placed
in_rule (Runs w) = Ok (RuleWhen.Runs w)
in_rule Never = Ok RuleWhen.Never
in_rule Delayed = fails (K2 (codes "delayed"))

abbrev pub rule_when_of : Value → Result RuleWhen Placed
rule_when_of v = when_word v >>= in_rule
