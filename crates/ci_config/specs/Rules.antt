-- The rules of a job.
use Rattle.std.specs.Prelude.{List, [], length, Some, None, Result, Ok, nat_lt}
use Rattle.ci_yaml_lines.specs.Prelude.{Value}
use Rattle.ci_config.specs.Fault.{K11, Placed}
use Rattle.ci_config.specs.Reading.{◌>>=◌, demand, each, entries, keyword_of}
use Rattle.ci_config.specs.Config.{Text, Rule}
use Rattle.ci_config.specs.Expressions.{Patterns, below, condition_of}
use Rattle.ci_config.specs.Tables.{rule_keywords, rule_left_out}
use Rattle.ci_config.specs.Values.{text_of, bool_of, list_of, map_of, variables_of}
use Rattle.ci_config.specs.Whens.{rule_when_of}
use Rattle.ci_config.specs.declared.keyword.RuleKeyword.{RuleKeyword}
use Rattle.ci_config.specs.declared.keyword.PlainRuleKeyword.{PlainRuleKeyword}
use Rattle.ci_config.specs.declared.limits.TheConstants.{MAX_RULES}

abbrev pub plain_rule_value : PlainRuleKeyword → Value → Rule → Result Rule Placed
plain_rule_value PlainRuleKeyword.When v r = rule_when_of v >>= λ w. Ok (record r { when = Some w })
plain_rule_value PlainRuleKeyword.AllowFailure v r = bool_of v >>= λ b. Ok (record r { allow_failure = Some b })
plain_rule_value PlainRuleKeyword.Variables v r = variables_of v >>= λ vs. Ok (record r { variables = vs })

abbrev pub condition_value : Value → Rule → Patterns → Result Rule Placed
condition_value v r p = text_of v >>= λ bs. condition_of bs p >>= λ f. Ok (record r { condition = Some f })

abbrev pub rule_value : RuleKeyword → Value → Rule → Patterns → Result Rule Placed
rule_value RuleKeyword.If v r p = condition_value v r p
rule_value (RuleKeyword.Plain k) v r p = plain_rule_value k v r

abbrev pub rule_entry : Patterns → Text × Value → Rule → Result Rule Placed
rule_entry p m r = keyword_of rule_keywords rule_left_out m.0 >>= λ k. rule_value k m.1 r p

abbrev pub blank_rule : Rule
blank_rule = record { condition = None; when = None; allow_failure = None; variables = [] }

abbrev pub rule_from : Patterns → List (Text × Value) → Result Rule Placed
rule_from p ms = entries (λ before. rule_entry (below before p)) 0 blank_rule ms

abbrev pub rule_of : Patterns → List Rule → Value → Result Rule Placed
rule_of p before v = map_of v >>= λ ms. demand (nat_lt (length before) MAX_RULES) K11 (rule_from p ms)

abbrev pub rules_from : Patterns → List Value → Result (List Rule) Placed
rules_from p vs = each (λ before. rule_of (below (length before) p) before) [] vs

abbrev pub rules_of : Value → Patterns → Result (List Rule) Placed
rules_of v p = list_of v >>= rules_from p
