use Rattle.std.proofs.Common.{length, drop}
use Rattle.ci_config.specs.Prelude.{rule_of, rules_from, values_view, rules_view}
use Rattle.ci_config_reader.proofs.Telling.{Leads, listed}
use Rattle.ci_config_reader.proofs.rule.rules_from.Given as goal

abbrev pub invariant-loop-value : goal.invariant-loop-value
invariant-loop-value l = Leads (length (rules_view l.rules)) (listed rule_of (rules_view l.rules) (values_view (drop l.value-index l.values))) (λ p. rules_from p (values_view l.values))
