use Rattle.ci_config.specs.Prelude.{patterns_view, same_pattern, rule_patterns}
use Rattle.ci_expr.proofs.Gathering.{Gathered}
use Rattle.ci_config_reader.proofs.budget.put_of_rules.Given as goal

abbrev pub invariant-loop-rule : goal.invariant-loop-rule
invariant-loop-rule l = Gathered same_pattern rule_patterns (patterns_view l.fn.patterns.items) l.rules l.rule-index (patterns_view l.patterns.items)
