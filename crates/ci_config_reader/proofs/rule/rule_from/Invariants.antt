use Rattle.std.proofs.Common.{drop}
use Rattle.ci_config.specs.Prelude.{rule_entry, rule_from, pairs_view, rule_view}
use Rattle.ci_config_reader.proofs.Telling.{Leads, entries_by}
use Rattle.ci_config_reader.proofs.rule.rule_from.Given as goal

abbrev pub invariant-loop-before : goal.invariant-loop-before
invariant-loop-before l = Leads l.before (entries_by rule_entry l.before (rule_view l.rule) (pairs_view (drop l.before l.pairs))) (λ p. rule_from p (pairs_view l.pairs))
