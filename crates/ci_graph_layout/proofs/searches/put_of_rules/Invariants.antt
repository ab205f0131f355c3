use Rattle.ci_graph_layout.specs.Prelude.{values_of, looks_view, same_look, rule_looks}
use Rattle.ci_expr.proofs.Gathering.{Gathered}
use Rattle.ci_graph_layout.proofs.searches.put_of_rules.Given as goal

abbrev pub invariant-loop-rule : goal.invariant-loop-rule
invariant-loop-rule l = Gathered same_look (rule_looks (values_of l.fn.env)) (looks_view l.fn.looks.items) l.rules l.rule-index (looks_view l.looks.items)
