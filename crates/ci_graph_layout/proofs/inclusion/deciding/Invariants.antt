use Rattle.std.proofs.Common.{◌≡◌, ◌+◌, drop, map}
use Rattle.ci_graph_layout.specs.Prelude.{values_of, rule_view, deciding}
use Rattle.ci_graph_layout.proofs.inclusion.deciding.Given as goal

abbrev pub invariant-loop-i : goal.invariant-loop-i
invariant-loop-i l = deciding (l.i + 1) (values_of l.fn.env) (map rule_view (drop l.i l.rules)) ≡ deciding 1 (values_of l.fn.env) (map rule_view l.rules)
