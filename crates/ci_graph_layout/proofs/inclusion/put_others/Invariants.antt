use Rattle.std.proofs.Common.{◌≡◌, ◌++◌, drop, map, filter, not}
use Rattle.ci_graph_layout.specs.Prelude.{layer_view, variable_view, names}
use Rattle.ci_graph_layout.proofs.inclusion.put_others.Given as goal

abbrev pub invariant-loop-variable : goal.invariant-loop-variable
invariant-loop-variable l = layer_view l.pairs.items ++ filter (λ v. not (names (layer_view l.fn.given) v.0)) (map variable_view (drop l.variable-index l.own)) ≡ layer_view l.fn.pairs.items ++ filter (λ v. not (names (layer_view l.fn.given) v.0)) (map variable_view l.own)
