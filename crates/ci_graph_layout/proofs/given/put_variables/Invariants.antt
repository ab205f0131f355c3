use Rattle.std.proofs.Common.{◌≡◌, ◌++◌, drop, map}
use Rattle.ci_graph_layout.specs.Prelude.{layer_view, variable_view}
use Rattle.ci_graph_layout.proofs.given.put_variables.Given as goal

abbrev pub invariant-loop-variable : goal.invariant-loop-variable
invariant-loop-variable l = layer_view l.pairs.items ++ map variable_view (drop l.variable-index l.more) ≡ layer_view l.fn.pairs.items ++ map variable_view l.more
