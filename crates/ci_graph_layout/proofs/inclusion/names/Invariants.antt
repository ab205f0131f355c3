use Rattle.std.proofs.Common.{◌≡◌, drop}
use Rattle.ci_graph_layout.specs.Prelude.{layer_view, names}
use Rattle.ci_graph_layout.proofs.inclusion.names.Given as goal

abbrev pub invariant-loop-pair : goal.invariant-loop-pair
invariant-loop-pair l = names (layer_view (drop l.pair-index l.pairs)) l.fn.name ≡ names (layer_view l.pairs) l.fn.name
