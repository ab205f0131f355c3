use Rattle.std.proofs.Common.{◌≡◌, ◌++◌, drop}
use Rattle.ci_graph_layout.specs.Prelude.{layer_view}
use Rattle.ci_graph_layout.proofs.given.put_pairs.Given as goal

abbrev pub invariant-loop-pair : goal.invariant-loop-pair
invariant-loop-pair l = layer_view l.pairs.items ++ layer_view (drop l.pair-index l.more) ≡ layer_view l.fn.pairs.items ++ layer_view l.more
