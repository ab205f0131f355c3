use Rattle.std.proofs.Common.{◌≡◌, ◌++◌, drop}
use Rattle.ci_graph_layout.specs.Prelude.{below}
use Rattle.ci_graph_layout.proofs.pairs.below.Given as goal

abbrev pub invariant-loop-i : goal.invariant-loop-i
invariant-loop-i l = l.places.items ++ below l.fn.own l.i (drop l.i l.ranks) ≡ below l.fn.own 0 l.ranks
