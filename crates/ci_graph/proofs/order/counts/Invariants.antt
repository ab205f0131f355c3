use Rattle.std.proofs.Common.{◌≡◌, ◌++◌, drop, length, map}
use Rattle.ci_graph.proofs.order.counts.Given as goal

abbrev pub invariant-loop-j : goal.invariant-loop-j
invariant-loop-j l = l.left.items ++ map length (drop l.j l.predecessors) ≡ map length l.predecessors
