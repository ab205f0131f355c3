use Rattle.std.proofs.Common.{◌≡◌, ◌++◌, drop}
use Rattle.ci_graph.proofs.Steps.{sources}
use Rattle.ci_graph.proofs.order.starts.Given as goal

abbrev pub invariant-loop-j : goal.invariant-loop-j
invariant-loop-j l = l.queue.items ++ sources l.j (drop l.j l.left) ≡ sources 0 l.left
