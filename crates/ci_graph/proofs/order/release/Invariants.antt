use Rattle.std.proofs.Common.{◌≡◌, drop}
use Rattle.ci_graph.proofs.Steps.{released}
use Rattle.ci_graph.proofs.order.release.Given as goal

abbrev pub invariant-loop-k : goal.invariant-loop-k
invariant-loop-k l =
    released (drop l.k l.successors) (record { queue = l.queue.items; left = l.left }) ≡ released l.successors (record { queue = l.fn.queue.items; left = l.fn.left })
