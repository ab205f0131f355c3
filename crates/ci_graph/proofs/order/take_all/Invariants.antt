use Rattle.std.proofs.Common.{length}
use Rattle.ci_graph.proofs.Steps.{IsReady}
use Rattle.ci_graph.proofs.order.take_all.Given as goal

abbrev pub invariant-loop-k : goal.invariant-loop-k
invariant-loop-k l = IsReady (length l.predecessors) l.predecessors l.k (record { queue = l.queue.items; left = l.left })
