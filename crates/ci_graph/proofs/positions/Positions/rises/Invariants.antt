use Rattle.ci_graph.proofs.Steps.{Rises}
use Rattle.ci_graph.proofs.positions.Positions.rises.Given as goal

abbrev pub invariant-loop-k : goal.invariant-loop-k
invariant-loop-k l = Rises l.k l.fn.self
