use Rattle.ci_graph.proofs.Cycles.{acyclic_both}
use Rattle.ci_graph.proofs.laws.acyclic.Goals as goal

pub returns : goal.returns
returns c = acyclic_both
