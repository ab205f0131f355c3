use Rattle.ci_yaml.proofs.Trees.{tree-is}
use Rattle.ci_yaml.proofs.laws.reads_trees.Goals as goal

pub returns : goal.returns
returns c = λ ls r v e f. tree-is ls r v e f
