use Rattle.ci_yaml.proofs.Trees.{tree-read}
use Rattle.ci_yaml.proofs.laws.reads_all_trees.Goals as goal

pub returns : goal.returns
returns c = λ ls es end v parses doc. let t = tree-read ls es end v parses doc in (t.reader, t.read, t.tree)
