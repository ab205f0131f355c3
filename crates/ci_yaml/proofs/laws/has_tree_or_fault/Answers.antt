use Rattle.ci_yaml.proofs.Verdicts.{tree-or-fault}
use Rattle.ci_yaml.proofs.laws.has_tree_or_fault.Goals as goal

pub returns : goal.returns
returns c = λ bytes. tree-or-fault bytes
