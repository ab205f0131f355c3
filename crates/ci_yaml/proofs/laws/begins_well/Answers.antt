use Rattle.ci_yaml.proofs.Trees.{good-front}
use Rattle.ci_yaml.proofs.laws.begins_well.Goals as goal

pub returns : goal.returns
returns c = λ a b good. good-front a b good
