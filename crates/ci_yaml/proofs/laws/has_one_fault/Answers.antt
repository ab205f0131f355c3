use Rattle.ci_yaml.proofs.Verdicts.{one_fault}
use Rattle.ci_yaml.proofs.laws.has_one_fault.Goals as goal

pub returns : goal.returns
returns c = λ bytes i j a b f g. one_fault bytes i j a b f g
