use Rattle.ci_yaml.proofs.Verdicts.{not_both}
use Rattle.ci_yaml.proofs.laws.has_not_both.Goals as goal

pub returns : goal.returns
returns c = λ bytes v i code h f. not_both bytes v i code h f
