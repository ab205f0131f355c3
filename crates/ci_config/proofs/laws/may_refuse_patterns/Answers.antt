use Rattle.ci_config.proofs.Lacks.{none-or-refused}
use Rattle.ci_config.proofs.laws.may_refuse_patterns.Goals as goal

pub returns : goal.returns
returns c = none-or-refused
