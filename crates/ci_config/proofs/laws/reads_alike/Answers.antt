use Rattle.ci_config.proofs.Alike.{alike}
use Rattle.ci_config.proofs.laws.reads_alike.Goals as goal

pub returns : goal.returns
returns c = alike
