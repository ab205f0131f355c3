use Rattle.ci_config.proofs.Alike.{once}
use Rattle.ci_config.proofs.laws.answers_once_without_patterns.Goals as goal

pub returns : goal.returns
returns c = once
