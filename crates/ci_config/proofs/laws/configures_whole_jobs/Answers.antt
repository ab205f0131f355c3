use Rattle.ci_config.proofs.Wholes.{wholes}
use Rattle.ci_config.specs.Prelude.{built}
use Rattle.ci_config.proofs.laws.configures_whole_jobs.Goals as goal

pub returns : goal.returns
returns c = wholes built
