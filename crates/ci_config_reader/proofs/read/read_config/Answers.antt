use Rattle.ci_config_reader.proofs.Budgets.{all-measured}
use Rattle.ci_config_reader.proofs.read.read_config.Goals as goal

pub returns-in-Ok-true-clause-measured : goal.returns-in-Ok-true-clause-measured
returns-in-Ok-true-clause-measured c = all-measured c.measures_each_pattern.ensures c.in-Ok.config
