use Rattle.ci_yaml.proofs.ReadSteps.{column-last}
use Rattle.ci_yaml.proofs.reader.last_column.Goals as goal

pub returns-in-len1-up : goal.returns-in-len1-up
returns-in-len1-up c = column-last c.args.entries.now c.entry-item.result c.in-len1-up.len_at_least c.entry-item.is
