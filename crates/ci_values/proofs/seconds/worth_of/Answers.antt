use Rattle.ci_values.proofs.Units.{worth-small}
use Rattle.ci_values.proofs.seconds.worth_of.Goals as goal

pub returns-clause-small : goal.returns-clause-small
returns-clause-small c = worth-small c.args.unit.now c.meaning_of_bytes.result c.meaning_of_bytes.ensures
