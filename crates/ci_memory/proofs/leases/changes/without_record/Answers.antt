use Rattle.ci_memory.proofs.Rights.{key_stays}
use Rattle.ci_memory.proofs.leases.changes.without_record.Goals as goal

pub returns-in_default : goal.returns-in_default
returns-in_default c = λ s right. key_stays c.args.key.now c.args.memory s c.in_default.not-Job right
