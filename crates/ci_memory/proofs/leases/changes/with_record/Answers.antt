use Rattle.ci_memory.proofs.Rights.{record_stays}
use Rattle.ci_memory.proofs.leases.changes.with_record.Goals as goal

pub returns-in_default : goal.returns-in_default
returns-in_default c = λ s right. record_stays c.args.new.now c.args.memory s c.in_default.not-Attempt c.in_default.not-Job right
