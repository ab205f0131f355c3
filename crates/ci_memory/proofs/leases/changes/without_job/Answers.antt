use Rattle.ci_memory.proofs.Rights.{without_job}
use Rattle.ci_memory.proofs.leases.changes.without_job.Goals as goal

pub returns : goal.returns
returns c = λ s right. without_job c.args.memory _ c.args.id s c.quiet_without.ensures c.limit_without.ensures right
