use Rattle.ci_memory.proofs.Rights.{put_known, put_job}
use Rattle.ci_memory.proofs.leases.changes.with_job.Goals as goal

pub returns-then-is_known : goal.returns-then-is_known
returns-then-is_known c = λ s right. put_known c.args.memory c.args.job.now s (c.is_known.ensures c.if-is_known.true) right

pub returns : goal.returns
returns c = λ s right. put_job c.args.memory _ c.args.job.now s c.quiet_without.ensures c.limit_with.ensures right
