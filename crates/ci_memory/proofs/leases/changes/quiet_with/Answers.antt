use Rattle.ci_memory.proofs.Rights.{put_live}
use Rattle.ci_memory.proofs.leases.changes.quiet_with.Goals as goal

pub returns : goal.returns
returns c = λ s right. put_live c.args.memory c.in_ok-quiet.quiet c.in_ok-limit.limit c.args.attempt.now s c.taking_in.result c.in_ok-quiet.was c.in_ok-limit.was c.if-limit-attempt.false c.taking_in.ensures.it c.taking_in.ensures.others right
