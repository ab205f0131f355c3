use Rattle.std.proofs.Common.{arith}
use Rattle.ci_machine_steps.proofs.Parts.{part_pushed}
use Rattle.ci_machine_statuses.proofs.load.parts_of.Goals as goal

pub loop-job-preserved : goal.loop-job-preserved
loop-job-preserved c =
    part_pushed c.args.jobs.now c.loop-job.job-index c.job-item.result c.loop-job.parts.items c.push.new.self.items c.in_ok-clone.field-0 (omega arith) c.job-item.is c.in_ok-clone.ensures.cases
    c.loop-job.invariant c.in_ok-push.ensures.items
