use Rattle.ci_plan.specs.TableText.{idle_line}
use Rattle.ci_plan.proofs.Further.{lines_further}
use Rattle.ci_plan.proofs.table.put_idle.Goals as goal

pub loop-job-preserved : goal.loop-job-preserved
loop-job-preserved c = lines_further idle_line _ _ c.loop-job-test.true c.job-item.is c.in_ok-put_idle_line.ensures c.loop-job.invariant
