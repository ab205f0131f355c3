use Rattle.ci_plan.specs.TableText.{many_line}
use Rattle.ci_plan.proofs.Further.{lines_further}
use Rattle.ci_plan.proofs.table.put_many.Goals as goal

pub loop-job-preserved : goal.loop-job-preserved
loop-job-preserved c = lines_further many_line _ _ c.loop-job-test.true c.job-item.is c.in_ok-put_many_line.ensures c.loop-job.invariant
