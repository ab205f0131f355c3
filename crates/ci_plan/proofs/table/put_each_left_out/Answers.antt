use Rattle.ci_plan.specs.TableText.{left_out_line}
use Rattle.ci_plan.proofs.Further.{lines_further}
use Rattle.ci_plan.proofs.table.put_each_left_out.Goals as goal

pub loop-job-preserved : goal.loop-job-preserved
loop-job-preserved c = lines_further left_out_line _ _ c.loop-job-test.true c.job-item.is c.in_ok-put_left_out.ensures c.loop-job.invariant
