use Rattle.ci_plan.specs.TableText.{later_line}
use Rattle.ci_plan.proofs.Further.{lines_further}
use Rattle.ci_plan.proofs.table.put_later.Goals as goal

pub loop-one-preserved : goal.loop-one-preserved
loop-one-preserved c = lines_further later_line _ _ c.loop-one-test.true c.one-item.is c.in_ok-put_later_line.ensures c.loop-one.invariant
