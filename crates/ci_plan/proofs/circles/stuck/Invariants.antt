use Rattle.ci_plan.specs.Circles.{KeepsCycles}
use Rattle.ci_plan.proofs.Rounds.{remaining}
use Rattle.ci_plan.proofs.circles.stuck.Given as goal

abbrev pub invariant-loop-place : goal.invariant-loop-place
invariant-loop-place l = KeepsCycles l.fn.pairs l.left.items

abbrev pub decreases-loop-place : goal.decreases-loop-place
decreases-loop-place l = remaining l.left.items
