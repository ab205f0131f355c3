use Rattle.std.proofs.Common.{◌≡◌, ◌<◌, ℕ, false}
use Rattle.ci_plan.specs.Circles.{is_left}
use Rattle.ci_plan.proofs.circles.first_left.Given as goal

abbrev pub invariant-loop-place : goal.invariant-loop-place
invariant-loop-place l = (j : ℕ) → j < l.place → is_left l.fn.left j ≡ false
