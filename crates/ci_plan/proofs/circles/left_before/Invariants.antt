use Rattle.std.proofs.Common.{◌≡◌, ℕ, false, take, Contains}
use Rattle.ci_plan.specs.Circles.{is_left}
use Rattle.ci_plan.proofs.circles.left_before.Given as goal

abbrev pub invariant-loop-pair : goal.invariant-loop-pair
invariant-loop-pair l = (p : ℕ) → Contains (take l.pair-index l.pairs) (p, l.fn.place) → is_left l.fn.left p ≡ false
