use Rattle.std.proofs.Common.{◌≡◌, ◌<◌, ℕ, true, Contains}
use Rattle.ci_plan.specs.Circles.{is_left}
use Rattle.ci_plan.proofs.circles.open_place.Given as goal

abbrev pub invariant-loop-place : goal.invariant-loop-place
invariant-loop-place l = (j : ℕ) → j < l.place → is_left l.fn.left j ≡ true → (p : ℕ) × Contains l.fn.pairs (p, j) × (is_left l.fn.left p ≡ true)
