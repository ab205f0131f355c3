use Rattle.std.proofs.Common.{take, Contains}
use Rattle.ci_plan.proofs.circles.index_of.Given as goal

abbrev pub invariant-loop-i : goal.invariant-loop-i
invariant-loop-i l = Contains (take l.i l.places) l.fn.place → ⊥
