use Rattle.ci_expr.specs.Prelude.{look_view, look_cost}
use Rattle.ci_expr.proofs.Gathering.{Paid}
use Rattle.ci_expr.proofs.cost.left_by_looks.Given as goal

abbrev pub invariant-loop-look : goal.invariant-loop-look
invariant-loop-look l = Paid (λ k. look_cost (look_view k)) l.fn.budget l.looks l.look-index l.left
