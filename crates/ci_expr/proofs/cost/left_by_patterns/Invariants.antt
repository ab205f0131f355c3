use Rattle.ci_expr.specs.Prelude.{pattern_view, cost_of}
use Rattle.ci_expr.proofs.Gathering.{Paid}
use Rattle.ci_expr.proofs.cost.left_by_patterns.Given as goal

abbrev pub invariant-loop-pattern : goal.invariant-loop-pattern
invariant-loop-pattern l = Paid (λ p. cost_of (pattern_view p.now)) l.fn.budget l.patterns l.pattern-index l.left
