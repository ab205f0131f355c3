use Rattle.std.proofs.Common.{◌≡◌, length}
use Rattle.ci_expr.specs.Prelude.{may_drop_unicode}
use Rattle.ci_expr.proofs.cost.may_drop_unicode.Given as goal

abbrev pub invariant-loop-rest : goal.invariant-loop-rest
invariant-loop-rest l = may_drop_unicode l.rest ≡ may_drop_unicode l.fn.bytes

abbrev pub decreases-loop-rest : goal.decreases-loop-rest
decreases-loop-rest l = length l.rest
