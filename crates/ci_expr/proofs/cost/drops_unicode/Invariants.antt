use Rattle.std.proofs.Common.{◌≡◌, length}
use Rattle.ci_expr.specs.Prelude.{drops_unicode}
use Rattle.ci_expr.proofs.cost.drops_unicode.Given as goal

abbrev pub invariant-loop-rest : goal.invariant-loop-rest
invariant-loop-rest l = drops_unicode l.rest ≡ drops_unicode l.fn.bytes

abbrev pub decreases-loop-rest : goal.decreases-loop-rest
decreases-loop-rest l = length l.rest
