use Rattle.std.proofs.Common.{◌≡◌, drop, map}
use Rattle.ci_expr.specs.Prelude.{value_of}
use Rattle.ci_expr.proofs.formula.value_of.Given as goal

abbrev pub invariant-loop-pair : goal.invariant-loop-pair
invariant-loop-pair l = value_of (map (λ p. (p.0.now, p.1.now)) (drop l.pair-index l.pairs)) l.fn.name ≡ value_of (map (λ p. (p.0.now, p.1.now)) l.pairs) l.fn.name
