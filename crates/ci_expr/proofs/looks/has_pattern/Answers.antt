use Rattle.std.proofs.Common.{sym, refl, ◌∙◌}
use Rattle.ci_expr.specs.Prelude.{pattern_view, patterns_view, same_pattern, is_among}
use Rattle.ci_expr.proofs.Further.{goes_on, finds_here}
use Rattle.ci_expr.proofs.looks.has_pattern.Goals as goal

pub loop-other-preserved : goal.loop-other-preserved
loop-other-preserved c =
    goes_on (λ ps. is_among same_pattern (pattern_view c.args.pattern.now) (patterns_view ps)) (λ p. same_pattern (pattern_view c.args.pattern.now) (pattern_view p.now)) (λ _ _. refl)
    c.args.patterns.now c.loop-other-test.true c.other-item.is c.loop-other.invariant (sym c.same_pattern.ensures ∙ c.if-same_pattern.false)

pub returns-then-same_pattern : goal.returns-then-same_pattern
returns-then-same_pattern c =
    finds_here (λ ps. is_among same_pattern (pattern_view c.args.pattern.now) (patterns_view ps)) (λ p. same_pattern (pattern_view c.args.pattern.now) (pattern_view p.now)) (λ _ _. refl)
    c.args.patterns.now c.loop-other-test.true c.other-item.is c.loop-other.invariant (sym c.same_pattern.ensures ∙ c.if-same_pattern.true)
