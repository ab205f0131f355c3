use Rattle.std.proofs.Common.{◌≡◌, drop}
use Rattle.ci_expr.specs.Prelude.{pattern_view, patterns_view, same_pattern, is_among}
use Rattle.ci_expr.proofs.looks.has_pattern.Given as goal

abbrev pub invariant-loop-other : goal.invariant-loop-other
invariant-loop-other l =
    is_among same_pattern (pattern_view l.pattern) (patterns_view (drop l.other-index l.patterns))
    ≡ is_among same_pattern (pattern_view l.pattern) (patterns_view l.patterns)
