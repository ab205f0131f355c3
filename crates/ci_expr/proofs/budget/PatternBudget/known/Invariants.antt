use Rattle.std.proofs.Common.{◌≡◌, ℕ, drop, map}
use Rattle.ci_expr.specs.Built.{Pattern}
use Rattle.ci_expr.specs.Prelude.{pattern_view, same_pattern, is_among}
use Rattle.ci_expr.proofs.budget.PatternBudget.known.Given as goal

abbrev pub invariant-loop-pattern : goal.invariant-loop-pattern
invariant-loop-pattern l = (bytes : ℕ) →
    let pattern : Pattern = record { insensitive = l.insensitive; source = l.source; bytes = bytes } in
    is_among same_pattern pattern (map pattern_view (drop l.pattern-index l.self.built.items)) ≡ is_among same_pattern pattern (map pattern_view l.self.built.items)
