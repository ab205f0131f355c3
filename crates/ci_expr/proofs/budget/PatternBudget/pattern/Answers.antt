use Rattle.std.proofs.Common.{◌∙◌, subst, chars, string_bytes}
use Rattle.ci_expr.specs.Prelude.{IsPattern}
use Rattle.ci_expr.proofs.FoundLemmas.{measured-pattern}
use Rattle.ci_expr.proofs.budget.PatternBudget.pattern.Goals as goal

pub returns-in-Some-clause-pattern : goal.returns-in-Some-clause-pattern
returns-in-Some-clause-pattern c =
    let known = c.in-Some.known.now in
    let same = c.in-Some.ensures.same in
    subst (λ s. IsPattern c.args.insensitive (chars s)) (same.1 ∙ c.as_str.ensures.value)
    (subst (λ i. IsPattern i (chars (string_bytes known.source))) same.0 (measured-pattern known.insensitive (string_bytes known.source) known.bytes known.measured))
