use Rattle.std.proofs.Common.{subst}
use Rattle.ci_expr.specs.Prelude.{IsAutomatonOf}
use Rattle.ci_expr.proofs.pattern.checked.Goals as goal

pub invariant_of-result : goal.invariant_of-result
invariant_of-result c = record {
  measured = ∣ (c.in-Ok.nfa, subst (λ bs. IsAutomatonOf c.args.insensitive bs c.in-Ok.nfa) c.as_str.ensures.value c.in-Ok.ensures.automaton, c.bytes_of.ensures) ∣₁;
}
