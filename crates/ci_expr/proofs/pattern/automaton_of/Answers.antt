use Rattle.std.proofs.Common.{subst}
use Rattle.ci_expr.specs.Prelude.{IsAutomatonOf}
use Rattle.ci_expr.proofs.pattern.automaton_of.Goals as goal

pub returns-in-Ok-clause-automaton : goal.returns-in-Ok-clause-automaton
returns-in-Ok-clause-automaton c = subst (λ bs. IsAutomatonOf c.args.pattern.now.insensitive bs c.in-Ok.nfa) c.as_str.ensures.value c.in-Ok.ensures.automaton
