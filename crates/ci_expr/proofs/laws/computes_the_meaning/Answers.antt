use Rattle.ci_expr.proofs.ParseLemmas.{computed}
use Rattle.ci_expr.proofs.laws.computes_the_meaning.Goals as goal

pub returns : goal.returns
returns c = computed
