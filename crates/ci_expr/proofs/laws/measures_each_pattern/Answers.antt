use Rattle.ci_expr.proofs.Answering.{measured}
use Rattle.ci_expr.proofs.laws.measures_each_pattern.Goals as goal

pub returns : goal.returns
returns c = λ e. measured e.root
