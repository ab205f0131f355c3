use Rattle.ci_expr.proofs.Answering.{no-patterns}
use Rattle.ci_expr.proofs.laws.costs_nothing_without_patterns.Goals as goal

pub returns-clause-building : goal.returns-clause-building
returns-clause-building c = λ e h. (no-patterns e.root h).0

pub returns-clause-search : goal.returns-clause-search
returns-clause-search c = λ vs e h. (no-patterns e.root h).1 vs
