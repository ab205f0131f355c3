use Rattle.std.proofs.Common.{arith, ◌∙◌, sym}
use Rattle.std.proofs.lemmas.Grind.{common_steps}
use Rattle.ci_expr.proofs.Answering.{same-written}
use Rattle.ci_expr.proofs.budget.PatternBudget.known.Goals as goal

pub returns-then-is_written-clause-same : goal.returns-then-is_written-clause-same
returns-then-is_written-clause-same c = same-written _ _ _ _ (sym (c.is_written.ensures 0) ∙ c.if-is_written.true)

pub returns-then-is_written-clause-known : goal.returns-then-is_written-clause-known
returns-then-is_written-clause-known c = λ bytes. grind (arith, common_steps, c.loop-pattern.invariant bytes, c.is_written.ensures bytes, c.pattern-item.is)

pub loop-pattern-preserved : goal.loop-pattern-preserved
loop-pattern-preserved c = λ bytes. grind (arith, common_steps, c.loop-pattern.invariant bytes, c.is_written.ensures bytes, c.pattern-item.is)
