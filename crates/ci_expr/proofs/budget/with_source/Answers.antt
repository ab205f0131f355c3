use Rattle.std.proofs.Common.{sym, subst}
use Rattle.ci_expr.specs.Prelude.{HasTables}
use Rattle.ci_expr.proofs.budget.with_source.Goals as goal

pub invariant_of-result : goal.invariant_of-result
invariant_of-result c = record {
  measured = subst (λ s. HasTables c.args.pattern.now.insensitive s c.args.pattern.now.bytes) (sym c.requires) c.args.pattern.now.measured;
}
