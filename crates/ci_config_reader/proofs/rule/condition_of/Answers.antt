use Rattle.std.proofs.Common.{Err, subst}
use Rattle.ci_config.specs.Prelude.{formula_of, Allows, ExprFault, expression_of}
use Rattle.ci_config_reader.proofs.Conditions.{condition-found, condition-stops}
use Rattle.ci_config_reader.proofs.rule.condition_of.Goals as goal

pub returns-in-Ok : goal.returns-in-Ok
returns-in-Ok c =
    let text = c.args.text.now in
    condition-found c.computes_the_meaning.ensures text c.in-Ok.expr (c.in-Ok.ensures.only (expression_of text) (c.computes_the_meaning.ensures text).1)

pub returns-in-Err-Fault : goal.returns-in-Err-Fault
returns-in-Err-Fault c =
    let text = c.args.text.now in
    condition-stops text c.in-Err-Fault.code
    (subst (λ (e : ExprFault). Allows formula_of (Err e) (expression_of text)) c.in-Err-Fault.field-0-is (c.in-Err-Fault.ensures.only (expression_of text) (c.computes_the_meaning.ensures text).1))
