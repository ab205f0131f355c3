use Rattle.ci_cli_words.proofs.VariableTexts.{one_refused, one_taken}
use Rattle.ci_cli_words.proofs.variables.variables_of.Goals as goal

pub returns-in_default : goal.returns-in_default
returns-in_default c =
    let is = rw c.deref.ensures.value at c.in_default.ensures in
    one_refused c.loop-text.variables.items c.args.texts.now c.loop-text.text-index _ _ c.loop-text-test.true is c.loop-text.invariant

pub loop-text-preserved : goal.loop-text-preserved
loop-text-preserved c =
    let is = rw c.deref.ensures.value at c.in-Some.ensures in
    rw c.in_ok-push.ensures.items (one_taken c.loop-text.variables.items c.args.texts.now c.loop-text.text-index _ _ c.in-Some.pair c.loop-text-test.true is.0 is.1 c.loop-text.invariant)
