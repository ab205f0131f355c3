use Rattle.std.proofs.Common.{sym, subst}
use Rattle.std.specs.Str.{IsUtf8}
use Rattle.ci_explain.proofs.Fitting.{text-fits}
use Rattle.ci_explain.specs.Verdicts.{Fits}
use Rattle.ci_explain.proofs.check.verdict.verdict_of.Goals as goal

pub returns-clause-fits : goal.returns-clause-fits
returns-clause-fits c =
    let text = c.in-Ok.text.now in
    let same = c.in-Ok.ensures.cases.0 in
    let utf8 : IsUtf8 text = subst (λ bs. IsUtf8 bs) (sym same) c.in-Ok.ensures.cases.1 in
    subst (λ bs. Fits bs c.judge_text.result) same (text-fits text c.judge_text.result utf8 c.judge_text.ensures)
