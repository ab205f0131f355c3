use Rattle.std.proofs.Common.{ℕ, List, sym, subst}
use Rattle.std.specs.Str.{IsUtf8}
use Rattle.ci_plan.specs.Said.{Says}
use Rattle.ci_plan.proofs.Saying.{says_text}
use Rattle.ci_plan.proofs.verdict.outcome_of.Goals as goal

pub returns-clause-says : goal.returns-clause-says
returns-clause-says c =
    let same = c.in-Ok.ensures.cases.0 in
    let utf8 : IsUtf8 c.in-Ok.text.now = subst (λ (bs : List ℕ). IsUtf8 bs) (sym same) c.in-Ok.ensures.cases.1 in
    subst (λ (bs : List ℕ). Says bs c.args.asked.now c.judge_text.result) same (says_text c.in-Ok.text.now c.args.asked.now c.judge_text.result utf8 c.judge_text.ensures)
