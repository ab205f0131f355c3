use Rattle.ci_plan.proofs.Saying.{first_says}
use Rattle.ci_plan.proofs.file.outcome_from.Goals as goal

pub returns-in-Ok : goal.returns-in-Ok
returns-in-Ok g c =
    first_says (g.R.Read.remaining c.args.reader) c.in-Ok.bytes.items c.deref.result.now c.args.asked.now c.outcome_of.result c.in-Ok.ensures.bytes c.deref.ensures.value
    c.outcome_of.ensures.says c.outcome_of.ensures.too_long
