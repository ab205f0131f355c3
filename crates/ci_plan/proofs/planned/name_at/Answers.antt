use Rattle.ci_plan.proofs.Layouts.{named_at}
use Rattle.ci_plan.proofs.planned.name_at.Goals as goal

pub returns-then-place-jobs : goal.returns-then-place-jobs
returns-then-place-jobs c = named_at c.args.jobs.now c.args.place c.index-jobs-place.result c.if-place-jobs.true
