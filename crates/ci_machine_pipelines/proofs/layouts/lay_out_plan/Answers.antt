use Rattle.ci_machine_pipelines.specs.Creations.{layout_view}
use Rattle.ci_machine_pipelines.proofs.layouts.lay_out_plan.Goals as goal

pub returns : goal.returns
returns c = λ text laid. (layout_view c.args.config.now c.args.plan.now, laid, c.in_ok-made.ensures)
