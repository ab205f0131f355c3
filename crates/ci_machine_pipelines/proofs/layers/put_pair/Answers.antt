use Rattle.std.proofs.Common.{ap, ◌∙◌}
use Rattle.ci_machine_steps.specs.Prelude.{layer_view}
use Rattle.ci_machine_pipelines.proofs.Merging.{name_put}
use Rattle.ci_machine_pipelines.proofs.layers.put_pair.Goals as goal

pub returns : goal.returns
returns c = ap layer_view c.in_ok-insert.ensures.entries ∙ name_put c.args.all.now.entries c.args.pair.0 c.args.pair.1 c.insert.ensures.was_ordered
