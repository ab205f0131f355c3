use Rattle.std.proofs.Common.{ap, map, ◌∙◌}
use Rattle.ci_machine_pipelines.specs.Creations.{need_of_key}
use Rattle.ci_machine_pipelines.proofs.Merging.{need_put}
use Rattle.ci_machine_pipelines.proofs.creation.put_key.Goals as goal

pub returns : goal.returns
returns c = ap (map need_of_key) c.in_ok-insert.ensures.keys ∙ need_put c.args.keys.now.keys c.args.key c.len-count.ensures.ordered
