use Rattle.ci_machine_pipelines.specs.Creations.{origin_view}
use Rattle.ci_machine_pipelines.proofs.Laying.{lacks}
use Rattle.ci_machine_pipelines.proofs.layouts.lay_out_text.Goals as goal

pub returns-in-Ok : goal.returns-in-Ok
returns-in-Ok c = c.lay_out_tree.ensures c.args.text.now c.in-Ok.ensures.tree

pub returns-in-Err : goal.returns-in-Err
returns-in-Err c = lacks c.args.text.now (origin_view c.args.start.now) c.in-Err.fault c.yaml_fault.result c.yaml_fault.ensures c.in-Err.ensures.fault
