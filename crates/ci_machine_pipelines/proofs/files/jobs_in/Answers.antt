use Rattle.ci_config.specs.Prelude.{value_view}
use Rattle.ci_machine_pipelines.proofs.Readings.{of_tree, of_fault}
use Rattle.ci_machine_pipelines.proofs.files.jobs_in.Goals as goal

pub returns-in-Ok : goal.returns-in-Ok
returns-in-Ok c = of_tree c.args.text.now (value_view c.in-Ok.tree) c.jobs_of_tree.result c.in-Ok.ensures.tree c.jobs_of_tree.ensures

pub returns-in-Err : goal.returns-in-Err
returns-in-Err c = of_fault c.args.text.now c.in-Err.fault c.yaml_fault.result c.yaml_fault.ensures c.in-Err.ensures.fault
