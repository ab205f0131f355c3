use Rattle.std.proofs.Common.{◌≡◌, ◌∙◌, length, sym, arith}
use Rattle.std.proofs.lemmas.List.{length-map}
use Rattle.ci_config.specs.Prelude.{value_view}
use Rattle.ci_graph_layout.specs.Prelude.{config_view, job_view}
use Rattle.ci_machine_pipelines.proofs.Readings.{of_keywords}
use Rattle.ci_machine_pipelines.proofs.files.jobs_of_tree.Goals as goal

pub returns-in-Ok : goal.returns-in-Ok
returns-in-Ok c =
    let count : c.len.result ≡ length c.in-Ok.config.jobs.items = omega arith in
    (config_view c.in-Ok.config, c.in-Ok.ensures.answer, count ∙ sym (length-map c.in-Ok.config.jobs.items job_view))

pub returns-in-Err : goal.returns-in-Err
returns-in-Err c = of_keywords (value_view c.args.tree.now) c.in-Err.fault c.config_fault.result c.in-Err.ensures.answer c.config_fault.ensures
