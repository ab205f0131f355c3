use Rattle.std.proofs.Common.{subst, ◌∙◌}
use Rattle.ci_graph_layout.specs.Prelude.{Given}
use Rattle.ci_machine_pipelines.specs.Creations.{origin, LaysOut}
use Rattle.ci_machine_pipelines.proofs.Laying.{pipeline_within, jobs_within, jobs_ascend}
use Rattle.ci_machine_pipelines.proofs.layouts.lay_out.Goals as goal

pub returns-clause-records : goal.returns-clause-records
returns-clause-records c =
    subst (λ (g : Given). LaysOut c.args.text.now (record { id = c.args.id; first_job = c.args.first_job; asked = c.args.asked.now; given = g; moment = c.args.moment }) c.lay_out_text.result) (c.given.ensures ∙ c.in_ok-brought.ensures) c.lay_out_text.ensures

pub returns-clause-pipeline : goal.returns-clause-pipeline
returns-clause-pipeline c =
    pipeline_within c.args.text.now (origin c.args.id c.args.first_job c.args.asked.now c.args.variables.now c.args.moment) c.lay_out_text.result (returns-clause-records c)

pub returns-clause-jobs : goal.returns-clause-jobs
returns-clause-jobs c =
    jobs_within c.args.text.now (origin c.args.id c.args.first_job c.args.asked.now c.args.variables.now c.args.moment) c.lay_out_text.result (returns-clause-records c)

pub returns-clause-ascend : goal.returns-clause-ascend
returns-clause-ascend c =
    jobs_ascend c.args.text.now (origin c.args.id c.args.first_job c.args.asked.now c.args.variables.now c.args.moment) c.lay_out_text.result (returns-clause-records c)
