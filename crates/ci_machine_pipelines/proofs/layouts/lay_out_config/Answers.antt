use Rattle.std.proofs.Common.{Ok, Err, subst}
use Rattle.ci_graph_layout.specs.Prelude.{config_view, Given, plan_view}
use Rattle.ci_graph_layout.specs.Plans.{Gives}
use Rattle.ci_machine_steps.specs.Prelude.{planned}
use Rattle.ci_machine_pipelines.specs.Creations.{origin_view}
use Rattle.ci_machine_pipelines.proofs.Laying.{not_planned}
use Rattle.ci_machine_pipelines.proofs.layouts.lay_out_config.Goals as goal

pub lay_out_plan-requires-clause-within : goal.lay_out_plan-requires-clause-within
lay_out_plan-requires-clause-within c = c.in-Ok.ensures.graph.within

pub returns-in-Ok : goal.returns-in-Ok
returns-in-Ok c = λ text read. c.lay_out_plan.ensures text (planned (config_view c.args.config.now) (plan_view c.in-Ok.plan) read (subst (λ (g : Given). Gives g (config_view c.args.config.now) (Ok c.in-Ok.plan)) c.requires.given c.in-Ok.ensures.plan))

pub returns-in-Err : goal.returns-in-Err
returns-in-Err c = λ text read.
    not_planned text (origin_view c.args.start.now) (config_view c.args.config.now) c.in-Err.fault c.plan_fault.result c.plan_fault.ensures read c.may_refuse_patterns.ensures (subst (λ (g : Given). Gives g (config_view c.args.config.now) (Err c.in-Err.fault)) c.requires.given c.in-Err.ensures.plan)
