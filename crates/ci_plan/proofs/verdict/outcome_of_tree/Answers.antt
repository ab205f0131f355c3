use Rattle.ci_config.specs.Prelude.{value_view}
use Rattle.ci_graph_layout.specs.Prelude.{config_view, given_view}
use Rattle.ci_plan.proofs.Saying.{says_plan, says_fault}
use Rattle.ci_plan.proofs.verdict.outcome_of_tree.Goals as goal

pub returns-in-Ok-notes : goal.returns-in-Ok-notes
returns-in-Ok-notes c = λ bytes has.
    says_plan bytes (value_view c.args.tree.now) (given_view c.args.given.now) (config_view c.in-Ok.config) c.in-Ok-plan.plan c.in-Ok-notes.notes has c.in-Ok.ensures.answer c.in-Ok-plan.ensures c.in-Ok-notes.ensures

pub returns-in-Ok : goal.returns-in-Ok
returns-in-Ok c = λ bytes has.
    says_fault bytes (value_view c.args.tree.now) (given_view c.args.given.now) (config_view c.in-Ok.config) c.in-Err-plan.fault c.refusal.result c.refusal.ensures has
    c.in-Ok.ensures.answer c.may_refuse_patterns.ensures c.in-Err-plan.ensures
