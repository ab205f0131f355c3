use Rattle.std.proofs.Common.{◌≡◌, false, ap, sym, subst, ◌∙◌, rules, nat_le, sum_by}
use Rattle.ci_graph_layout.specs.Prelude.{AreAnswered, RefusesLooks, look_cost, looks_view, config_view, all_looks, given_view}
use Rattle.ci_config.specs.Prelude.{value_view}
use Rattle.ci_graph_layout.specs.declared.limits.TheConstants.{MAX_SEARCH_COST}
use Rattle.ci_machine_steps.specs.Prelude.{configures}
use Rattle.ci_machine_pipelines.specs.Creations.{origin_view, plan_fault}
use Rattle.ci_machine_pipelines.proofs.Laying.{misconfigured, unaffordable, not_looked_for}
use Rattle.ci_machine_pipelines.proofs.layouts.lay_out_tree.Goals as goal

pub lay_out_config-requires-clause-answered : goal.lay_out_config-requires-clause-answered
lay_out_config-requires-clause-answered c =
    subst (λ ls. AreAnswered c.in-Ok-of.answers ls) (ap looks_view c.deref-in-Ok.ensures.value ∙ c.in_ok-looks-in-Ok.ensures) c.in-Ok-of.ensures.answered

pub returns-in-Ok-of : goal.returns-in-Ok-of
returns-in-Ok-of c = λ text has. c.lay_out_config.ensures text (configures (value_view c.args.tree.now) (config_view c.in-Ok.config) has c.in-Ok.ensures.answer)

pub returns-in-Ok : goal.returns-in-Ok
returns-in-Ok c = λ text has.
    let given = given_view c.args.start.now.given in
    let by : RefusesLooks c.in-Err-of.refused (all_looks given c.in-Ok.config) =
    subst (λ ls. RefusesLooks c.in-Err-of.refused ls) (ap looks_view c.deref-in-Ok.ensures.value ∙ c.in_ok-looks-in-Ok.ensures) c.in-Err-of.ensures.refused in
    not_looked_for text (origin_view c.args.start.now) (config_view c.in-Ok.config) c.in-Err-of.refused (all_looks given c.in-Ok.config) c.plan_fault-in-Err-of.result
    (c.plan_fault-in-Err-of.ensures ∙ ap plan_fault c.from.ensures) (configures (value_view c.args.tree.now) (config_view c.in-Ok.config) has c.in-Ok.ensures.answer)
    c.may_refuse_patterns.ensures (c.searches_for_patterns_alone.ensures given c.in-Ok.config) by

pub returns : goal.returns
returns c = λ text has.
    misconfigured text (origin_view c.args.start.now) (value_view c.args.tree.now) c.in-Err.fault c.config_fault.result has c.in-Err.ensures.answer c.config_fault.ensures

pub returns-then-not-is_affordable : goal.returns-then-not-is_affordable
returns-then-not-is_affordable c = λ text has.
    let given = given_view c.args.start.now.given in
    let refused : c.is_affordable.result ≡ false = search rules in
    let over : nat_le (sum_by look_cost (all_looks given c.in-Ok.config)) MAX_SEARCH_COST ≡ false =
    ap (λ ls. nat_le (sum_by look_cost ls) MAX_SEARCH_COST) (sym (ap looks_view c.deref.ensures.value ∙ c.in_ok-looks-in-Ok.ensures)) ∙ sym c.is_affordable.ensures ∙ refused in
    unaffordable text (origin_view c.args.start.now) (config_view c.in-Ok.config) (all_looks given c.in-Ok.config) c.plan_fault.result
    c.plan_fault.ensures (configures (value_view c.args.tree.now) (config_view c.in-Ok.config) has c.in-Ok.ensures.answer)
    c.may_refuse_patterns.ensures (c.searches_for_patterns_alone.ensures given c.in-Ok.config) over
