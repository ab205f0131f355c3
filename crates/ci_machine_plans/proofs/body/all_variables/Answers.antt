use Rattle.std.proofs.Common.{◌≡◌, ◌∙◌}
use Rattle.ci_machine_steps.specs.Prelude.{with_default}
use Rattle.ci_machine_plans.proofs.body.all_variables.Goals as goal

pub returns : goal.returns
returns c =
    let copied : c.in_ok-all.all.items ≡ c.args.variables.now = c.in_ok-all.ensures.items_if_clones_equal (λ x y same. same) in
    let first : c.add_default.new.variables.items ≡ with_default c.in_ok-pipeline_id.pipeline_id c.in_ok-all.all.items = c.in_ok-add_default.ensures in
    let second : c.add_default-2.new.variables.items ≡ with_default c.in_ok-job_id.job_id c.add_default.new.variables.items = c.in_ok-add_default-2.ensures in
    second ∙ (λ i. with_default (c.in_ok-job_id.ensures i) (first i)) ∙ (λ i. with_default (c.in_ok-job_id.ensures 1) (with_default (c.in_ok-pipeline_id.ensures i) (copied i)))
