use Rattle.std.proofs.Common.{List, ℕ, ◌∙◌, ap, arith, map}
use Rattle.serde_json.specs.Data.{array}
use Rattle.serde_json.specs.View.{view, items_of}
use Rattle.serde_json.proofs.Views.{view-Array}
use Rattle.ci_machine_steps.specs.Prelude.{job_data}
use Rattle.ci_machine_plans.proofs.Bodies.{pushed_as, jobs_further, jobs_ended}
use Rattle.ci_machine_plans.proofs.body.jobs_with_rows.Goals as goal

pub loop-i-preserved : goal.loop-i-preserved
loop-i-preserved c =
    jobs_further c.args.claims.now c.args.project c.args.jobs.now c.args.rows.now c.loop-i.i c.index-jobs-i.result _ (map view c.loop-i.items.items) (map view c.push.new.self.items) (omega arith) (omega arith) c.index-jobs-i.is
    (pushed_as view c.loop-i.items.items c.push.new.self.items c.into_value.result _ c.in_ok-push.ensures.items
    (c.into_value.ensures ∙ (c.in_ok-shown.ensures ∙ ap (λ (s : List ℕ). job_data s c.index-jobs-i.result) (c.as_str-status.ensures ∙ c.of.ensures.printed))))
    c.loop-i.invariant

pub returns : goal.returns
returns c =
    view-Array _
    ∙ ap (λ ds. array (items_of ds)) (jobs_ended c.args.claims.now c.args.project c.args.jobs.now c.args.rows.now c.loop-i.i (map view c.loop-i.items.items) (omega arith) c.loop-i.invariant)
