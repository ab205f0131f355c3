use Rattle.std.proofs.Common.{◌∙◌, ap, arith, map}
use Rattle.serde_json.specs.Data.{array}
use Rattle.serde_json.specs.View.{view, items_of}
use Rattle.serde_json.proofs.Views.{view-Array}
use Rattle.ci_machine_plans.proofs.Bodies.{pushed_as, told_further, told_ended}
use Rattle.ci_machine_plans.proofs.listed_jobs.jobs_value.Goals as goal

pub loop-i-preserved : goal.loop-i-preserved
loop-i-preserved c =
    let a = c.args.around.now in
    told_further a.claims.now a.project a.runners.now a.needs.now a.attempts.now c.args.jobs.now c.args.facts.now c.args.rows.now c.loop-i.i c.index-jobs-i.result _ _ (map view c.loop-i.items.items) (map view c.push.new.self.items)
    (omega arith) (omega arith) (omega arith) c.index-jobs-i.is
    (pushed_as view c.loop-i.items.items c.push.new.self.items c.in_ok-job_value.field-0 _ c.in_ok-push.ensures.items c.in_ok-job_value.ensures)
    c.loop-i.invariant

pub returns : goal.returns
returns c =
    let a = c.args.around.now in
    view-Array _
    ∙ ap (λ ds. array (items_of ds)) (told_ended a.claims.now a.project a.runners.now a.needs.now a.attempts.now c.args.jobs.now c.args.facts.now c.args.rows.now c.loop-i.i (map view c.loop-i.items.items) (omega arith) c.loop-i.invariant)
