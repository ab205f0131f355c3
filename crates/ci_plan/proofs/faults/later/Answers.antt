use Rattle.std.proofs.Common.{◌≡◌, ◌<◌, List, length, get_or, map, flat_map, refl, subst}
use Rattle.ci_graph_layout.specs.Prelude.{stages_of, jobs_of, included_view}
use Rattle.ci_graph_layout.specs.declared.inclusion.IncludedJob.{IncludedJob}
use Rattle.ci_plan.specs.Faults.{later_of}
use Rattle.ci_plan.proofs.Further.{item_further}
use Rattle.ci_plan.proofs.faults.later.Goals as goal

pub loop-job-preserved : goal.loop-job-preserved
loop-job-preserved c =
    let i = c.loop-job.job-index in
    let jobs = c.deref-job-items.ensures.value in
    item_further (λ (js : List IncludedJob). flat_map (later_of (stages_of c.args.lineup.now) (jobs_of c.args.lineup.now)) (map included_view js)) (λ (j : IncludedJob). later_of (stages_of c.args.lineup.now) (jobs_of c.args.lineup.now) (included_view j))
    c.args.lineup.now.jobs.items c.loop-job.found.items (λ _ _. refl)
    (subst (λ (js : List IncludedJob). i < length js) jobs c.loop-job-test.true) (subst (λ (js : List IncludedJob). c.job-item.result ≡ get_or js i c.job-item.result) jobs c.job-item.is)
    c.in_ok-put_later.ensures c.loop-job.invariant
