use Rattle.std.proofs.Common.{◌≡◌, ◌<◌, List, length, get_or, map, flat_map, refl, subst}
use Rattle.ci_graph_layout.specs.Prelude.{jobs_of, included_view}
use Rattle.ci_graph_layout.specs.declared.inclusion.IncludedJob.{IncludedJob}
use Rattle.ci_plan.specs.Faults.{unmet_of}
use Rattle.ci_plan.proofs.Further.{item_further}
use Rattle.ci_plan.proofs.faults.unmet.Goals as goal

pub loop-job-preserved : goal.loop-job-preserved
loop-job-preserved c =
    let i = c.loop-job.job-index in
    let jobs = c.deref-job-items.ensures.value in
    item_further (λ (js : List IncludedJob). flat_map (unmet_of (jobs_of c.args.lineup.now)) (map included_view js)) (λ (j : IncludedJob). unmet_of (jobs_of c.args.lineup.now) (included_view j))
    c.args.lineup.now.jobs.items c.loop-job.found.items (λ _ _. refl)
    (subst (λ (js : List IncludedJob). i < length js) jobs c.loop-job-test.true) (subst (λ (js : List IncludedJob). c.job-item.result ≡ get_or js i c.job-item.result) jobs c.job-item.is)
    c.in_ok-put_unmet.ensures c.loop-job.invariant
