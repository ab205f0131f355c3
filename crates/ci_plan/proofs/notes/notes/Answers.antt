use Rattle.std.proofs.Common.{◌≡◌, ◌<◌, List, [], length, get_or, map, subst, ap, ◌∙◌}
use Rattle.ci_machine_steps.specs.Prelude.{layer_view}
use Rattle.ci_config.specs.Prelude.{value_view}
use Rattle.ci_graph_layout.specs.Prelude.{config_view, job_view, JobSpec, given_view}
use Rattle.ci_plan.specs.Notes.{of_jobs, each_once}
use Rattle.ci_plan.proofs.Noting.{job_more}
use Rattle.ci_plan.proofs.notes.notes.Goals as goal

pub loop-job-preserved : goal.loop-job-preserved
loop-job-preserved c =
    let given = given_view c.args.given.now in
    let config = config_view c.args.config.now in
    let tree = value_view c.args.tree.now in
    let jobs = c.args.config.now.jobs.items in
    let i = c.loop-job.job-index in
    let job = c.job-item.result in
    let same = c.deref-job-items.ensures.value in
    let within : i < length jobs = subst (λ (js : List JobSpec). i < length js) same c.loop-job-test.true in
    let here : job ≡ get_or jobs i job = subst (λ (js : List JobSpec). job ≡ get_or js i job) same c.job-item.is in
    job_more given config tree jobs i job (layer_view c.deref.result.now) (each_once [] (of_jobs given config tree (map job_view jobs)))
    c.loop-job.found.items c.put_of_job.new.notes.items within here (ap layer_view c.deref.ensures.value ∙ c.in_ok-pairs.ensures) c.in_ok-put_of_job.ensures c.loop-job.invariant
