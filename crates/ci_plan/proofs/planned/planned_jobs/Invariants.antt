use Rattle.std.proofs.Common.{◌≡◌, ◌++◌, drop, map}
use Rattle.ci_graph_layout.specs.Prelude.{stages_of, jobs_of, included_view}
use Rattle.ci_plan.specs.Planned.{planned_job, planned_jobs}
use Rattle.ci_plan.proofs.planned.planned_jobs.Given as goal

abbrev pub invariant-loop-job : goal.invariant-loop-job
invariant-loop-job l = l.jobs.items ++ map (planned_job (stages_of l.fn.lineup) (jobs_of l.fn.lineup)) (map included_view (drop l.job-index l.fn.lineup.jobs.items)) ≡ planned_jobs (stages_of l.fn.lineup) (jobs_of l.fn.lineup)
