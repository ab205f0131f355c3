use Rattle.std.proofs.Common.{◌≡◌, [], drop, map}
use Rattle.ci_config.specs.Prelude.{value_view}
use Rattle.ci_graph_layout.specs.Prelude.{config_view, job_view, given_view}
use Rattle.ci_plan.specs.Notes.{of_jobs, each_once}
use Rattle.ci_plan.proofs.notes.notes.Given as goal

abbrev pub invariant-loop-job : goal.invariant-loop-job
invariant-loop-job l = each_once l.found.items (of_jobs (given_view l.fn.given) (config_view l.fn.config) (value_view l.fn.tree) (map job_view (drop l.job-index l.config.jobs.items)))
    ≡ each_once [] (of_jobs (given_view l.fn.given) (config_view l.fn.config) (value_view l.fn.tree) (map job_view l.config.jobs.items))
