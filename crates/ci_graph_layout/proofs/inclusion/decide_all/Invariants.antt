use Rattle.std.proofs.Common.{◌≡◌, ◌++◌, drop, map}
use Rattle.ci_graph_layout.specs.Prelude.{config_view, job_view, decided, decided_job, given_view, decided_view}
use Rattle.ci_graph_layout.proofs.inclusion.decide_all.Given as goal

abbrev pub invariant-loop-job : goal.invariant-loop-job
invariant-loop-job l = map decided_view l.found.items ++ map (decided_job (given_view l.fn.given) (config_view l.fn.config)) (map job_view (drop l.job-index l.config.jobs.items)) ≡ decided (given_view l.fn.given) (config_view l.fn.config)
