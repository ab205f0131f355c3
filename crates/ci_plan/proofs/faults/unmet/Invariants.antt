use Rattle.std.proofs.Common.{◌≡◌, ◌++◌, drop, map, flat_map}
use Rattle.ci_graph_layout.specs.Prelude.{jobs_of, included_view}
use Rattle.ci_plan.specs.Faults.{unmet_of, unmet}
use Rattle.ci_plan.proofs.faults.unmet.Given as goal

abbrev pub invariant-loop-job : goal.invariant-loop-job
invariant-loop-job l = l.found.items ++ flat_map (unmet_of (jobs_of l.lineup)) (map included_view (drop l.job-index l.lineup.jobs.items)) ≡ unmet (jobs_of l.lineup)
