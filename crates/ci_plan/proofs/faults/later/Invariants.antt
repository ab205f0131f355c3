use Rattle.std.proofs.Common.{◌≡◌, ◌++◌, drop, map, flat_map}
use Rattle.ci_graph_layout.specs.Prelude.{stages_of, jobs_of, included_view}
use Rattle.ci_plan.specs.Faults.{later_of, later}
use Rattle.ci_plan.proofs.faults.later.Given as goal

abbrev pub invariant-loop-job : goal.invariant-loop-job
invariant-loop-job l = l.found.items ++ flat_map (later_of (stages_of l.lineup) (jobs_of l.lineup)) (map included_view (drop l.job-index l.lineup.jobs.items)) ≡ later (stages_of l.lineup) (jobs_of l.lineup)
