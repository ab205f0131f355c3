use Rattle.std.proofs.Common.{◌≡◌, ◌++◌, drop, map}
use Rattle.ci_graph_layout.specs.Prelude.{included_view}
use Rattle.ci_plan.specs.Planned.{names}
use Rattle.ci_plan.proofs.faults.names.Given as goal

abbrev pub invariant-loop-job : goal.invariant-loop-job
invariant-loop-job l = l.found.items ++ names (map included_view (drop l.job-index l.jobs)) ≡ names (map included_view l.jobs)
