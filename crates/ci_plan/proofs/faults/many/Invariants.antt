use Rattle.std.proofs.Common.{◌≡◌, ◌++◌, drop, map}
use Rattle.ci_graph_layout.specs.Prelude.{included_view}
use Rattle.ci_plan.specs.Faults.{many}
use Rattle.ci_plan.proofs.faults.many.Given as goal

abbrev pub invariant-loop-job : goal.invariant-loop-job
invariant-loop-job l = l.found.items ++ many (map included_view (drop l.job-index l.jobs)) ≡ many (map included_view l.jobs)
