use Rattle.std.proofs.Common.{◌≡◌, ◌++◌, drop, map}
use Rattle.ci_graph_layout.specs.Prelude.{decided_view}
use Rattle.ci_plan.specs.Rules.{left_out}
use Rattle.ci_plan.proofs.left_out.left_out.Given as goal

abbrev pub invariant-loop-job : goal.invariant-loop-job
invariant-loop-job l = l.found.items ++ left_out (map decided_view (drop l.job-index l.decided)) ≡ left_out (map decided_view l.decided)
