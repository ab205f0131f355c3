use Rattle.std.proofs.Common.{◌≡◌, ◌++◌, drop, map}
use Rattle.ci_graph_layout.specs.Prelude.{parts, included_view, lineup_view}
use Rattle.ci_graph_layout.proofs.planning.PipelinePlan.parts.Given as goal

abbrev pub invariant-loop-job : goal.invariant-loop-job
invariant-loop-job l = l.found.items ++ parts (map included_view (drop l.job-index l.fn.self.jobs.items)) ≡ parts (lineup_view l.fn.self.jobs)
