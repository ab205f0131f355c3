use Rattle.std.proofs.Common.{◌≡◌, drop, map}
use Rattle.ci_graph_layout.specs.Prelude.{any, is_work, jobs_of, included_view}
use Rattle.ci_graph_layout.proofs.places.Lineup.has_work.Given as goal

abbrev pub invariant-loop-job : goal.invariant-loop-job
invariant-loop-job l = any is_work (map included_view (drop l.job-index l.self.jobs.items)) ≡ any is_work (jobs_of l.self)
