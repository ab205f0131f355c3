use Rattle.std.proofs.Common.{◌≡◌, drop, map}
use Rattle.ci_graph_layout.specs.Prelude.{any, lacks_need, jobs_of, included_view}
use Rattle.ci_graph_layout.proofs.places.Lineup.has_lacking.Given as goal

abbrev pub invariant-loop-job : goal.invariant-loop-job
invariant-loop-job l = any (lacks_need (jobs_of l.self)) (map included_view (drop l.job-index l.self.jobs.items)) ≡ any (lacks_need (jobs_of l.self)) (jobs_of l.self)
