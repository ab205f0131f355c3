use Rattle.std.proofs.Common.{◌≡◌, drop, map}
use Rattle.ci_graph_layout.specs.Prelude.{any, needs_many, jobs_of, included_view}
use Rattle.ci_graph_layout.proofs.places.Lineup.has_many.Given as goal

abbrev pub invariant-loop-job : goal.invariant-loop-job
invariant-loop-job l = any needs_many (map included_view (drop l.job-index l.self.jobs.items)) ≡ any needs_many (jobs_of l.self)
