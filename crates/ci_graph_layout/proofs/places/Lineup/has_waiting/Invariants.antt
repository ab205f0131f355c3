use Rattle.std.proofs.Common.{◌≡◌, drop, map}
use Rattle.ci_graph_layout.specs.Prelude.{any, waits_for_later, stages_of, jobs_of, included_view}
use Rattle.ci_graph_layout.proofs.places.Lineup.has_waiting.Given as goal

abbrev pub invariant-loop-job : goal.invariant-loop-job
invariant-loop-job l = any (waits_for_later (stages_of l.self) (jobs_of l.self)) (map included_view (drop l.job-index l.self.jobs.items)) ≡ any (waits_for_later (stages_of l.self) (jobs_of l.self)) (jobs_of l.self)
