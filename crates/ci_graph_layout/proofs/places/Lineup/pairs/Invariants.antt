use Rattle.std.proofs.Common.{◌≡◌, ◌++◌, drop, map}
use Rattle.ci_graph_layout.specs.Prelude.{pairs, pairs_from, stages_of, jobs_of, included_view}
use Rattle.ci_graph_layout.proofs.places.Lineup.pairs.Given as goal

abbrev pub invariant-loop-i : goal.invariant-loop-i
invariant-loop-i l = l.found.items ++ pairs_from (stages_of l.fn.self) (jobs_of l.fn.self) l.i (map included_view (drop l.i l.fn.self.jobs.items)) ≡ pairs (stages_of l.fn.self) (jobs_of l.fn.self)
