use Rattle.std.proofs.Common.{◌≡◌, drop, map}
use Rattle.ci_graph_layout.specs.Prelude.{need_view, any, is_unmet, jobs_of}
use Rattle.ci_graph_layout.proofs.places.Lineup.has_unmet.Given as goal

abbrev pub invariant-loop-need : goal.invariant-loop-need
invariant-loop-need l = any (is_unmet (jobs_of l.self)) (map need_view (drop l.need-index l.needs)) ≡ any (is_unmet (jobs_of l.self)) (map need_view l.needs)
