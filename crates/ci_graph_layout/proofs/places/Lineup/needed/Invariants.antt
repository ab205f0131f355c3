use Rattle.std.proofs.Common.{◌≡◌, ◌++◌, drop, map}
use Rattle.ci_graph_layout.specs.Prelude.{need_view, needed, jobs_of}
use Rattle.ci_graph_layout.proofs.places.Lineup.needed.Given as goal

abbrev pub invariant-loop-need : goal.invariant-loop-need
invariant-loop-need l = l.places.items ++ needed (jobs_of l.fn.self) (map need_view (drop l.need-index l.needs)) ≡ needed (jobs_of l.fn.self) (map need_view l.needs)
