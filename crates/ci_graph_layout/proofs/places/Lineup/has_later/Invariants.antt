use Rattle.std.proofs.Common.{◌≡◌, drop, map}
use Rattle.ci_graph_layout.specs.Prelude.{need_view, any, names_later, stages_of, jobs_of}
use Rattle.ci_graph_layout.proofs.places.Lineup.has_later.Given as goal

abbrev pub invariant-loop-need : goal.invariant-loop-need
invariant-loop-need l = any (names_later (stages_of l.self) (jobs_of l.self) l.fn.own) (map need_view (drop l.need-index l.needs)) ≡ any (names_later (stages_of l.self) (jobs_of l.self) l.fn.own) (map need_view l.needs)
