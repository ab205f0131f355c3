use Rattle.std.proofs.Common.{◌≡◌, ◌++◌, drop, map}
use Rattle.ci_graph_layout.specs.Prelude.{included_view}
use Rattle.ci_plan.specs.Planned.{name_at}
use Rattle.ci_plan.proofs.planned.names_at.Given as goal

abbrev pub invariant-loop-place : goal.invariant-loop-place
invariant-loop-place l = l.names.items ++ map (name_at (map included_view l.fn.jobs)) (drop l.place-index l.places) ≡ map (name_at (map included_view l.fn.jobs)) l.places
