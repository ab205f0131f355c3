use Rattle.std.proofs.Common.{◌≡◌, drop}
use Rattle.ci_graph_layout.specs.Prelude.{never_falls_from}
use Rattle.ci_graph_layout.proofs.places.never_falls.Given as goal

abbrev pub invariant-loop-number : goal.invariant-loop-number
invariant-loop-number l = never_falls_from l.least (drop l.number-index l.numbers) ≡ never_falls_from 0 l.numbers
