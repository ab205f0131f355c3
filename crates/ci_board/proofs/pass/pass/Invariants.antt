use Rattle.std.proofs.Common.{◌≡◌, drop}
use Rattle.ci_board.specs.Prelude.{passed}
use Rattle.ci_board.proofs.pass.pass.Given as goal

abbrev pub invariant-loop-i : goal.invariant-loop-i
invariant-loop-i g l =
    (l.graph ≡ record l.fn.graph { meter = l.graph.meter })
    × (passed l.fn.graph l.fresh (drop l.i l.fn.graph.order) (record { facts = l.facts; rows = l.rows; meter = l.graph.meter }) ≡ passed l.fn.graph l.fresh l.fn.graph.order (record { facts = l.fn.facts; rows = l.fn.rows; meter = l.fn.graph.meter }))
