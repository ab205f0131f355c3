use Rattle.std.proofs.Common.{◌≡◌, ◌+◌, drop}
use Rattle.ci_board.specs.Prelude.{successors_of, corrected}
use Rattle.ci_board.proofs.pass.correct.Given as goal

abbrev pub invariant-loop-k : goal.invariant-loop-k
invariant-loop-k g l =
    (l.graph ≡ record l.fn.graph { meter = l.fn.graph.meter + l.k })
    × (corrected l.fn.graph.parts l.was l.is (drop l.k (successors_of l.fn.graph l.j)) l.rows ≡ corrected l.fn.graph.parts l.was l.is (successors_of l.fn.graph l.j) l.fn.rows)
