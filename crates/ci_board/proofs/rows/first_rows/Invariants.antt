use Rattle.std.proofs.Common.{◌≡◌, ◌++◌, drop, map}
use Rattle.ci_board.specs.Prelude.{first_row}
use Rattle.ci_board.proofs.rows.first_rows.Given as goal

abbrev pub invariant-loop-j : goal.invariant-loop-j
invariant-loop-j g l = l.rows.items ++ map first_row (drop l.j l.graph.predecessors) ≡ map first_row l.graph.predecessors
