use Rattle.std.proofs.Common.{◌<◌, take, All}
use Rattle.ci_tests.proofs.board.within.are_positions.Given as goal

abbrev pub invariant-loop-k : goal.invariant-loop-k
invariant-loop-k l = All (λ c. c.position < l.count) (take l.k l.changes)
