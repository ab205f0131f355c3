use Rattle.std.proofs.Common.{◌<◌, take, All}
use Rattle.ci_tests.proofs.board.within.are_within.Given as goal

abbrev pub invariant-loop-k : goal.invariant-loop-k
invariant-loop-k l = All (λ p. p.0 < l.count) (take l.k l.pairs) × All (λ p. p.1 < l.count) (take l.k l.pairs)
