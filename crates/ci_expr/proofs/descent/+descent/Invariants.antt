use Rattle.std.proofs.Common.{◌+◌, ◌*◌, length}
use Rattle.ci_expr.specs.Prelude.{chain, height}
use Rattle.ci_expr.proofs.descent.+descent.Given as goal

abbrev pub decreases-chain_from : goal.decreases-chain_from
decreases-chain_from l = 6 * length l.tokens.now + 2 * height (chain l.join) + 1

abbrev pub decreases-part_from : goal.decreases-part_from
decreases-part_from l = 6 * length l.tokens.now + 2 * height (chain l.join)

abbrev pub decreases-test_from : goal.decreases-test_from
decreases-test_from l = 6 * length l.tokens.now + 2
