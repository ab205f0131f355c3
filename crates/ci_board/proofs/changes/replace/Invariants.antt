use Rattle.std.proofs.Common.{◌≡◌, drop}
use Rattle.ci_board.specs.Prelude.{replaced}
use Rattle.ci_board.proofs.changes.replace.Given as goal

abbrev pub invariant-loop-i : goal.invariant-loop-i
invariant-loop-i l = replaced (drop l.i l.changes) l.fresh ≡ replaced l.changes l.fn.fresh
