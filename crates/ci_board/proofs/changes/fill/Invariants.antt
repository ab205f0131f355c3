use Rattle.std.proofs.Common.{◌≡◌, ◌≤◌, ◌++◌, length, drop, vec_len, vec_capacity}
use Rattle.ci_board.specs.Prelude.{differing}
use Rattle.ci_board.proofs.changes.fill.Given as goal

abbrev pub invariant-loop-j : goal.invariant-loop-j
invariant-loop-j l =
    (l.into.items ++ differing l.j (drop l.j l.before) (drop l.j l.after) ≡ differing 0 l.before l.after)
    × (vec_len l.into ≤ l.j)
    × (length l.after ≤ vec_capacity l.into)
