use Rattle.std.proofs.Common.{◌≡◌, take}
use Rattle.ci_machine_statuses.proofs.outcome.all_rows.Given as goal

-- the rows so far
abbrev pub invariant-loop-j : goal.invariant-loop-j
invariant-loop-j g l = l.rows.items ≡ take l.j l.board.rows
