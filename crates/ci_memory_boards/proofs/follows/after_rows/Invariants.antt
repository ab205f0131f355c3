use Rattle.std.proofs.Common.{take}
use Rattle.ci_machine_steps.specs.Prelude.{Kept, put_rows}
use Rattle.ci_memory_boards.proofs.follows.after_rows.Given as goal

-- right after the rows so far
abbrev pub invariant-loop-row : goal.invariant-loop-row
invariant-loop-row g l = (k : Kept) → g.M.Follows.IsRightFor l.fn.memory k → g.M.Follows.IsRightFor l.memory (record k { board = put_rows (take l.row-index l.rows) k.board })
