use Rattle.std.proofs.Common.{◌≡◌, drop}
use Rattle.ci_memory_queue.specs.Notes.{rows_noted}
use Rattle.ci_memory_queue.proofs.notes.after_rows.Given as goal

-- what is left is noted behind the rows so far
abbrev pub invariant-loop-row : goal.invariant-loop-row
invariant-loop-row l = rows_noted l.fn.order (drop l.row-index l.rows) l.notes ≡ rows_noted l.fn.order l.rows l.fn.notes
