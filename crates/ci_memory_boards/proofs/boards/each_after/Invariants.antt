use Rattle.std.proofs.Common.{List, All, vec_len}
use Rattle.ci_machine_steps.specs.Prelude.{IndexChange, Kept, cleared, written}
use Rattle.ci_memory_boards.specs.Order.{InOrder}
use Rattle.ci_server_lookups.specs.Prelude.{IsRight}
use Rattle.ci_memory_boards.proofs.boards.each_after.Given as goal

-- those that are left are right for what was kept, and those that are done for what is kept then
abbrev pub invariant-loop-sheet : goal.invariant-loop-sheet
invariant-loop-sheet l = (k : Kept) (indexes : List IndexChange) → InOrder k → All (λ m. IsRight m k) l.fn.sheets.items → All (λ m. IsRight m k) l.sheets.items × All (λ m. IsRight m (written l.changes l.rows indexes (cleared l.gone k))) l.left.items

abbrev pub decreases-loop-sheet : goal.decreases-loop-sheet
decreases-loop-sheet l = vec_len l.sheets
