use Rattle.std.proofs.Common.{take}
use Rattle.ci_machine_steps.specs.Prelude.{Kept, applied}
use Rattle.ci_memory_boards.proofs.follows.after_changes.Given as goal

-- right after the changes so far
abbrev pub invariant-loop-change : goal.invariant-loop-change
invariant-loop-change g l = (k : Kept) → g.M.Follows.IsRightFor l.fn.memory k → g.M.Follows.IsRightFor l.memory (record k { state = applied (take l.change-index l.changes) k.state })
