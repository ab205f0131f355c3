use Rattle.std.proofs.Common.{take}
use Rattle.ci_machine_steps.specs.Prelude.{State, applied}
use Rattle.ci_memory.proofs.follows.followed.Given as goal

-- what is remembered is right after the changes so far
abbrev pub invariant-loop-change : goal.invariant-loop-change
invariant-loop-change g l = (s : State) → g.M.Follows.IsRightOf l.fn.memory s → g.M.Follows.IsRightOf l.memory (applied (take l.change-index l.changes) s)
