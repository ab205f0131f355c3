use Rattle.std.proofs.Common.{take}
use Rattle.ci_machine_steps.specs.Prelude.{Kept, indexed_all}
use Rattle.ci_memory.specs.Alone.{Accounts}
use Rattle.ci_memory.proofs.pipelines.after.after_indexes.Given as goal

-- it is right after the changes so far
abbrev pub invariant-loop-change : goal.invariant-loop-change
invariant-loop-change l = (k : Kept) → Accounts l.fn.known k → Accounts l.known (indexed_all (take l.change-index l.changes) k)
