use Rattle.std.proofs.Common.{◌≡◌, drop}
use Rattle.ci_memory_queue.specs.Notes.{changes_noted}
use Rattle.ci_memory_queue.proofs.notes.after_changes.Given as goal

-- what is left is noted behind the changes so far
abbrev pub invariant-loop-change : goal.invariant-loop-change
invariant-loop-change l = changes_noted (drop l.change-index l.changes) l.notes ≡ changes_noted l.changes l.fn.notes
