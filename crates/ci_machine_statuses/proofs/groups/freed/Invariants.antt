use Rattle.std.proofs.Common.{◌≡◌, take}
use Rattle.ci_machine_statuses.specs.HolderChanges.{freed}
use Rattle.ci_machine_statuses.proofs.groups.freed.Given as goal

-- the changes so far
abbrev pub invariant-loop-attempt : goal.invariant-loop-attempt
invariant-loop-attempt l = l.changes.items ≡ freed l.project l.chosen (take l.attempt-index l.attempts)
