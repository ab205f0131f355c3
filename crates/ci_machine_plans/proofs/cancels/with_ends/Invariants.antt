use Rattle.std.proofs.Common.{◌≡◌, ◌++◌, map, filter, take}
use Rattle.ci_machine_steps.specs.Prelude.{RowChange, Record}
use Rattle.ci_machine_steps.specs.Cancels as cancels
use Rattle.ci_machine_plans.proofs.cancels.with_ends.Given as goal

-- the ends so far
abbrev pub invariant-loop-attempt : goal.invariant-loop-attempt
invariant-loop-attempt l = l.changes.items ≡ l.fn.changes.items ++ map (λ a. RowChange.Put (Record.Attempt (cancels.cancelled_attempt a))) (filter (cancels.is_lease_on l.jobs) (take l.attempt-index l.attempts))
