use Rattle.std.proofs.Common.{◌≡◌, map, take}
use Rattle.ci_machine_steps.specs.Prelude.{RowChange, Record}
use Rattle.ci_machine_steps.specs.Cancels as cancels
use Rattle.ci_machine_plans.proofs.cancels.marks.Given as goal

-- the marks so far
abbrev pub invariant-loop-job : goal.invariant-loop-job
invariant-loop-job l = l.changes.items ≡ map (λ j. RowChange.Put (Record.Job (cancels.cancelled_job j))) (take l.job-index l.jobs)
