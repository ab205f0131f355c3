use Rattle.std.specs.Prelude.{◌≡◌, ◌++◌, map, take}
use Rattle.ci_machine_steps.specs.Prelude.{Key, RowChange}
use Rattle.ci_machine_plans.proofs.prunes.with_jobs.Given as goal

-- what goes so far
abbrev pub invariant-loop-job : goal.invariant-loop-job
invariant-loop-job l = l.changes.items ≡ l.fn.changes.items ++ map (λ j. RowChange.Remove (Key.Job j.id)) (take l.job-index l.jobs)
