use Rattle.std.specs.Prelude.{◌≡◌, ◌++◌, flat_map, take}
use Rattle.ci_machine_steps.specs.Prunes as prunes
use Rattle.ci_machine_plans.proofs.prunes.with_ties.Given as goal

-- what goes so far
abbrev pub invariant-loop-job : goal.invariant-loop-job
invariant-loop-job l = l.changes.items ≡ l.fn.changes.items ++ flat_map prunes.ties_go (take l.job-index l.jobs)
