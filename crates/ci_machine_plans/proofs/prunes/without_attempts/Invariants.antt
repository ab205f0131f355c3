use Rattle.std.specs.Prelude.{◌≡◌, flat_map, take}
use Rattle.ci_machine_steps.specs.Prunes as prunes
use Rattle.ci_machine_plans.proofs.prunes.without_attempts.Given as goal

-- what goes so far
abbrev pub invariant-loop-attempt : goal.invariant-loop-attempt
invariant-loop-attempt l = l.changes.items ≡ flat_map prunes.attempt_goes (prunes.attempts_among l.jobs (take l.attempt-index l.attempts))
