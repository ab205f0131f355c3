use Rattle.std.proofs.Common.{◌≡◌, map, take}
use Rattle.serde_json.specs.View.{view}
use Rattle.ci_machine_steps.specs.Prelude.{attempt_data, attempts_among}
use Rattle.ci_machine_plans.proofs.listings.attempts_value_of.Given as goal

abbrev pub invariant-loop-attempt : goal.invariant-loop-attempt
invariant-loop-attempt l = map view l.items.items ≡ map (attempt_data l.runners) (attempts_among (take l.attempt-index l.attempts) l.job)
