use Rattle.std.proofs.Common.{◌≡◌, map, take}
use Rattle.serde_json.specs.View.{view}
use Rattle.ci_machine_steps.specs.Prelude.{attempt_data}
use Rattle.ci_machine_plans.proofs.listings.attempts_value.Given as goal

abbrev pub invariant-loop-attempt : goal.invariant-loop-attempt
invariant-loop-attempt l = map view l.items.items ≡ map (attempt_data l.runners) (take l.attempt-index l.attempts)
