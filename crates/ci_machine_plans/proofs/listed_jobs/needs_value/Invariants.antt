use Rattle.std.proofs.Common.{◌≡◌, map, take}
use Rattle.serde_json.specs.Data.{number, unsigned}
use Rattle.serde_json.specs.View.{view}
use Rattle.ci_machine_steps.specs.Prelude.{needs_among}
use Rattle.ci_machine_plans.proofs.listed_jobs.needs_value.Given as goal

-- the jobs so far that the job waits for
abbrev pub invariant-loop-need : goal.invariant-loop-need
invariant-loop-need l = map view l.items.items ≡ map (λ n. number (unsigned n)) (needs_among (take l.need-index l.needs) l.job)
