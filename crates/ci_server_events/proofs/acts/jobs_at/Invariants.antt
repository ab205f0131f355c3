use Rattle.std.proofs.Common.{◌≡◌, map, take, slice_index_or}
use Rattle.ci_machine_steps.specs.Prelude.{Job}
use Rattle.ci_server_events.proofs.acts.jobs_at.Given as goal

-- the jobs at the places so far
abbrev pub invariant-loop-i : goal.invariant-loop-i
invariant-loop-i l = (other : Job) → l.chosen.items ≡ map (λ place. slice_index_or l.jobs place other) (take l.i l.places)
