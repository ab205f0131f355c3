use Rattle.std.specs.Prelude.{◌≡◌, map, take}
use Rattle.ci_server_events.proofs.prunes.numbers.Given as goal

-- the numbers so far
abbrev pub invariant-loop-job : goal.invariant-loop-job
invariant-loop-job l = l.numbers.items ≡ map (λ j. j.id) (take l.job-index l.jobs)
