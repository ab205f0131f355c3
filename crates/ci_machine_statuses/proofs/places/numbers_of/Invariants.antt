use Rattle.std.proofs.Common.{◌≡◌, map, take}
use Rattle.ci_machine_statuses.proofs.places.numbers_of.Given as goal

-- the numbers of the jobs so far
abbrev pub invariant-loop-job : goal.invariant-loop-job
invariant-loop-job l = l.numbers.items ≡ map (λ j. j.id) (take l.job-index l.jobs)
