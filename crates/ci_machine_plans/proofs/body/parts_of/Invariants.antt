use Rattle.std.proofs.Common.{◌≡◌, map, take}
use Rattle.ci_machine_plans.proofs.body.parts_of.Given as goal

-- the parts of the jobs so far
abbrev pub invariant-loop-job : goal.invariant-loop-job
invariant-loop-job l = l.parts.items ≡ map (λ j. j.options.part) (take l.job-index l.jobs)
