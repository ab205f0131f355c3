use Rattle.std.proofs.Common.{◌≡◌, map, take}
use Rattle.ci_machine_steps.specs.Prelude.{held_claim}
use Rattle.ci_machine_statuses.proofs.groups.claims_of.Given as goal

-- the claims so far
abbrev pub invariant-loop-holder : goal.invariant-loop-holder
invariant-loop-holder l = l.claims.items ≡ map held_claim (take l.holder-index l.held)
