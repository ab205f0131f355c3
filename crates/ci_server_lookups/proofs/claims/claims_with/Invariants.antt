use Rattle.std.specs.Prelude.{◌≡◌, ◌++◌, map, take}
use Rattle.ci_machine_steps.specs.Prelude.{held_claim}
use Rattle.ci_server_lookups.proofs.claims.claims_with.Given as goal

-- those so far stand behind the claims of those who hold
abbrev pub invariant-loop-claim : goal.invariant-loop-claim
invariant-loop-claim l = l.claims.items ≡ map held_claim l.held ++ take l.claim-index l.ahead
