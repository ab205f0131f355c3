use Rattle.std.specs.Prelude.{map}
use Rattle.ci_machine_steps.specs.Prelude.{held_claim}
use Rattle.ci_server_lookups.proofs.Claiming.{copied_more}
use Rattle.ci_server_lookups.proofs.claims.claims_with.Goals as goal

-- one more is copied
pub loop-claim-preserved : goal.loop-claim-preserved
loop-claim-preserved c =
    let copied = c.in_ok-clone.ensures.cases in
    copied_more (map held_claim c.args.held.now) c.args.ahead.now c.loop-claim.claim-index c.claim-item.result c.in_ok-clone.field-0 c.loop-claim.claims.items _ c.loop-claim-test.true c.claim-item.is
    (λ i. record { project = copied.0 i; group = copied.1 i }) c.loop-claim.invariant c.in_ok-push.ensures.items
