use Rattle.std.proofs.Common.{All, subst, List}
use Rattle.std.proofs.lemmas.List.{take_all}
use Rattle.ci_machine_steps.specs.Prelude.{Lease}
use Rattle.ci_memory.specs.Quiet.{IsWithin}
use Rattle.ci_memory.proofs.Quiets.{all_more}
use Rattle.ci_memory.proofs.leases.due.quiet_over.Goals as goal

pub loop-lease-preserved : goal.loop-lease-preserved
loop-lease-preserved c =
    all_more c.loop-lease.quiet c.in_ok-quiet.quiet c.args.leases.now c.loop-lease.lease-index c.lease-item.result c.loop-lease-test.true c.lease-item.is c.loop-lease.invariant
    c.in_ok-quiet.ensures.others c.in_ok-quiet.ensures.it

pub returns : goal.returns
returns c = subst (λ (ls : List Lease). All (IsWithin c.loop-lease.quiet) ls) (take_all c.loop-lease.lease-index c.args.leases.now c.loop-lease-test.false) c.loop-lease.invariant
