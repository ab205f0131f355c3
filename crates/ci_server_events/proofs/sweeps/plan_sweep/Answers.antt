use Rattle.std.proofs.Common.{◌≡◌, Option, Some, None, sym, ap, ◌∙◌}
use Rattle.ci_machine_steps.specs.Prelude.{Lease, first_due, leases, redundant_in, cancellable_in, sweep}
use Rattle.ci_server_lookups.proofs.Loading.{continues, if_kept}
use Rattle.ci_server_events.proofs.Settles.{due_is_live}
use Rattle.ci_server_events.proofs.sweeps.plan_sweep.Goals as goal

-- the first lease that is over is that of a live attempt, and it ends
pub returns-in-Some : goal.returns-in-Some
returns-in-Some g c =
    continues c.in_ok-lease.was (if_kept c.first_due.ensures) (if_kept c.end.ensures)
    (λ k y is found ended kept.
    let s = k.state in
    let due : first_due (leases s) c.args.now ≡ Some c.in-Some.lease = sym found ∙ c.in-Some.is in
    let plan = ended kept (due_is_live s c.args.now c.in-Some.lease due) in
    let redundant = redundant_in s k.board in
    record {
      made = plan.made ∙ ap (λ (o : Option Lease). sweep o redundant s.attempts (cancellable_in s k.board redundant)) (sym due);
      settled = plan.settled;
    })

-- none is over
pub returns-in-None : goal.returns-in-None
returns-in-None g c =
    continues c.in_ok-lease.was (if_kept c.first_due.ensures) c.sweep_pipelines.ensures
    (λ k y is found swept kept.
    let s = k.state in
    let none : first_due (leases s) c.args.now ≡ None = sym found ∙ c.in-None.is in
    let plan = swept kept in
    let redundant = redundant_in s k.board in
    record {
      made = plan.made ∙ ap (λ (o : Option Lease). sweep o redundant s.attempts (cancellable_in s k.board redundant)) (sym none);
      settled = plan.settled;
    })
