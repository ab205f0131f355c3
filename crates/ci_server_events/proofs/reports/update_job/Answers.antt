use Rattle.std.proofs.Common.{◌≡◌, Some, None, Option, option_map, subst, sym, ap, ◌∙◌}
use Rattle.std.proofs.lemmas.Result.{IfOk-at_ok}
use Rattle.ci_machine_steps.specs.Prelude.{Lease, Plan, lease_at}
use Rattle.ci_machine_steps.specs.Reports as machine
use Rattle.ci_server_events.specs.Planning.{MovesOne}
use Rattle.ci_server_lookups.proofs.Loading.{yields, continues}
use Rattle.ci_server_events.proofs.Found.{leased}
use Rattle.ci_server_events.proofs.Leaving.{plans_with, with_beside}
use Rattle.ci_server_events.proofs.Settles.{report_moves}
use Rattle.ci_server_events.proofs.reports.update_job.Goals as goal

-- there is no such attempt
pub returns-in_ok-plan-in-None : goal.returns-in_ok-plan-in-None
returns-in_ok-plan-in-None g c =
    let made = c.unchanged in
    yields c.in_ok-leased_at.was c.leased_at.ensures
    (λ k found kept.
    let none : lease_at k.state c.args.update.now.attempt ≡ None = sym found ∙ ap (option_map (λ x. x.lease)) c.in-None.is in
    record {
      made = made.ensures.plan ∙ (c.in_ok-plan-in-None.ensures ∙ sym (ap (λ (o : Option Lease). machine.update_job o c.args.update.now c.args.now) none));
      settled = made.ensures.settled k kept;
    })

-- what the report does moves the attempt alone, so what was looked up settles it
pub returns-in_ok-plan-in-Some : goal.returns-in_ok-plan-in-Some
returns-in_ok-plan-in-Some g c =
    let update = c.args.update.now in
    let plan = c.in_ok-plan-in-Some.plan in
    let lease = c.in-Some.leased.lease in
    continues c.in_ok-leased_at.was c.leased_at.ensures (with_beside plan c.beside_changes-beside.ensures c.with.ensures.planned c.with.ensures.fault)
    (λ k y is found settles kept.
    let w = IfOk-at_ok _ is c.with.ensures.planned in
    let its : lease_at k.state update.attempt ≡ Some lease = sym found ∙ ap (option_map (λ x. x.lease)) c.in-Some.is in
    let made : plan ≡ machine.update_job (Some lease) update c.args.now = c.in_ok-plan-in-Some.ensures in
    let moves : MovesOne k.state plan.1 = subst (λ (p : Plan). MovesOne k.state p.1) (sym made) (report_moves k.state lease update c.args.now (leased k.state update.attempt lease its)) in
    plans_with k (λ (p : Plan). p ≡ machine.update_job (lease_at k.state update.attempt) update c.args.now) plan y w.0 w.1 (made ∙ ap (λ (o : Option Lease). machine.update_job o update c.args.now) (sym its)) (settles kept moves))
