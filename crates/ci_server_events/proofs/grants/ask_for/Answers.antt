use Rattle.std.proofs.Common.{◌≡◌, Some, None, Option, subst, sym, ap, ◌∙◌}
use Rattle.ci_machine_steps.specs.Prelude.{QueuedJob, ask_job, offer, offered_variables}
use Rattle.ci_server_lookups.specs.declared.search.Offer.{Offer}
use Rattle.ci_server_lookups.specs.Prelude.{IsOffered}
use Rattle.ci_server_lookups.proofs.Loading.{yields, continues}
use Rattle.ci_server_events.specs.Planning.{PlansFor}
use Rattle.ci_server_events.proofs.grants.ask_for.Goals as goal

-- no pending job is one that the runner may be given
pub returns-in-None : goal.returns-in-None
returns-in-None g c =
    let runner = c.args.runner.now in
    let made = c.unchanged in
    yields c.in_ok-first_offer.was c.first_offer.ensures
    (λ k found kept.
    let none : offer k.state k.board (Some runner) ≡ None = subst (λ (o : Option Offer). IsOffered k runner o) c.in-None.is (found kept) in
    record {
      made = made.ensures.plan ∙ (c.nothing_to_run.ensures ∙ sym (ap (λ (o : Option QueuedJob). ask_job (Some runner) o (offered_variables k.state o) k.state.next.attempt c.args.now c.args.seed) none));
      settled = made.ensures.settled k kept;
    })

-- it is offered the job that was found
pub returns-in-Some : goal.returns-in-Some
returns-in-Some g c =
    let runner = c.args.runner.now in
    continues c.in_ok-first_offer.was c.first_offer.ensures c.grant.ensures
    (λ k y is found planned kept.
    let offered : IsOffered k runner (Some c.in-Some.offer) = subst (λ (o : Option Offer). IsOffered k runner o) c.in-Some.is (found kept) in
    subst (λ (o : Option QueuedJob). PlansFor k ((y.answer, y.changes) ≡ ask_job (Some runner) o (offered_variables k.state o) k.state.next.attempt c.args.now c.args.seed) y) (sym offered.0)
    (planned kept offered))
