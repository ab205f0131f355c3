use Rattle.std.proofs.Common.{◌≡◌, Option, Some, None, sym, ap, ◌∙◌}
use Rattle.ci_machine_steps.specs.Prelude.{Pipeline, redundant_in, cancellable_in, sweep}
use Rattle.ci_server_lookups.proofs.Loading.{continues, yields, if_kept}
use Rattle.ci_server_events.proofs.sweeps.sweep_pipelines.Goals as goal

-- the redundant pipeline is cancelled
pub returns-in-Some : goal.returns-in-Some
returns-in-Some g c =
    continues c.in_ok-pipeline.was c.first_redundant.ensures
    (if_kept c.cancel_redundant.ensures)
    (λ k y is found planned kept.
    let s = k.state in
    let its : redundant_in s k.board ≡ Some c.in-Some.pipeline = sym found ∙ c.in-Some.is in
    let plan = planned kept in
    record {
      made = plan.made ∙ ap (λ (o : Option Pipeline). sweep None o s.attempts (cancellable_in s k.board o)) (sym its);
      settled = plan.settled;
    })

-- none is, and nothing changes
pub returns-in-None : goal.returns-in-None
returns-in-None g c =
    let made = c.unchanged in
    yields c.in_ok-pipeline.was c.first_redundant.ensures
    (λ k found kept.
    let s = k.state in
    let none : redundant_in s k.board ≡ None = sym found ∙ c.in-None.is in
    record {
      made = made.ensures.plan ∙ (c.nothing.ensures ∙ ap (λ (o : Option Pipeline). sweep None o s.attempts (cancellable_in s k.board o)) (sym none));
      settled = made.ensures.settled k kept;
    })
