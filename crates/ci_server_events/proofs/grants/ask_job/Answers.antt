use Rattle.std.proofs.Common.{◌≡◌, Some, None, Option, subst, sym, ap, ◌∙◌}
use Rattle.ci_machine_steps.specs.Prelude.{Runner, offer, offered_variables, runner_with}
use Rattle.ci_machine_steps.specs.Grants as machine
use Rattle.ci_server_lookups.proofs.Loading.{yields, continues}
use Rattle.ci_server_events.specs.Planning.{PlansFor}
use Rattle.ci_server_events.proofs.grants.ask_job.Goals as goal

-- no runner has the token
pub returns-in-None : goal.returns-in-None
returns-in-None g c =
    let token = c.args.token in
    let made = c.unchanged in
    yields c.in_ok-runner_with.was c.runner_with.ensures
    (λ k found kept.
    let asks = λ (o : Option Runner). machine.ask_job o (offer k.state k.board o) (offered_variables k.state (offer k.state k.board o)) k.state.next.attempt c.args.now c.args.seed in
    let none : runner_with k.state token ≡ None = sym found ∙ c.in-None.is in
    record { made = made.ensures.plan ∙ (c.unknown_runner.ensures ∙ sym (ap asks none)); settled = made.ensures.settled k kept })

-- the runner with the token asks
pub returns : goal.returns
returns g c =
    let token = c.args.token in
    continues c.in_ok-runner_with.was c.runner_with.ensures c.ask_for.ensures
    (λ k y is found planned kept.
    let asks = λ (o : Option Runner). machine.ask_job o (offer k.state k.board o) (offered_variables k.state (offer k.state k.board o)) k.state.next.attempt c.args.now c.args.seed in
    let some : runner_with k.state token ≡ Some c.in-Some.runner = sym found ∙ c.in-Some.is in
    subst (λ (o : Option Runner). PlansFor k ((y.answer, y.changes) ≡ asks o) y) (sym some) (planned kept))
