use Rattle.std.proofs.Common.{Result, subst, sym}
use Rattle.ci_machine_steps.specs.Prelude.{Job, Code}
use Rattle.ci_server_events.specs.Acting.{ActsAs}
use Rattle.ci_server_events.specs.Planning.{PlansFor}
use Rattle.ci_server_lookups.proofs.Loading.{continues, yields}
use Rattle.ci_server_events.proofs.Acting.{found_has}
use Rattle.ci_server_events.proofs.Asking.{lent, unlent, job_asked}
use Rattle.ci_server_events.proofs.acts.act_on.Goals as goal

-- the job that was looked up is the one that the query names
pub returns-in-Ok : goal.returns-in-Ok
returns-in-Ok g c =
    continues c.in_ok-named.was c.load_named.ensures c.act_on_found.ensures
    (λ k y is named planned kept.
    let found = job_asked k.state c.args.query.now named (lent c.asked.ensures c.in-Ok.is) in
    subst (λ (w : Result Job Code). PlansFor k (ActsAs c.args.act k.state k.board w (y.answer, y.changes)) y) (sym found) (planned kept (found_has k.state c.args.query.now c.in-Ok.job.now found)))

-- the query names none
pub returns : goal.returns
returns g c =
    let made = c.refused in
    yields c.in_ok-named.was c.load_named.ensures
    (λ k named kept. record {
      made = subst (λ (w : Result Job Code). ActsAs c.args.act k.state k.board w (made.result.answer, made.result.changes)) (sym (job_asked k.state c.args.query.now named (unlent c.asked.ensures c.in-Err.is))) made.ensures.plan;
      settled = made.ensures.settled k kept;
    })
