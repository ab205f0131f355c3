use Rattle.std.proofs.Common.{◌≡◌, ◌↔◌, true, [], subst, sym, ap, ◌∙◌}
use Rattle.std.proofs.lemmas.Result.{IfOk-at_ok}
use Rattle.ci_machine_steps.specs.Prelude.{Plan, variables_of}
use Rattle.ci_machine_steps.specs.Grants as machine
use Rattle.ci_server_events.specs.Planning.{Settles}
use Rattle.ci_server_lookups.proofs.Loading.{closes, continues}
use Rattle.ci_server_events.proofs.Granting.{rows_granted, indexes_granted, grant_settled}
use Rattle.ci_server_events.proofs.Leaving.{plans_with}
use Rattle.ci_server_events.proofs.grants.grant.Goals as goal

-- what was looked up is what the plan is made of, and the job's own row and its group settle it
pub returns : goal.returns
returns g c =
    let runner = c.args.runner.now in
    let offer = c.args.offer.now in
    let q = offer.queued in
    let plan = c.in_ok-plan.plan in
    let put = c.started_beside-beside in
    continues c.in_ok-variables.was c.job_variables.ensures (closes c.in_ok-next.was c.next.ensures)
    (λ k y is variables next kept offered.
    let w = IfOk-at_ok _ is c.with.ensures.planned in
    let same : plan ≡ machine.grant runner q (variables_of k.state q.job.id) k.state.next.attempt c.args.now c.args.seed =
    c.in_ok-plan.ensures ∙ (λ i. machine.grant runner q ((c.as_slice.ensures.value ∙ variables) i) (next i) c.args.now c.args.seed) in
    let rows : y.beside.rows.items ≡ rows_granted c.is_empty.result offer = IfOk-at_ok _ w.2 put.ensures.rows in
    let indexes : y.beside.indexes.items ≡ indexes_granted c.is_empty.result c.in_ok-next.next offer = IfOk-at_ok _ w.2 put.ensures.indexes in
    plans_with k (λ (p : Plan). p ≡ machine.grant runner q (variables_of k.state q.job.id) k.state.next.attempt c.args.now c.args.seed) plan y w.0 w.1 same
    (subst (λ (p : Plan). Settles k p.1 y.beside) (sym same)
    (grant_settled k kept runner offer offered (variables_of k.state q.job.id) c.args.now c.args.seed c.grant_settles.ensures c.grant_is_indexed.ensures c.is_empty.result
    (subst (λ (p : Plan). (c.is_empty.result ≡ true) ↔ (p.1 ≡ [])) same c.is_empty.ensures) y.beside rows (indexes ∙ ap (λ n. indexes_granted c.is_empty.result n offer) next))))
