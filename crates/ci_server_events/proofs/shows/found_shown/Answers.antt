use Rattle.std.proofs.Common.{List, [], ◌∷◌, Option, subst, ap, ◌∙◌}
use Rattle.ci_machine_steps.specs.Prelude.{BoardRow, Job, job_shown, row_or_none, claims_in}
use Rattle.ci_server_lookups.specs.Prelude.{FreeAlike}
use Rattle.ci_server_lookups.proofs.Loading.{both_yield}
use Rattle.ci_server_events.proofs.Showing.{job_alike}
use Rattle.ci_server_events.proofs.shows.found_shown.Goals as goal

-- by the claims that were looked up it is shown as by those of the state
pub returns : goal.returns
returns g c =
    let project = c.args.query.now.project in
    let job = c.args.job.now in
    let claims = c.in_ok-claims.claims in
    both_yield c.in_ok-row.was c.in_ok-claims.was c.row.ensures c.claims_on.ensures
    (λ k at alike kept.
    let its = claims_in k.state k.board job.pipeline in
    let status = c.status_of-status.ensures ∙ ap (λ (r : Option BoardRow). (row_or_none r).status) at in
    let same : FreeAlike claims.items its project (job ∷ []) = subst (λ (js : List Job). FreeAlike claims.items its project js) c.from_ref-jobs.ensures.value (alike kept) in
    record {
      made = c.unchanged.ensures.plan ∙ (c.in_ok-plan.ensures ∙ ((λ i. job_shown (c.as_slice.ensures.value i) project job (status i)) ∙ job_alike claims.items its project job _ same));
      settled = c.unchanged.ensures.settled k kept;
    })
