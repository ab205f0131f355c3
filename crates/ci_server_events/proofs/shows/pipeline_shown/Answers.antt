use Rattle.std.proofs.Common.{List, refl, subst, ◌∙◌}
use Rattle.std.proofs.lemmas.Result.{IfOk-at_ok}
use Rattle.ci_machine_steps.specs.Prelude.{Job, jobs_of, facts_of, rows_of, claims_in}
use Rattle.ci_machine_steps.specs.Shows as machine
use Rattle.ci_server_lookups.specs.Prelude.{FreeAlike}
use Rattle.ci_server_lookups.proofs.Loading.{closes, continues, joined}
use Rattle.ci_server_events.proofs.Settles.{are_found}
use Rattle.ci_server_events.proofs.Showing.{pipeline_alike}
use Rattle.ci_server_events.proofs.shows.pipeline_shown.Goals as goal

-- what was looked up are the records of the pipeline's jobs, so its facts and rows are shown
pub returns : goal.returns
returns g c =
    let n = c.args.number in
    let p = c.args.pipeline.now in
    let claims = c.in_ok-claims.claims in
    continues c.in_ok-jobs.was c.jobs_of.ensures
    (joined c.in_ok-attempts.was c.attempts_within.ensures (joined c.in_ok-rows.was c.rows_within.ensures (closes c.in_ok-claims.was c.claims_on.ensures)))
    (λ k y is jobs more kept.
    let s = k.state in
    let same = c.as_slice-4.ensures.value ∙ jobs in
    let its = claims_in s k.board n in
    let alike : FreeAlike claims.items its p.project (jobs_of s n) = subst (λ (js : List Job). FreeAlike claims.items its p.project js) (c.as_slice-2.ensures.value ∙ jobs) (more.1.1 kept) in
    let are = are_found k kept.sound c.in-Some.is c.range_of.ensures.within (c.as_slice.ensures.value ∙ jobs) same refl (c.as_slice-5.ensures.value ∙ more.0) (c.as_slice-6.ensures.value ∙ more.1.0) in
    let plans = IfOk-at_ok _ is c.jobs_shown.ensures.shown k n _ kept are in
    record {
      made = plans.made ∙ ((λ i. machine.pipeline_shown p (c.as_slice-3.ensures.value i) (same i) (facts_of s n) (rows_of s k.board n)) ∙ pipeline_alike claims.items its p (jobs_of s n) alike (facts_of s n) (rows_of s k.board n));
      settled = plans.settled;
    })
