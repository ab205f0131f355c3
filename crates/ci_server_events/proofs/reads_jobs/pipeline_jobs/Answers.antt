use Rattle.std.proofs.Common.{◌≡◌, List, All, true, subst, ap, ◌∙◌}
use Rattle.std.proofs.lemmas.Result.{IfOk-at_ok}
use Rattle.serde_json.specs.Data.{Data, array}
use Rattle.serde_json.specs.View.{items_of}
use Rattle.ci_machine_steps.specs.Prelude.{Job, told_jobs, is_within, jobs_of, facts_of, rows_of, claims_in, json}
use Rattle.ci_server_lookups.specs.Prelude.{FreeAlike}
use Rattle.ci_server_lookups.proofs.Loading.{closes, continues, joined}
use Rattle.ci_server_events.proofs.Settles.{are_found}
use Rattle.ci_server_events.proofs.Telling.{told_alike}
use Rattle.ci_server_events.proofs.reads_jobs.pipeline_jobs.Goals as goal

-- what was looked up are the records of the pipeline's jobs, and what is told by them is told by the state
pub returns : goal.returns
returns g c =
    let n = c.args.number in
    let p = c.args.project in
    let claims = c.in_ok-claims.claims in
    continues c.in_ok-jobs.was c.jobs_of.ensures
    (joined c.in_ok-needs.was c.needs_within.ensures
    (joined c.in_ok-attempts.was c.attempts_within.ensures
    (joined c.in_ok-rows.was c.rows_within.ensures (joined c.in_ok-claims.was c.claims_on.ensures (closes c.in_ok-runners.was c.runners.ensures)))))
    (λ k y is jobs more kept.
    let s = k.state in
    let its = claims_in s k.board n in
    let same = c.as_slice-7.ensures.value ∙ jobs in
    let alike : FreeAlike claims.items its p (jobs_of s n) = subst (λ (js : List Job). FreeAlike claims.items its p js) (c.as_slice-2.ensures.value ∙ jobs) (more.1.1.1.0 kept) in
    let are = are_found k kept.sound c.in-Some.is c.range_of.ensures.within (c.as_slice.ensures.value ∙ jobs) same (c.as_slice-5.ensures.value ∙ more.0) (c.as_slice-6.ensures.value ∙ more.1.0) (c.as_slice-8.ensures.value ∙ more.1.1.0) in
    let inside : All (λ j. is_within are.first are.last j.id ≡ true) (jobs_of s n) = subst (All (λ (j : Job). is_within are.first are.last j.id ≡ true)) same are.inside in
    IfOk-at_ok _ is c.told.ensures.told k n kept are
    ∙ ap (λ (ds : List Data). json (array (items_of ds)))
    ((λ i. told_jobs (c.as_slice-3.ensures.value i) p ((c.as_slice-4.ensures.value ∙ more.1.1.1.1) i) (are.are_needs i) (are.are_attempts i) (same i) (facts_of s n) (rows_of s k.board n))
    ∙ told_alike claims.items its p s.runners are.first are.last s.needs s.attempts (jobs_of s n) (facts_of s n) (rows_of s k.board n) alike inside))
