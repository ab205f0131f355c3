use Rattle.std.proofs.Common.{List, refl, ap, ◌∙◌}
use Rattle.std.proofs.lemmas.Result.{IfOk-at_ok}
use Rattle.ci_machine_steps.specs.Prelude.{Job, status_of_jobs, facts_of, rows_of}
use Rattle.ci_server_lookups.proofs.Loading.{closes, continues, joined}
use Rattle.ci_server_events.proofs.Settles.{are_found}
use Rattle.ci_server_events.proofs.reads_pipelines.status_in.Goals as goal

-- what was looked up are the records of the pipeline's jobs, so its status is theirs
pub returns : goal.returns
returns g c =
    let n = c.args.number in
    continues c.in_ok-jobs.was c.jobs_of.ensures (joined c.in_ok-attempts.was c.attempts_within.ensures (closes c.in_ok-rows.was c.rows_within.ensures))
    (λ k y is jobs more kept.
    let same = c.as_slice-2.ensures.value ∙ jobs in
    let are = are_found k kept.sound c.in-Some.is c.range_of.ensures.within (c.as_slice.ensures.value ∙ jobs) same refl (c.as_slice-3.ensures.value ∙ more.0) (c.as_slice-4.ensures.value ∙ more.1) in
    IfOk-at_ok _ is c.status_by.ensures.status k n _ kept are ∙ ap (λ (js : List Job). status_of_jobs js (facts_of k.state n) (rows_of k.state k.board n)) same)
