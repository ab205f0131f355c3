use Rattle.std.proofs.Common.{◌≡◌, IfSome, All, true, ℕ, subst, ◌∙◌}
use Rattle.ci_machine_steps.specs.Prelude.{Job, is_within, IsSound, State, jobs_of}
use Rattle.ci_server_lookups.specs.Prelude.{Records, AreOf}
use Rattle.ci_server_lookups.proofs.Loading.{closes, continues, joined}
use Rattle.ci_server_lookups.proofs.records.records_of.Goals as goal

-- what was looked up are the records of the pipeline's jobs
pub returns : goal.returns
returns g c =
    let it : Records = record { jobs = c.in_ok-jobs.jobs; needs = c.in_ok-needs.needs; attempts = c.in_ok-attempts.attempts; rows = c.in_ok-rows.rows } in
    continues c.in_ok-jobs.was c.jobs_of.ensures
    (joined c.in_ok-needs.was c.needs_within.ensures (joined c.in_ok-attempts.was c.attempts_within.ensures (closes c.in_ok-rows.was c.rows_within.ensures)))
    (λ k y is jobs more kept.
    let inside = subst (λ z. IfSome z (λ p. (s : State) (pipeline : ℕ) → IsSound s → c.as_slice.result.now ≡ jobs_of s pipeline → All (λ j. is_within p.0 p.1 j.id ≡ true) c.as_slice.result.now)) c.in-Some.is c.range_of.ensures.within in
    let same : it ≡ y = cc in
    subst (AreOf k c.args.pipeline) same (record {
      first = c.in-Some.first;
      last = c.in-Some.last;
      inside = subst (All (λ (j : Job). is_within c.in-Some.first c.in-Some.last j.id ≡ true)) c.as_slice.ensures.value (inside k.state c.args.pipeline kept.sound (c.as_slice.ensures.value ∙ jobs));
      are_jobs = jobs;
      are_needs = more.0;
      are_attempts = more.1.0;
      are_rows = more.1.1;
    }))
