use Rattle.std.proofs.Common.{◌≡◌, ℕ, IfSome, All, true, ◌&&◌, ◌==◌, subst, ◌∙◌}
use Rattle.std.specs.List.{list_any}
use Rattle.ci_machine_steps.specs.Prelude.{Job, is_within, is_bound_to, IsSound, State, jobs_of}
use Rattle.ci_machine.proofs.Keyed.{has_from_all}
use Rattle.ci_server_lookups.proofs.Loading.{so}
use Rattle.ci_memory.proofs.Supersedes.{held_back_is}
use Rattle.ci_memory.proofs.pipelines.held_back.is_held_back.Goals as goal

-- the attempts of the pipeline's jobs are among those between its first job and its last one
pub returns : goal.returns
returns g c =
    let p = c.args.pipeline.now in
    let jobs = c.in_ok-jobs.jobs.items in
    so g.T.Store.honest g.T.Store.holds g.T.Store.leaves _ _ _ _ c.jobs_of.result c.in_ok-jobs.jobs c.attempts_within.result c.in_ok-attempts.attempts _ c.in_ok-jobs.was c.in_ok-attempts.was c.jobs_of.ensures c.attempts_within.ensures
    (λ k its tried kept.
    let inside = subst (λ z. IfSome z (λ r. (s : State) (pipeline : ℕ) → IsSound s → c.as_slice.result.now ≡ jobs_of s pipeline → All (λ j. is_within r.0 r.1 j.id ≡ true) c.as_slice.result.now)) c.in-Some.is c.range_of.ensures.within in
    let all : All (λ (j : Job). is_within c.in-Some.first c.in-Some.last j.id ≡ true) (jobs_of k.state p.id) = subst (All (λ (j : Job). is_within c.in-Some.first c.in-Some.last j.id ≡ true)) (c.as_slice.ensures.value ∙ its) (inside k.state p.id kept.sound (c.as_slice.ensures.value ∙ its)) in
    c.is_any_held_back.ensures
    ∙ ((λ i. list_any (λ j. is_bound_to p j && list_any (λ a. a.job == j.id) ((c.as_slice-3.ensures.value ∙ tried) i)) ((c.as_slice-2.ensures.value ∙ its) i))
    ∙ held_back_is k.state p c.in-Some.first c.in-Some.last (λ j h. has_from_all (λ (j : Job). is_within c.in-Some.first c.in-Some.last j.id ≡ true) j (jobs_of k.state p.id) all h)))
