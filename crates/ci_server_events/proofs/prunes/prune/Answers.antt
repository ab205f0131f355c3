use Rattle.std.proofs.Common.{◌≡◌, ℕ, true, IfSome, All, Some, map, ap, subst, ◌∙◌}
use Rattle.ci_machine_steps.specs.Prelude.{Job, is_within, State, jobs_of, IsSound}
use Rattle.ci_machine_steps.specs.Prunes as machine
use Rattle.ci_server_lookups.proofs.Loading.{both_yield}
use Rattle.ci_server_events.proofs.Pruning.{prune_plans}
use Rattle.ci_server_events.proofs.prunes.prune.Goals as goal

-- the attempts of the pipeline's jobs are among those between its first job and its last one
pub returns : goal.returns
returns g c =
    let p = c.args.pipeline.now in
    let jobs = c.in_ok-jobs.jobs.items in
    let first = c.in-Some.first in
    let last = c.in-Some.last in
    both_yield c.in_ok-jobs.was c.in_ok-attempts.was c.jobs_of.ensures c.attempts_within.ensures
    (λ k its tried kept has finished.
    let inside = subst (λ z. IfSome z (λ r. (s : State) (pipeline : ℕ) → IsSound s → c.as_slice.result.now ≡ jobs_of s pipeline → All (λ j. is_within r.0 r.1 j.id ≡ true) c.as_slice.result.now)) c.in-Some.is c.range_of.ensures.within k.state p.id kept.sound (c.as_slice.ensures.value ∙ its) in
    let all : All (λ (j : Job). is_within first last j.id ≡ true) jobs = subst (All (λ (j : Job). is_within first last j.id ≡ true)) c.as_slice.ensures.value inside in
    let same = c.in_ok-plan.ensures
    ∙ ((λ i. machine.prune (Some p) (c.as_slice-3.ensures.value i) ((c.as_slice-4.ensures.value ∙ tried) i))
    ∙ c.prunes_are_of_records.ensures k.state p jobs first last its all) in
    let made = c.clearing.ensures in
    prune_plans c.prune_settles.ensures c.prune_is_indexed.ensures k kept p has finished c.clearing.result ((λ i. (made.answer i, made.changes i)) ∙ same) made.rows made.indexes
    (made.cleared ∙ (c.in_ok-cleared.ensures ∙ ap (map (λ (j : Job). j.id)) (c.as_slice-2.ensures.value ∙ its))))
