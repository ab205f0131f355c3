use Rattle.std.proofs.Common.{◌≡◌, true, List, [], ◌∷◌, ◌++◌, ◌==◌, map, flat_map, ap, subst, ◌∙◌, eqb-true}
use Rattle.ci_machine_steps.specs.Prelude.{Key, Remove, Attempt, Job, is_within, is_job_among, attempt_goes, ties_go, pipeline_goes, pruned_reply}
use Rattle.ci_machine.proofs.Filters.{filter_implied}
use Rattle.ci_machine.proofs.Keyed.{has_from_all}
use Rattle.ci_machine.proofs.Tests.{any_has}
use Rattle.ci_machine_statuses.proofs.laws.prunes_are_of_records.Goals as goal

pub returns : goal.returns
returns c = λ s p jobs first last are inside.
    ap (λ (l : List Attempt). (pruned_reply p.id, flat_map attempt_goes l ++ (flat_map ties_go jobs ++ (map (λ j. Remove (Key.Job j.id)) jobs ++ Remove (Key.Pipeline p.id) ∷ []))))
    (filter_implied (λ (a : Attempt). is_job_among jobs a.job) (λ a. is_within first last a.job) s.attempts
    (λ a k e. let w = any_has (λ (j : Job). j.id == a.job) jobs e in
    subst (λ m. is_within first last m ≡ true) (eqb-true w.0.id a.job w.1.1) (has_from_all (λ (j : Job). is_within first last j.id ≡ true) w.0 jobs inside w.1.0)))
    ∙ ap (λ (js : List Job). (pruned_reply p.id, pipeline_goes p js s.attempts)) are
