use Rattle.std.proofs.Common.{ℕ, List, [], length, map, sym, subst, ap, ◌∙◌}
use Rattle.std.proofs.lemmas.List.{length-map}
use Rattle.ci_graph_layout.specs.Prelude.{config_view, Given, given_view, included_view}
use Rattle.ci_machine.specs.Prelude.{AreWithin}
use Rattle.ci_graph_layout.specs.declared.inclusion.IncludedJob.{IncludedJob}
use Rattle.ci_machine_steps.specs.Prelude.{new_jobs, variables_from, put_needs}
use Rattle.ci_machine_pipelines.proofs.creation.all_records.Goals as goal

pub need_keys-requires-clause-within : goal.need_keys-requires-clause-within
need_keys-requires-clause-within c =
    subst (λ (ps : List (ℕ × ℕ)). AreWithin (length c.as_slice-included.result.now) ps) (sym c.as_slice.ensures.value)
    (subst (λ (n : ℕ). AreWithin n c.args.plan.now.pairs.items) (length-map c.args.plan.now.jobs.items included_view ∙ sym (ap length c.as_slice-included.ensures.value)) c.requires.within)

pub returns : goal.returns
returns c =
    let start = c.args.start.now in
    let included = c.as_slice-included.ensures.value in
    let jobs = c.in_ok-jobs.ensures ∙ ap (λ (js : List IncludedJob). new_jobs start.id start.first_job 0 (map included_view js)) included in
    let variables = c.in_ok-variables.ensures
    ∙ (ap (λ (js : List IncludedJob). variables_from (given_view c.args.given.now) (config_view c.args.config.now) start.first_job (map included_view js)) included
    ∙ ap (λ (g : Given). variables_from g (config_view c.args.config.now) start.first_job (map included_view c.args.plan.now.jobs.items)) c.requires.given) in
    let needs = c.in_ok-needs.ensures ∙ (c.in_ok-keys.ensures ∙ ap (λ (ps : List (ℕ × ℕ)). put_needs start.first_job ps []) c.as_slice.ensures.value) in
    λ i. record { pipeline = c.in_ok-pipeline.ensures i; jobs = jobs i; variables = variables i; needs = needs i }
