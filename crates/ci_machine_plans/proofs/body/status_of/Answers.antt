use Rattle.std.proofs.Common.{length, sym, ap, ◌∙◌}
use Rattle.std.proofs.lemmas.List.{length-map}
use Rattle.ci_machine_steps.specs.Prelude.{pipeline_status, statuses}
use Rattle.ci_machine_plans.proofs.body.status_of.Goals as goal

pub pipeline_status-requires-clause-facts : goal.pipeline_status-requires-clause-facts
pipeline_status-requires-clause-facts c =
    c.requires.facts ∙ sym (ap length (c.as_slice.ensures.value ∙ c.in_ok-parts.ensures) ∙ length-map c.args.jobs.now (λ j. j.options.part))

pub pipeline_status-requires-clause-rows : goal.pipeline_status-requires-clause-rows
pipeline_status-requires-clause-rows c =
    c.requires.rows ∙ sym (ap length (c.as_slice.ensures.value ∙ c.in_ok-parts.ensures) ∙ length-map c.args.jobs.now (λ j. j.options.part))

pub returns : goal.returns
returns c = c.pipeline_status.ensures ∙ ap (λ parts. pipeline_status parts c.args.facts.now (statuses c.args.rows.now)) (c.as_slice.ensures.value ∙ c.in_ok-parts.ensures)
