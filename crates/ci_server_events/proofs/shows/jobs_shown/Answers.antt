use Rattle.std.proofs.Common.{length, ap, ◌∙◌}
use Rattle.ci_machine_steps.specs.Shows as machine
use Rattle.ci_server_events.proofs.Found.{passed_on}
use Rattle.ci_server_events.proofs.shows.jobs_shown.Goals as goal

-- there are as many facts and rows as jobs
pub pipeline_shown-requires-clause-facts : goal.pipeline_shown-requires-clause-facts
pipeline_shown-requires-clause-facts c = ap length c.as_slice.ensures.value ∙ c.in_ok-found.ensures.long.0

pub pipeline_shown-requires-clause-rows : goal.pipeline_shown-requires-clause-rows
pipeline_shown-requires-clause-rows c = ap length c.as_slice-2.ensures.value ∙ c.in_ok-found.ensures.long.1

-- what was found is the pipeline's
pub returns-clause-shown : goal.returns-clause-shown
returns-clause-shown c = λ k number needs kept are.
    let facts = c.as_slice.ensures.value ∙ c.in_ok-found.ensures.facts k.state k.board number needs kept.sound kept.are_board are in
    let rows = c.as_slice-2.ensures.value ∙ c.in_ok-found.ensures.rows k.state k.board number needs kept.sound kept.are_board are in
    record {
      made = c.unchanged.ensures.plan ∙ (c.in_ok-plan.ensures ∙ (λ i. machine.pipeline_shown c.args.pipeline.now c.args.claims.now c.args.jobs.now (facts i) (rows i)));
      settled = c.unchanged.ensures.settled k kept;
    }

-- where nothing was found, what was looked up is none of a kept state, or memory was refused
pub returns-in_err-found-clause-fault : goal.returns-in_err-found-clause-fault
returns-in_err-found-clause-fault c =
    passed_on c.from_residual.result c.in_err-found.field-0.0 _ c.from_residual.ensures.1
    (λ k number needs kept are. c.in_err-found.ensures.fault k.state k.board number needs kept.sound kept.are_board are)
