use Rattle.std.proofs.Common.{◌≡◌, length, ap, ◌∙◌}
use Rattle.ci_machine_steps.specs.Prelude.{status_of_jobs, facts_of, rows_of}
use Rattle.ci_server_events.proofs.Found.{passed_on}
use Rattle.ci_server_events.proofs.reads_pipelines.status_by.Goals as goal

-- there are as many facts and rows as jobs
pub status_of-requires-clause-facts : goal.status_of-requires-clause-facts
status_of-requires-clause-facts c = ap length c.as_slice.ensures.value ∙ c.in_ok-found.ensures.long.0

pub status_of-requires-clause-rows : goal.status_of-requires-clause-rows
status_of-requires-clause-rows c = ap length c.as_slice-2.ensures.value ∙ c.in_ok-found.ensures.long.1

-- what was found is the pipeline's
pub returns-clause-status : goal.returns-clause-status
returns-clause-status c = λ k number needs kept are.
    let facts : c.as_slice.result.now ≡ facts_of k.state number = c.as_slice.ensures.value ∙ c.in_ok-found.ensures.facts k.state k.board number needs kept.sound kept.are_board are in
    let rows : c.as_slice-2.result.now ≡ rows_of k.state k.board number = c.as_slice-2.ensures.value ∙ c.in_ok-found.ensures.rows k.state k.board number needs kept.sound kept.are_board are in
    c.in_ok-status.ensures ∙ (λ i. status_of_jobs c.args.jobs.now (facts i) (rows i))

-- where nothing was found, what was looked up is none of a kept state, or memory was refused
pub returns-in_err-found-clause-fault : goal.returns-in_err-found-clause-fault
returns-in_err-found-clause-fault c =
    passed_on c.from_residual.result c.in_err-found.field-0.0 _ c.from_residual.ensures.1
    (λ k number needs kept are. c.in_err-found.ensures.fault k.state k.board number needs kept.sound kept.are_board are)
