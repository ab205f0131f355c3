use Rattle.std.proofs.Common.{◌≡◌, List, length, ap, ◌∙◌}
use Rattle.serde_json.specs.Data.{array}
use Rattle.serde_json.specs.View.{items_of}
use Rattle.ci_machine_steps.specs.Prelude.{told_jobs, facts_of, rows_of, json}
use Rattle.ci_server_events.proofs.Found.{passed_on}
use Rattle.ci_server_events.proofs.reads_jobs.told.Goals as goal

-- there are as many facts and rows as jobs
pub jobs-requires-clause-facts : goal.jobs-requires-clause-facts
jobs-requires-clause-facts c = ap length c.as_slice.ensures.value ∙ c.in_ok-found.ensures.long.0

pub jobs-requires-clause-rows : goal.jobs-requires-clause-rows
jobs-requires-clause-rows c = ap length c.as_slice-2.ensures.value ∙ c.in_ok-found.ensures.long.1

-- what was found is the pipeline's
pub returns-clause-told : goal.returns-clause-told
returns-clause-told c = λ k number kept are.
    let a = c.args.around.now in
    let facts : c.as_slice.result.now ≡ facts_of k.state number = c.as_slice.ensures.value ∙ c.in_ok-found.ensures.facts k.state k.board number a.needs.now kept.sound kept.are_board are in
    let rows : c.as_slice-2.result.now ≡ rows_of k.state k.board number = c.as_slice-2.ensures.value ∙ c.in_ok-found.ensures.rows k.state k.board number a.needs.now kept.sound kept.are_board are in
    c.in_ok-body.ensures
    ∙ ap (λ (ds : List _). json (array (items_of ds))) (λ i. told_jobs a.claims.now a.project a.runners.now a.needs.now a.attempts.now c.args.jobs.now (facts i) (rows i))

-- where nothing was found, what was looked up is none of a kept state, or memory was refused
pub returns-in_err-found-clause-fault : goal.returns-in_err-found-clause-fault
returns-in_err-found-clause-fault c =
    passed_on c.from_residual.result c.in_err-found.field-0.0 _ c.from_residual.ensures.1
    (λ k number kept are. c.in_err-found.ensures.fault k.state k.board number c.args.around.now.needs.now kept.sound kept.are_board are)
