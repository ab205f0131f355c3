use Rattle.std.proofs.Common.{Result, subst, sym}
use Rattle.ci_machine_steps.specs.Prelude.{Pipeline, Code, CancelsPipeline}
use Rattle.ci_server_events.specs.Planning.{PlansFor}
use Rattle.ci_server_lookups.proofs.Loading.{continues, joined, both_yield}
use Rattle.ci_server_events.proofs.Acting.{pipeline_has}
use Rattle.ci_server_events.proofs.Asking.{lent, unlent, pipeline_asked}
use Rattle.ci_server_events.proofs.acts.cancel_pipeline.Goals as goal

-- the pipeline is one of the project's
pub returns-in-Ok : goal.returns-in-Ok
returns-in-Ok g c =
    let query = c.args.query.now in
    continues c.in_ok-project.was c.project_with.ensures (joined c.in_ok-pipeline.was c.pipeline.ensures c.cancel_found.ensures)
    (λ k y is project more kept.
    let found = pipeline_asked k.state query.token query.project query.pipeline project more.0 (lent c.asked_pipeline.ensures c.in-Ok.is) in
    subst (λ (w : Result Pipeline Code). PlansFor k (CancelsPipeline k.state k.board w (y.answer, y.changes)) y) (sym found) (more.1 kept (pipeline_has k.state query c.in-Ok.found.now found)))

-- the query names none
pub returns : goal.returns
returns g c =
    let query = c.args.query.now in
    let made = c.refused in
    both_yield c.in_ok-project.was c.in_ok-pipeline.was c.project_with.ensures c.pipeline.ensures
    (λ k project pipeline kept.
    let found = pipeline_asked k.state query.token query.project query.pipeline project pipeline (unlent c.asked_pipeline.ensures c.in-Err.is) in
    record {
      made = subst (λ (w : Result Pipeline Code). CancelsPipeline k.state k.board w (made.result.answer, made.result.changes)) (sym found) made.ensures.plan;
      settled = made.ensures.settled k kept;
    })
