use Rattle.std.proofs.Common.{◌≡◌, Result, sym, subst}
use Rattle.ci_machine_steps.specs.Prelude.{Pipeline, Code, claims_in, jobs_of, facts_of, rows_of}
use Rattle.ci_machine_steps.specs.Shows as machine
use Rattle.ci_server_lookups.proofs.Loading.{continues, joined}
use Rattle.ci_server_events.specs.Planning.{PlansFor}
use Rattle.ci_server_events.proofs.Asking.{lent, pipeline_asked}
use Rattle.ci_server_events.proofs.shows.show_pipeline.Goals as goal

-- the pipeline is one of the project's, and is shown
pub returns-in-Ok : goal.returns-in-Ok
returns-in-Ok g c =
    let query = c.args.query.now in
    let n = query.pipeline in
    continues c.in_ok-project.was c.project_with.ensures (joined c.in_ok-pipeline.was c.pipeline.ensures c.pipeline_shown.ensures)
    (λ k y is project more kept.
    subst (λ (found : Result Pipeline Code). PlansFor k ((y.answer, y.changes) ≡ machine.show_pipeline found (claims_in k.state k.board n) (jobs_of k.state n) (facts_of k.state n) (rows_of k.state k.board n)) y)
    (sym (pipeline_asked k.state query.token query.project n project more.0 (lent c.asked_pipeline.ensures c.in-Ok.is))) (more.1 kept))
