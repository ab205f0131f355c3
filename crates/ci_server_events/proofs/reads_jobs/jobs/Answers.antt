use Rattle.std.proofs.Common.{Option, sym, ap, ◌∙◌}
use Rattle.ci_machine_steps.specs.Prelude.{Pipeline, Code, jobs_read, pipeline_within}
use Rattle.ci_server_lookups.proofs.Loading.{both_yield}
use Rattle.ci_server_events.proofs.Asking.{lent}
use Rattle.ci_server_events.proofs.Telling.{ok_alike}
use Rattle.ci_server_events.proofs.reads_jobs.jobs.Goals as goal

-- the pipeline is one of the project's, and its jobs are told
pub returns-in-Ok : goal.returns-in-Ok
returns-in-Ok g c =
    both_yield c.in_ok-pipeline.was c.in_ok-body-in-Ok.was c.pipeline.ensures c.pipeline_jobs.ensures
    (λ k at told kept.
    let project = c.args.project.now.id in
    let found = ap (λ (o : Option Pipeline). pipeline_within o project) (sym at) ∙ lent c.within.ensures c.in-Ok.is in
    ok_alike {E = Code} _ _ (told kept) ∙ ap (jobs_read k.state k.board project) (sym found))
