use Rattle.std.proofs.Common.{refl, ap, ◌∙◌}
use Rattle.ci_machine_steps.specs.Prelude.{with_status}
use Rattle.ci_server_events.proofs.Further.{pushed_further}
use Rattle.ci_server_lookups.proofs.Loading.{both_yield}
use Rattle.ci_server_events.proofs.reads_pipelines.listed_pipelines.Goals as goal

-- the next pipeline is told behind those before it
pub loop-pipeline-preserved : goal.loop-pipeline-preserved
loop-pipeline-preserved g c =
    both_yield refl c.in_ok-one.was c.loop-pipeline.invariant c.with_status.ensures
    (λ k before one kept. pushed_further (with_status k.state k.board) _ c.pipeline-item.result _ c.loop-pipeline-test.true c.in_ok-push.ensures.items (one kept ∙ ap (with_status k.state k.board) c.pipeline-item.is) (before kept))
