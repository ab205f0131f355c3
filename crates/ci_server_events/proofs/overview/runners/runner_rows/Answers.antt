use Rattle.std.proofs.Common.{refl, ap, ◌∙◌}
use Rattle.ci_machine_steps.specs.Prelude.{runner_row}
use Rattle.ci_server_events.proofs.Further.{pushed_further}
use Rattle.ci_server_lookups.proofs.Loading.{both_yield}
use Rattle.ci_server_events.proofs.overview.runners.runner_rows.Goals as goal

-- the next runner is told behind those before it
pub loop-runner-preserved : goal.loop-runner-preserved
loop-runner-preserved g c =
    both_yield refl c.in_ok-one.was c.loop-runner.invariant c.row_of.ensures
    (λ k before one. (
      before.0,
      pushed_further (runner_row k.state) _ c.runner-item.result _ c.loop-runner-test.true c.in_ok-push.ensures.items
          (one (c.as_slice.ensures.value ∙ before.0) ∙ ap (runner_row k.state) c.runner-item.is) before.1,
    ))
