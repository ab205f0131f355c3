use Rattle.std.proofs.Common.{◌≡◌, ◌++◌, drop, map, Ok}
use Rattle.ci_machine_steps.specs.Prelude.{live_attempts, runner_row, runner_rows}
use Rattle.ci_store.specs.Prelude.{LoadsBy}
use Rattle.ci_server_events.proofs.overview.runners.runner_rows.Given as goal

-- the runners that are told, with those that are left, are all
abbrev pub invariant-loop-runner : goal.invariant-loop-runner
invariant-loop-runner g l =
    LoadsBy {A = Unit {0}} g.T.Store.honest g.T.Store.holds g.T.Store.leaves l.fn.store l.store (Ok tt)
    (λ k _. (l.live.items ≡ live_attempts k.state) × (l.told.items ++ map (runner_row k.state) (drop l.runner-index l.runner-items) ≡ runner_rows k.state))
