use Rattle.std.proofs.Common.{◌≡◌, ◌++◌, drop, map, Ok}
use Rattle.ci_machine_steps.specs.Prelude.{with_status, listed_pipelines}
use Rattle.ci_store.specs.Prelude.{LoadsBy}
use Rattle.ci_server_lookups.specs.Prelude.{IsKept}
use Rattle.ci_server_events.proofs.reads_pipelines.listed_pipelines.Given as goal

-- the pipelines that are told, with those that are left, are all that are listed
abbrev pub invariant-loop-pipeline : goal.invariant-loop-pipeline
invariant-loop-pipeline g l =
    LoadsBy {A = Unit {0}} g.T.Store.honest g.T.Store.holds g.T.Store.leaves l.fn.store l.store (Ok tt)
    (λ k _. IsKept k → l.listed.items ++ map (with_status k.state k.board) (drop l.pipeline-index l.pipeline-items) ≡ map (with_status k.state k.board) (listed_pipelines k.state l.project))
