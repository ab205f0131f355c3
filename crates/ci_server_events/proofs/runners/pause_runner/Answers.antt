use Rattle.ci_server_events.proofs.Leaving.{leaves_so, pause_leaves}
use Rattle.ci_server_events.proofs.runners.pause_runner.Goals as goal

pub of_records-requires : goal.of_records-requires
of_records-requires g c = λ s. leaves_so s _ _ c.in_ok-plan.ensures (pause_leaves s _ _)
