use Rattle.std.specs.Prelude.{Ok}
use Rattle.ci_server_events.proofs.Leaving.{leaves_so, variable_leaves}
use Rattle.ci_server_events.proofs.variables.set_in.Goals as goal

pub of_records-requires : goal.of_records-requires
of_records-requires g c = λ s. leaves_so s _ _ c.in_ok-plan.ensures (variable_leaves s (Ok c.args.project.now) c.as_slice.result.now c.args.new)
