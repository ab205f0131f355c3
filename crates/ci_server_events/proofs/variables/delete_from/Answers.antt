use Rattle.std.specs.Prelude.{option_copied, Ok}
use Rattle.ci_server_events.proofs.Leaving.{leaves_so, deletion_leaves}
use Rattle.ci_server_events.proofs.variables.delete_from.Goals as goal

pub of_records-requires : goal.of_records-requires
of_records-requires g c = λ s. leaves_so s _ _ c.in_ok-plan.ensures (deletion_leaves s (Ok c.args.project.now) (option_copied c.as_ref.result))
