use Rattle.std.specs.Option.{option_copied}
use Rattle.ci_server_events.proofs.Leaving.{leaves_so, runner_leaves}
use Rattle.ci_server_events.proofs.runners.add_runner.Goals as goal

pub of_records-requires : goal.of_records-requires
of_records-requires g c = λ s. leaves_so s _ _ c.in_ok-plan.ensures (runner_leaves s c.in_ok-next.next (option_copied c.as_ref.result) c.args.new c.args.seed)
