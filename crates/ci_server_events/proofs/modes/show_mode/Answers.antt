use Rattle.std.proofs.Common.{◌≡◌}
use Rattle.ci_machine_steps.specs.Prelude.{order_of}
use Rattle.ci_machine_steps.specs.Modes as machine
use Rattle.ci_server_events.proofs.Asking.{project_asked}
use Rattle.ci_server_events.proofs.modes.show_mode.Goals as goal

pub returns-in-Ok : goal.returns-in-Ok
returns-in-Ok g c =
    let query = c.args.query.now in
    project_asked (λ k q plan. plan ≡ machine.show_mode q (order_of k.state.modes query.project query.group) query.group) query.token query.project c.in_ok-project.was c.project_with.ensures c.asked.ensures c.in-Ok.is c.mode_shown.ensures
