use Rattle.std.proofs.Common.{◌≡◌}
use Rattle.ci_machine_steps.specs.Prelude.{variable_at}
use Rattle.ci_machine_steps.specs.Variables as machine
use Rattle.ci_server_events.proofs.Asking.{project_asked}
use Rattle.ci_server_events.proofs.variables.delete_variable.Goals as goal

pub returns-in-Ok : goal.returns-in-Ok
returns-in-Ok g c =
    let query = c.args.query.now in
    project_asked (λ k q plan. plan ≡ machine.delete_variable q (variable_at k.state query.project query.key)) query.token query.project c.in_ok-project.was c.project_with.ensures c.asked.ensures c.in-Ok.is c.delete_from.ensures
