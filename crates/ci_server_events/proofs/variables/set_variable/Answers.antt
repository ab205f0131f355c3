use Rattle.std.proofs.Common.{◌≡◌}
use Rattle.ci_machine_steps.specs.Prelude.{project_variables}
use Rattle.ci_machine_steps.specs.Variables as machine
use Rattle.ci_server_events.proofs.Asking.{project_asked}
use Rattle.ci_server_events.proofs.variables.set_variable.Goals as goal

pub returns-in-Ok : goal.returns-in-Ok
returns-in-Ok g c =
    let new = c.args.new in
    project_asked (λ k q plan. plan ≡ machine.set_variable q (project_variables k.state new.project) new) new.token new.project c.in_ok-project.was c.project_with.ensures c.asked.ensures c.in-Ok.is c.set_in.ensures
