use Rattle.std.proofs.Common.{◌≡◌}
use Rattle.ci_machine_steps.specs.Reads as machine
use Rattle.ci_server_events.proofs.Asking.{project_asked}
use Rattle.ci_server_events.proofs.reads.read.Goals as goal

pub returns-in-Ok : goal.returns-in-Ok
returns-in-Ok g c =
    let query = c.args.query.now in
    project_asked (λ k q plan. plan ≡ machine.read k.state k.board q query.subject) query.token query.project c.in_ok-project.was c.project_with.ensures c.asked.ensures c.in-Ok.is c.read_of.ensures
