use Rattle.ci_server.proofs.Handling.{handled_as}
use Rattle.ci_server.proofs.fail_stop.FailStop.handle_copy.Goals as goal

pub returns-in-Ok : goal.returns-in-Ok
returns-in-Ok g c = handled_as c.args.call.now c.in-Ok.event c.in-Ok.ensures.cases c.handle_event.ensures
