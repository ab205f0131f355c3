use Rattle.std.proofs.Common.{rules}
use Rattle.ci_machine_steps.specs.Prelude.{Event}
use Rattle.ci_server.proofs.Handling.{handled_as}
use Rattle.ci_server.proofs.fail_stop.FailStop.handle_event.Goals as goal

pub returns-in-Request : goal.returns-in-Request
returns-in-Request g c = handled_as (c.args.event, c.args.moment, c.args.seed) _ (search rules) c.handle.ensures

pub returns-in-Sweep : goal.returns-in-Sweep
returns-in-Sweep g c = handled_as (c.args.event, c.args.moment, c.args.seed) Event.Sweep (search rules) (c.sweep.ensures c.args.seed)
