use Rattle.std.proofs.Common.{refl}
use Rattle.ci_machine_steps.specs.Prelude.{Answer, Event}
use Rattle.ci_server.specs.Prelude.{Holds, Leaves}
use Rattle.ci_server.proofs.Handling.{handled}
use Rattle.ci_server.proofs.fail_stop.FailStop.handle.Goals as goal

pub returns : goal.returns
returns g c =
    handled g.T.Store.honest (Holds g.T.Store.holds) (Leaves g.T.Store.leaves) Answer.Reply (Event.Request c.args.request, c.args.now, c.args.seed) c.a_step_is_answered.ensures c.sound_of_each_reached_state.ensures
    c.args.self.now _ c.handle.result (Answer.Reply c.reply_by-reply.result) c.if-self.false (c.reply_by-reply.ensures c.args.request) c.is_store_fault-self.ensures
    refl c.handle.ensures.was_honest c.handle.ensures.performed
