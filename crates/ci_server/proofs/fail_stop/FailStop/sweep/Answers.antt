use Rattle.std.proofs.Common.{refl}
use Rattle.ci_machine_steps.specs.Prelude.{Answer, Event}
use Rattle.ci_server.specs.Prelude.{Holds, Leaves}
use Rattle.ci_server.proofs.Handling.{handled}
use Rattle.ci_server.proofs.fail_stop.FailStop.sweep.Goals as goal

pub returns : goal.returns
returns g c = λ seed.
    handled g.T.Store.honest (Holds g.T.Store.holds) (Leaves g.T.Store.leaves) Answer.Swept (Event.Sweep, c.args.now, seed) c.a_step_is_answered.ensures c.sound_of_each_reached_state.ensures
    c.args.self.now _ c.sweep.result (Answer.Swept c.swept_by-swept.result) c.if-self.false c.swept_by-swept.ensures c.is_swept_fault-self.ensures
    refl c.sweep.ensures.was_honest (λ h s sound held. c.sweep.ensures.performed h s sound held seed)
