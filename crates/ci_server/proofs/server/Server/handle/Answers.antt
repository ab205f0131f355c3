use Rattle.std.proofs.Common.{subst}
use Rattle.ci_machine_steps.specs.Prelude.{Answer, Event}
use Rattle.ci_server.specs.Prelude.{Call, Handles}
use Rattle.ci_server.proofs.Runs.{run_of_one}
use Rattle.ci_server.proofs.SentAgain.{repeats_of_one}
use Rattle.ci_server.proofs.server.Server.handle.Goals as goal

pub returns : goal.returns
returns g c =
    let now = c.handle.new.self in
    let call : Call = (Event.Request c.args.request, c.args.moment, c.args.seed) in
    let one : Handles g.S.Store c.args.self.now call now (Answer.Reply c.handle.result) =
    subst (λ v. Handles g.S.Store v call now (Answer.Reply c.handle.result)) c.self.view_is c.handle.ensures in
    record {
      handled = one;
      run = run_of_one g.S.Store c.laws_of_each_reached_state.ensures c.a_step_is_answered.ensures c.args.self.now now call (Answer.Reply c.handle.result) one;
      repeats = repeats_of_one g.S.Store c.repeats_change_nothing.ensures.history c.args.self.now now call (Answer.Reply c.handle.result) one;
    }
