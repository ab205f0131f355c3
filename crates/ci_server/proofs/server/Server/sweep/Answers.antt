use Rattle.std.proofs.Common.{subst}
use Rattle.ci_machine_steps.specs.Prelude.{Answer, Swept, Event, Seed}
use Rattle.ci_server.specs.Prelude.{Handles}
use Rattle.ci_server.proofs.Due.{finds_nothing_due}
use Rattle.ci_server.proofs.Runs.{run_of_one}
use Rattle.ci_server.proofs.server.Server.sweep.Goals as goal

pub returns : goal.returns
returns g c =
    let now = c.sweep.new.self in
    let one : (seed : Seed) → Handles g.S.Store c.args.self.now (Event.Sweep, c.args.moment, seed) now (Answer.Swept c.sweep.result) =
    λ seed. subst (λ v. Handles g.S.Store v (Event.Sweep, c.args.moment, seed) now (Answer.Swept c.sweep.result)) c.self.view_is (c.sweep.ensures seed) in
    record {
      swept = one;
      run = λ seed. run_of_one g.S.Store c.laws_of_each_reached_state.ensures c.a_step_is_answered.ensures c.args.self.now now (Event.Sweep, c.args.moment, seed) (Answer.Swept c.sweep.result) (one seed);
      nothing = λ found. finds_nothing_due g.S.Store c.args.moment c.what_is_due_ends.ensures.none_left c.args.self.now now
          (subst (λ (did : Swept). (seed : Seed) → Handles g.S.Store c.args.self.now (Event.Sweep, c.args.moment, seed) now (Answer.Swept did)) found one);
    }
