use Rattle.std.proofs.Common.{◌++◌, ◌∷◌, [], take, List, arith, sym, subst₂, ap, ◌∙◌}
use Rattle.std.proofs.lemmas.List.{take_more}
use Rattle.ci_machine_steps.specs.Prelude.{Answer}
use Rattle.ci_server.specs.Prelude.{Call, Holds, Leaves, HandlesEachBy}
use Rattle.ci_server.proofs.Runs.{each_more}
use Rattle.ci_server.proofs.fail_stop.FailStop.run.Goals as goal

pub loop-call-preserved : goal.loop-call-preserved
loop-call-preserved g c =
    let honest = g.T.Store.honest in
    let holds = Holds g.T.Store.holds in
    let leaves = Leaves g.T.Store.leaves in
    let call = c.call-item.result in
    let one = c.handle_copy-answer in
    let calls = take_more c.args.calls.now c.loop-call.call-index call c.loop-call-test.true
    ∙ ap (λ (x : Call). take c.loop-call.call-index c.args.calls.now ++ x ∷ []) (sym c.call-item.is) in
    record {
      was_honest = λ h. c.loop-call.invariant.was_honest (one.ensures.was_honest h);
      each = subst₂ (λ (cs : List Call) (answers : List Answer). HandlesEachBy honest holds leaves c.args.self.now cs answers one.new.self) (sym {A = List Call} calls) (sym {A = List Answer} c.push_within_capacity.ensures.items)
          (each_more honest holds leaves c.args.self.now c.loop-call.self one.new.self (take c.loop-call.call-index c.args.calls.now) c.loop-call.answers.items call one.result c.loop-call.invariant.each one.ensures);
      count = omega arith;
      room = omega arith;
    }
