use Rattle.std.proofs.Common.{IfOk, subst}
use Rattle.ci_store.specs.Prelude.{Held}
use Rattle.ci_memory.specs.declared.remembering.Remembering.{Remembering}
use Rattle.ci_server.specs.Prelude.{HoldsIn, LeavesIn, IsHonest, HandlesEach}
use Rattle.ci_server.proofs.Runs.{run_of_each, closes_each, refuses_each, ok_then}
use Rattle.ci_server.proofs.SentAgain.{repeats_of_each}
use Rattle.ci_server.proofs.server.Server.run.Goals as goal

pub returns-clause-each : goal.returns-clause-each
returns-clause-each g c =
    subst (λ v. IfOk c.run.result (λ answers. HandlesEach g.S.Store v c.args.calls.now answers.items c.run.new.self)) c.self.view_is c.run.ensures.each

pub returns-clause-run : goal.returns-clause-run
returns-clause-run g c =
    ok_then c.run.result
    (λ answers each. run_of_each g.S.Store c.laws_of_each_reached_state.ensures c.a_step_is_answered.ensures c.args.self.now c.run.new.self c.args.calls.now answers.items each)
    (returns-clause-each g c)

pub returns-clause-repeats : goal.returns-clause-repeats
returns-clause-repeats g c =
    ok_then c.run.result
    (λ answers runs. repeats_of_each g.S.Store c.repeats_change_nothing.ensures.history c.args.self.now c.run.new.self c.args.calls.now answers.items runs)
    (returns-clause-run g c)

pub returns-clause-closes : goal.returns-clause-closes
returns-clause-closes g c =
    ok_then c.run.result
    (λ answers each. closes_each (IsHonest g.S.Store) (λ (t : Remembering (Held _)) u. HoldsIn g.S.Store u t) (λ (t : Remembering (Held _)) u v. LeavesIn g.S.Store u v t) c.args.self.now c.run.new.self c.args.calls.now answers.items each)
    (returns-clause-each g c)

pub returns-clause-refused : goal.returns-clause-refused
returns-clause-refused g c = λ shut.
    ok_then c.run.result
    (λ answers each. (refuses_each (IsHonest g.S.Store) (λ (t : Remembering (Held _)) u. HoldsIn g.S.Store u t) (λ (t : Remembering (Held _)) u v. LeavesIn g.S.Store u v t) c.args.self.now c.run.new.self c.args.calls.now answers.items each shut).0)
    (returns-clause-each g c)

pub returns-clause-untouched : goal.returns-clause-untouched
returns-clause-untouched g c = λ shut.
    ok_then c.run.result
    (λ answers each. (refuses_each (IsHonest g.S.Store) (λ (t : Remembering (Held _)) u. HoldsIn g.S.Store u t) (λ (t : Remembering (Held _)) u v. LeavesIn g.S.Store u v t) c.args.self.now c.run.new.self c.args.calls.now answers.items each shut).1)
    (returns-clause-each g c)
