use Rattle.std.proofs.Common.{subst, take, List}
use Rattle.std.proofs.lemmas.List.{take_all}
use Rattle.ci_machine_steps.specs.Prelude.{State, applied, RowChange}
use Rattle.ci_server_lookups.proofs.Changes.{changed_more}
use Rattle.ci_memory.specs.Alone.{Accounts}
use Rattle.ci_memory.proofs.pipelines.after.after_changes.Goals as goal

pub loop-change-preserved : goal.loop-change-preserved
loop-change-preserved c = λ k before.
    let changes = c.args.changes.now in
    let i = c.loop-change.change-index in
    let mid = record k { state = applied (take i changes) k.state } in
    subst (λ (s : State). Accounts c.in_ok-known.known (record k { state = s })) (changed_more changes i c.change-item.result k.state c.loop-change-test.true c.change-item.is)
    (c.in_ok-known.ensures mid (c.loop-change.invariant k before))

pub returns : goal.returns
returns c = λ k before.
    subst (λ (l : List RowChange). Accounts c.loop-change.known (record k { state = applied l k.state })) (take_all c.loop-change.change-index c.args.changes.now c.loop-change-test.false)
    (c.loop-change.invariant k before)
