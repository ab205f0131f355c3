use Rattle.std.proofs.Common.{List, subst, take}
use Rattle.std.proofs.lemmas.List.{take_all}
use Rattle.ci_machine_steps.specs.Prelude.{RowChange, State, applied}
use Rattle.ci_server_lookups.proofs.Changes.{changed_more}
use Rattle.ci_memory_boards.proofs.follows.after_changes.Goals as goal

-- and after one more
pub loop-change-preserved : goal.loop-change-preserved
loop-change-preserved g c = λ k right.
    let cs = c.args.changes.now in
    let i = c.loop-change.change-index in
    subst (λ (s : State). g.M.Follows.IsRightFor c.in_ok-memory.memory (record k { state = s })) (changed_more cs i c.change-item.result k.state c.loop-change-test.true c.change-item.is)
    (c.in_ok-memory.ensures (record k { state = applied (take i cs) k.state }) (c.loop-change.invariant k right))

-- these are all
pub returns : goal.returns
returns g c = λ k right.
    subst (λ (cs : List RowChange). g.M.Follows.IsRightFor c.loop-change.memory (record k { state = applied cs k.state })) (take_all c.loop-change.change-index c.args.changes.now c.loop-change-test.false) (c.loop-change.invariant k right)
