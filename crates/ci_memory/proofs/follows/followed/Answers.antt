use Rattle.std.proofs.Common.{take, subst, List}
use Rattle.std.proofs.lemmas.List.{take_all}
use Rattle.ci_machine_steps.specs.Prelude.{RowChange, applied}
use Rattle.ci_server_lookups.proofs.Changes.{changed_more}
use Rattle.ci_memory.proofs.follows.followed.Goals as goal

pub loop-change-preserved : goal.loop-change-preserved
loop-change-preserved g c s right =
    let cs = c.args.changes.now in
    let i = c.loop-change.change-index in
    subst (g.M.Follows.IsRightOf c.change.new.self) (changed_more cs i c.change-item.result s c.loop-change-test.true c.change-item.is) (c.change.ensures (applied (take i cs) s) (c.loop-change.invariant s right))

pub returns : goal.returns
returns g c s right = subst (λ (cs : List RowChange). g.M.Follows.IsRightOf c.loop-change.memory (applied cs s)) (take_all c.loop-change.change-index c.args.changes.now c.loop-change-test.false) (c.loop-change.invariant s right)
