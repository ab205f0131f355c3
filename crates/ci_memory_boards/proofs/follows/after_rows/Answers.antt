use Rattle.std.proofs.Common.{List, subst, take}
use Rattle.std.proofs.lemmas.List.{take_all}
use Rattle.ci_machine_steps.specs.Prelude.{BoardRow, put_rows}
use Rattle.ci_server_lookups.proofs.Changes.{rows_more}
use Rattle.ci_memory_boards.proofs.follows.after_rows.Goals as goal

-- and after one more
pub loop-row-preserved : goal.loop-row-preserved
loop-row-preserved g c = λ k right.
    let rs = c.args.rows.now in
    let i = c.loop-row.row-index in
    subst (λ (b : List BoardRow). g.M.Follows.IsRightFor c.in_ok-memory.memory (record k { board = b })) (rows_more rs i _ k.board c.loop-row-test.true)
    (c.in_ok-memory.ensures (record k { board = put_rows (take i rs) k.board }) (c.loop-row.invariant k right))

-- these are all
pub returns : goal.returns
returns g c = λ k right.
    subst (λ (rs : List BoardRow). g.M.Follows.IsRightFor c.loop-row.memory (record k { board = put_rows rs k.board })) (take_all c.loop-row.row-index c.args.rows.now c.loop-row-test.false) (c.loop-row.invariant k right)
