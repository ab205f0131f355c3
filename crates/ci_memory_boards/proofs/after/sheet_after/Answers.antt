use Rattle.std.proofs.Common.{sym, ◌∙◌}
use Rattle.std.proofs.lemmas.Option.{IfSome_then}
use Rattle.ci_machine_steps.specs.Prelude.{Kept, put_rows, cleared, applied}
use Rattle.ci_server_lookups.proofs.Changes.{state_stays, board_stays}
use Rattle.ci_memory_boards.proofs.Stays.{right_cleared, right_same, cleared_in_order}
use Rattle.ci_memory_boards.proofs.after.sheet_after.Goals as goal

-- the rows go, then the changes are made, then the rows are put
pub returns : goal.returns
returns c =
    IfSome_then c.after_rows.result c.after_rows.ensures (λ m settled k indexes order right.
    let before : Kept = cleared c.args.gone.now k in
    let mid : Kept = record before { state = applied c.args.changes.now before.state } in
    let last : Kept = record mid { board = put_rows c.args.rows.now before.board } in
    let gone = right_cleared c.args.sheet k c.args.gone.now (sym c.has_any.ensures ∙ c.if-has_any.false) right in
    right_same m last _ (state_stays indexes last) (board_stays indexes last) (settled mid (c.in_ok-after_changes.ensures before (gone, cleared_in_order k c.args.gone.now order))).0)
