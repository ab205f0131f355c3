use Rattle.std.proofs.lemmas.Option.{IfSome_then}
use Rattle.ci_machine_steps.specs.Prelude.{Kept, put_rows, cleared, applied}
use Rattle.ci_server_lookups.proofs.Changes.{state_stays, board_stays}
use Rattle.ci_memory_boards.proofs.FreshStays.{fresh_cleared, fresh_same}
use Rattle.ci_memory_boards.proofs.fresh.Fresh.after.Goals as goal

pub returns : goal.returns
returns c =
    IfSome_then c.after_rows.result c.after_rows.ensures (λ f then k indexes gone is.
    let before : Kept = cleared gone k in
    let mid : Kept = record before { state = applied c.args.changes.now before.state } in
    let last : Kept = record mid { board = put_rows c.args.rows.now before.board } in
    fresh_same f last _ (state_stays indexes last) (board_stays indexes last) (then mid (c.in_ok-after_changes.ensures before (fresh_cleared c.args.self gone k is))))
