-- The pending jobs, told row by row.
use Rattle.std.proofs.Common.{◌≡◌, List, [], ◌∷◌, map, Some, option_map, refl, ap, ◌∙◌}
use Rattle.ci_machine_steps.specs.Prelude.{Status, BoardRow, QueuedJob, QueueRow, queue, queue_row, queue_rows, queued_at, rows_with, State, Kept, AreBoard, IsSound, groups_in}
use Rattle.ci_server_lookups.specs.Prelude.{IsKept}
use Rattle.ci_machine_statuses.proofs.PendingRows.{same_some}
use Rattle.ci_server_events.specs.Told.{row_told}

-- what the queue is by its rows
abbrev pub ByRows : Type 0
ByRows = (s : State) (board : List BoardRow) → IsSound s → AreBoard s board → map (λ r. queued_at s r.job) (rows_with Status.Pending board) ≡ map (λ q. Some q) (queue s board)

told_as : (s : State) (board : List BoardRow) (rows : List BoardRow) (jobs : List QueuedJob) → map (λ r. queued_at s r.job) rows ≡ map (λ q. Some q) jobs
    → map (row_told s board) rows ≡ map (λ x. Some x) (map (queue_row (groups_in s board)) jobs)
told_as s board [] [] e = refl
told_as s board [] (q ∷ qs) e = absurd (cc)
told_as s board (r ∷ rows) [] e = absurd (cc)
told_as s board (r ∷ rows) (q ∷ qs) e =
    let its : queued_at s r.job ≡ Some q = cc in
    let rest : map (λ (x : BoardRow). queued_at s x.job) rows ≡ map (λ (w : QueuedJob). Some w) qs = cc in
    λ i. option_map (queue_row (groups_in s board)) (its i) ∷ told_as s board rows qs rest i

-- where each pending row was told, all pending jobs are
pub all_told : ByRows → (k : Kept) (rows : List BoardRow) (told : List QueueRow) → IsKept k → rows ≡ rows_with Status.Pending k.board
    → map (λ x. Some x) told ≡ map (row_told k.state k.board) rows → told ≡ queue_rows k.state k.board
all_told law k rows told kept found so =
    same_some told (queue_rows k.state k.board)
    (so ∙ told_as k.state k.board rows (queue k.state k.board) (ap (map (λ r. queued_at k.state r.job)) found ∙ law k.state k.board kept.sound kept.are_board))
