-- The pending jobs by their rows.
use Rattle.std.proofs.Common.{◌≡◌, ℕ, Bool, ◌==◌, List, [], ◌∷◌, map, filter, Some, option_map, refl, sym, ap, subst, ◌∙◌, eq-eqb}
use Rattle.ci_machine_steps.specs.Prelude.{Status, is_status, Row, Job, BoardRow, State, row_for, row_or_none, status_for, AreBoard, is_pending, queued, queued_at, queue}
use Rattle.ci_machine_steps.specs.Prelude.{rows_with}
use Rattle.ci_machine.specs.Prelude.{row_at}
use Rattle.ci_machine.proofs.Keyed.{Has, find_has, has_filter, filter_same, has_map, map_has}
use Rattle.ci_machine.proofs.Tests.{has_any}
use Rattle.ci_machine_steps.proofs.Sound.{Sound}
use Rattle.ci_machine.proofs.Filters.{map_filter}
use Rattle.ci_machine_statuses.proofs.Puts.{cons_same, number, job_of, map_same, map_twice}
use Rattle.ci_machine_statuses.proofs.RowPuts.{its_row}
use Rattle.ci_machine_statuses.proofs.Joint.{board_rises}
use Rattle.ci_machine_statuses.proofs.HeldLists.{find_any}

-- ---- the row of a job

pub its_row_found : (s : State) (board : List BoardRow) (j : Job) → AreBoard s board → Has j s.jobs → (r : BoardRow) × (row_at j.id board ≡ Some r) × (r.row ≡ row_for board j.id)
its_row_found s board j are has =
    let r = map_has job_of j.id board (subst (Has j.id) (sym are.keys) (has_map number j s.jobs has)) in
    let w = find_any (λ x. x.job == j.id) board (has_any (λ x. x.job == j.id) r.0 board r.1.0 (eq-eqb r.0.job j.id r.1.1)) in
    (w.0, w.1, sym (ap row_or_none w.1))

-- ---- the queue by its rows

pub rows_queue : (s : State) (board : List BoardRow) → Sound s → AreBoard s board
    → map (λ r. queued_at s r.job) (rows_with Status.Pending board) ≡ map (λ q. Some q) (queue s board)
rows_queue s board sound are =
    let pends : ℕ → Bool = λ n. is_status (status_for board n) Status.Pending in
    let its : List Job = filter (is_pending board) s.jobs in
    ap (map (λ r. queued_at s r.job)) (filter_same (λ r. is_status r.row.status Status.Pending) (λ r. pends r.job) board
    (λ r h. ap (λ (x : Row). is_status x.status Status.Pending) (sym (its_row 0 board r (board_rises s board sound are) h))))
    ∙ (sym (map_twice (queued_at s) job_of (filter (λ r. pends r.job) board))
    ∙ (ap (map (queued_at s)) (map_filter job_of pends board ∙ (ap (filter pends) are.keys ∙ sym (map_filter number pends s.jobs)))
    ∙ (map_twice (queued_at s) number its
    ∙ (map_same (λ j. queued_at s j.id) (λ j. Some (queued s j)) its
    (λ j h. ap (option_map (queued s)) (find_has number j 0 s.jobs sound.jobs (has_filter (is_pending board) j s.jobs h).0))
    ∙ sym (map_twice (λ q. Some q) (queued s) its)))))

-- ---- lists of what is there

pub same_some : {A : Type 0} (xs ys : List A) → map (λ x. Some x) xs ≡ map (λ x. Some x) ys → xs ≡ ys
same_some [] [] e = refl
same_some [] (y ∷ ys) e = absurd (cc)
same_some (x ∷ xs) [] e = absurd (cc)
same_some (x ∷ xs) (y ∷ ys) e = cons_same (let first : x ≡ y = cc in first) (same_some xs ys (let rest : map (λ z. Some z) xs ≡ map (λ z. Some z) ys = cc in rest))
