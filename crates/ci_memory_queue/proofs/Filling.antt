-- The jobs with a status, as they are noted to begin with.
use Rattle.std.proofs.Common.{◌≡◌, ℕ, ◌≤◌, true, ◌==◌, List, ◌++◌, map, Contains, Option, Some, None, refl, sym, subst, inl, eqb-true}
use Rattle.std.proofs.lemmas.Bool.{false≢true}
use Rattle.ci_machine_steps.specs.Prelude.{Status, Pending, is_status, BoardRow, rows_with, State, row_or_none}
use Rattle.ci_store.specs.Prelude.{row_at}
use Rattle.ci_machine.proofs.Keyed.{Has, has_find, has_map, filter_has, contains_from_has}
use Rattle.ci_machine_steps.proofs.Behind.{has_right}
use Rattle.ci_memory_queue.specs.declared.queue.Class.{Class}
use Rattle.ci_memory_queue.specs.Covers.{is_pending_at, Covers}
use Rattle.ci_memory_queue.specs.Notes.{Noted}

abbrev by_job : BoardRow → ℕ
by_job r = r.job

-- a job whose row has a status is one of those with this status
pub has_with : (board : List BoardRow) (n : ℕ) (st : Status) (r : BoardRow) → row_at n board ≡ Some r → is_status r.row.status st ≡ true → Has n (map by_job (rows_with st board))
has_with board n st r at e =
    let found = has_find (λ (x : BoardRow). x.job == n) r board at in
    subst (λ m. Has m (map by_job (rows_with st board))) (eqb-true r.job n found.1) (has_map by_job r (rows_with st board) (filter_has (λ (x : BoardRow). is_status x.row.status st) r board found.0 e))

pending_has : (board : List BoardRow) (n : ℕ) → is_pending_at board n ≡ true → Has n (map by_job (rows_with Pending board))
pending_has board n = of (row_at n board) refl
  where
    of : (o : Option BoardRow) → row_at n board ≡ o → is_status (row_or_none o).status Pending ≡ true → Has n (map by_job (rows_with Pending board))
    of None at e = absurd (false≢true e)
    of (Some r) at e = has_with board n Pending r at e

-- those that are pending are all that are pending
pub pending_noted : (s : State) (board : List BoardRow) (classes : List Class) (none jobs : List ℕ) (q : Noted) → jobs ≡ none ++ map by_job (rows_with Pending board)
    → q.fresh ≡ jobs → ((n : ℕ) → Contains jobs n → n ≤ q.newest) → Covers classes q s board
pending_noted s board classes none jobs q all fresh least = λ n pending.
    let noted = contains_from_has n jobs (subst (Has n) (sym all) (has_right n none (map by_job (rows_with Pending board)) (pending_has board n pending))) in
    (least n noted, inl (subst (λ (l : List ℕ). Contains l n) (sym fresh) noted))
