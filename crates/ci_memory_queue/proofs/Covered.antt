-- The jobs that wait, as they are noted, sorted into lines, and found there.
use Rattle.std.proofs.Common.{◌≡◌, ℕ, ◌≤◌, Bool, true, List, [], ◌++◌, map, Contains, Option, Some, None, refl, sym, subst, ◌∙◌, inl, inr, ⊎_elim, arith}
use Rattle.std.proofs.lemmas.Bool.{or_cases, false≢true}
use Rattle.std.proofs.lemmas.Option.{IfSome_then, same_Some}
use Rattle.ci_machine_steps.specs.Prelude.{Created, Pending, is_status, BoardRow, GroupOrder, OldestFirst, NewestReadyFirst, Kept, rows_with, State, waiting}
use Rattle.ci_store.specs.Prelude.{row_at}
use Rattle.ci_machine.proofs.Keyed.{Has, contains_from_has}
use Rattle.ci_machine_steps.proofs.Behind.{has_left, has_right}
use Rattle.ci_server_lookups.specs.Prelude.{IsKept, IsTurn}
use Rattle.ci_memory_queue.specs.declared.lines.Line.{Line}
use Rattle.ci_memory_queue.specs.declared.lines.Place.{Place}
use Rattle.ci_memory_queue.specs.Places.{counts, counts_at}
use Rattle.ci_memory_queue.specs.LineCovers.{line_of, IsInLine, IsInTurn, jobs_of, IsSorted, Covers, KeepsWaiting}
use Rattle.ci_memory_queue.specs.First.{IsInGroup, IsFirst}
use Rattle.ci_memory_queue.specs.Notes.{Noted}
use Rattle.ci_memory_queue.proofs.Filling.{has_with}
use Rattle.ci_memory_queue.proofs.LineTurns.{counts_all, is_turn}
use Rattle.ci_memory_queue.proofs.Sorts.{all_sorted}

-- ---- noted to begin with

abbrev by_job : BoardRow → ℕ
by_job r = r.job

-- a job that waits is one of those that are created or of those that are pending
waits_among : (board : List BoardRow) (n : ℕ) (jobs : List ℕ) → (Has n (map by_job (rows_with Created board)) → Has n jobs) → (Has n (map by_job (rows_with Pending board)) → Has n jobs) → counts_at OldestFirst board n ≡ true → Has n jobs
waits_among board n jobs created pending waits = of (row_at n board) refl waits
  where
    of : (o : Option BoardRow) → row_at n board ≡ o → counts OldestFirst o ≡ true → Has n jobs
    of None at e = absurd (false≢true e)
    of (Some r) at e =
        ⊎_elim (λ c. created (has_with board n Created r at c)) (λ p. pending (has_with board n Pending r at p)) (or_cases (is_status r.row.status Created) (is_status r.row.status Pending) e)

-- all jobs that are created, and then those that are pending, are all that wait
pub all_noted : (s : State) (board : List BoardRow) (lines : List Line) (none jobs more : List ℕ) (q : Noted) → jobs ≡ none ++ map by_job (rows_with Created board) → more ≡ jobs ++ map by_job (rows_with Pending board)
    → q.fresh ≡ more → ((n : ℕ) → Contains more n → n ≤ q.newest) → Covers lines q s board
all_noted s board lines none jobs more q created pending fresh least = λ n waits.
    let has : Has n more = waits_among board n more
    (λ h. subst (Has n) (sym pending) (has_left n jobs (map by_job (rows_with Pending board)) (subst (Has n) (sym created) (has_right n none (map by_job (rows_with Created board)) h))))
    (λ h. subst (Has n) (sym pending) (has_right n jobs (map by_job (rows_with Pending board)) h)) waits in
    let noted = contains_from_has n more has in
    (least n noted, inl (subst (λ (l : List ℕ). Contains l n) (sym fresh) noted))

-- ---- sorting in

-- what is in line stays so where no line loses a job
pub sorted_raised : (k : Kept) (lines more : List Line) (low high n : ℕ) → low ≤ high → ((p : ℕ) (g : List ℕ) (ready : Bool) (n : ℕ) → IsInLine (line_of lines p g) ready n → IsInLine (line_of more p g) ready n)
    → IsSorted k.state k.board lines low n → IsSorted k.state k.board more high n
sorted_raised k lines more low high n raised keeps w = record {
  place = w.place;
  placed = w.placed;
  pipeline = (let l : w.place.pipeline ≤ low = w.pipeline in omega arith);
  in_turn = IfSome_then w.place.group w.in_turn (λ g. keeps w.place.project g (counts_at NewestReadyFirst k.board n) n);
}

-- ---- whose turn it is

-- a job that counts in an order waits
waits_by : (order : GroupOrder) (o : Option BoardRow) → counts order o ≡ true → counts OldestFirst o ≡ true
waits_by order None e = e
waits_by order (Some r) e = counts_all order r.row.status e

-- what a line has that has a job
in_jobs : (order : GroupOrder) (board : List BoardRow) (job : ℕ) (o : Option Line) → counts_at order board job ≡ true → IsInLine o (counts_at NewestReadyFirst board job) job → Contains (jobs_of order o) job
in_jobs order board job None counted has = absurd has
in_jobs OldestFirst board job (Some l) counted has = has.0
in_jobs NewestReadyFirst board job (Some l) counted has = has.1 counted

module _ (k : Kept) (lines new : List Line) (notes : Noted) (none : notes.fresh ≡ []) (covers : Covers lines notes k.state k.board) (keeps : KeepsWaiting k lines new) where
  -- all are sorted still
  still_sorted : (job : ℕ) → counts_at OldestFirst k.board job ≡ true → IsSorted k.state k.board new notes.newest_pipeline job
  still_sorted job waits =
      let w = all_sorted (counts_at OldestFirst k.board) (IsSorted k.state k.board lines) notes none covers job waits in
      record { place = w.place; placed = w.placed; pipeline = w.pipeline; in_turn = keeps job w.place waits w.placed w.in_turn }

  pub still_covers : Covers new notes k.state k.board
  still_covers job waits = ((covers job waits).0, inr (still_sorted job waits))

  -- so all jobs of the group are in its line
  all_in : (order : GroupOrder) (project : ℕ) (group : List ℕ) (job pipeline : ℕ) → IsInGroup order k project group job pipeline → Contains (jobs_of order (line_of new project group)) job
  all_in order project group job pipeline is =
      let w = still_sorted job (waits_by order (row_at job k.board) is.0) in
      in_jobs order k.board job (line_of new project group) is.0
      (subst (λ (p : Place). IsInTurn new p (counts_at NewestReadyFirst k.board job) job) (same_Some _ _ (sym w.placed ∙ is.1)) w.in_turn)

  -- and its first tells the turn
  pub tells_turn : IsKept k → (order : GroupOrder) (project : ℕ) (group : List ℕ) (found : Option ℕ) → IsFirst order k project group (jobs_of order (line_of new project group)) found → IsTurn order (waiting k.state k.board) project group found
  tells_turn kept order project group found first = is_turn k kept order project group (jobs_of order (line_of new project group)) (all_in order project group) found first
