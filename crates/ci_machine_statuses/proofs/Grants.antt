-- A grant: the job's own row becomes running, and no other row moves.
use Rattle.std.proofs.Common.{◌≡◌, ℕ, ◌<◌, true, ◌==◌, List, length, slice_index_or, slice_set, refl, sym, ap, subst, ◌∙◌, arith}
use Rattle.std.proofs.lemmas.Bool.{false≢true}
use Rattle.std.proofs.lemmas.List.{get_or-map, length-map, map-id}
use Rattle.ci_machine_steps.specs.Prelude.{Live, is_live_state, Row, Status, is_status, AreRows, facts_at, no_facts, no_row, Attempt, Job, BoardRow, Record, Counter, State}
use Rattle.ci_machine_steps.specs.Prelude.{applied, put, row_cmp, numbered, jobs_of, numbers_of, graph_of, facts_in, facts_of, rows_of, row_for, AreBoard, is_pending}
use Rattle.ci_board.specs.Prelude.{row_at}
use Rattle.ci_board.proofs.Started.{started_rows}
use Rattle.ci_machine.proofs.Keyed.{Has, rising_filter, has_map}
use Rattle.ci_machine_steps.proofs.Sound.{Sound}
use Rattle.ci_machine_statuses.specs.Changes.{started_row}
use Rattle.ci_machine_statuses.proofs.Puts.{number, row_put, row_other}
use Rattle.ci_machine_statuses.proofs.RowPuts.{put_keys}
use Rattle.ci_machine_statuses.proofs.Positions.{place_of_has}
use Rattle.ci_machine_statuses.proofs.Facts.{its_own, one_other, in_pipeline, other_pipeline, started, started_other, started_its}
use Rattle.ci_machine_statuses.proofs.Joint.{unmoved_from, numbers_rise, apart, board_rises, rows_same, IsUnmoved, right_again}

-- a status that is told to be pending is
pub pending_is : (s : Status) → is_status s Status.Pending ≡ true → s ≡ Status.Pending
pending_is Status.Pending e = refl
pending_is _ e = absurd (false≢true e)

module _ (s : State) (board : List BoardRow) (j : Job) (x : Attempt) (sound : Sound s) (are : AreBoard s board) (has : Has j s.jobs) (pending : is_pending board j ≡ true)
    (at_next : x.id ≡ s.next.attempt) (its_job : x.job ≡ j.id) (live : x.state ≡ Live) where
  abbrev t : State
  t = applied (numbered (Record.Attempt x) Counter.Attempt s.next.attempt) s

  abbrev its_row : BoardRow
  its_row = started_row board j.id

  abbrev after : List BoardRow
  after = put row_cmp its_row board

  numbered_here : Has j.id (numbers_of s j.pipeline)
  numbered_here = has_map number j (jobs_of s j.pipeline) (its_own s j has)

  -- the job stands at this place of its pipeline
  module _ (pos : ℕ) (l : pos < length (numbers_of s j.pipeline)) (at : slice_index_or (numbers_of s j.pipeline) pos 0 ≡ j.id) where
    abbrev p : ℕ
    p = j.pipeline

    facts_here : facts_of t p ≡ slice_set (facts_of s p) pos (started (facts_at (facts_of s p) pos) x.state)
    facts_here =
        one_other number no_facts 0 (jobs_of s p) (facts_in t) (facts_in s) (λ f. started f x.state) j.id pos
        (rising_filter number (λ (i : Job). i.pipeline == p) 0 s.jobs sound.jobs) (subst (λ n. pos < n) (length-map (jobs_of s p) number) l) at
        (λ i h d. started_other s t sound x at_next refl i (λ e. d (e ∙ its_job)))
        (λ i h e. started_its s t sound x at_next refl i (in_pipeline s p i h).0 (e ∙ sym its_job))

    rows_here : rows_of t after p ≡ slice_set (rows_of s board p) pos (record (row_at (rows_of s board p) pos) { status = Status.Running })
    rows_here =
        one_other (λ n. n) no_row 0 (numbers_of s p) (row_for after) (row_for board) (λ r. record r { status = Status.Running }) j.id pos (numbers_rise s p sound) l
        (ap (λ (m : List ℕ). slice_index_or m pos 0) (map-id (numbers_of s p)) ∙ at)
        (λ n h d. row_other its_row n board d)
        (λ n h e. ap (row_for after) e ∙ (row_put its_row board ∙ ap (λ (m : ℕ). record (row_for board m) { status = Status.Running }) (sym e)))

    here : AreRows (graph_of s p) (facts_of t p) (rows_of t after p)
    here =
        let rows = rows_of s board p in
        let long : length rows ≡ length (numbers_of s p) = length-map (numbers_of s p) (row_for board) in
        let facts_long : length (facts_of s p) ≡ length (numbers_of s p) = length-map (jobs_of s p) (facts_in s) ∙ sym (length-map (jobs_of s p) number) in
        let its : row_at rows pos ≡ row_for board j.id = get_or-map (row_for board) (numbers_of s p) pos 0 no_row l ∙ ap (row_for board) at in
        rows_same refl facts_here rows_here
        (started_rows (graph_of s p) (facts_of s p) rows pos (started (facts_at (facts_of s p) pos) x.state) (omega arith) (omega arith)
        (ap (λ (r : Row). r.status) its ∙ pending_is (row_for board j.id).status pending) (ap is_live_state live) (are.each p))

  pub elsewhere : (q : ℕ) → (j.pipeline ≡ q → ⊥) → IsUnmoved s t board after q
  elsewhere q d =
      unmoved_from s t board after q refl refl
      (λ i h. let w = in_pipeline s q i h in
      started_other s t sound x at_next refl i (λ e. other_pipeline s sound j i has w.0 (λ z. d (z ∙ w.1)) (sym (e ∙ its_job))))
      (λ n h. row_other its_row n board (λ e. apart s j.pipeline q n sound d (subst (λ m. Has m (numbers_of s j.pipeline)) (sym e) numbered_here) h))

  pub granted : AreBoard t after
  granted =
      let w = place_of_has j.id (numbers_of s j.pipeline) numbered_here in
      right_again s t board after j.pipeline are (put_keys its_row board (board_rises s board sound are) (subst (Has j.id) (sym are.keys) (has_map number j s.jobs has)) ∙ are.keys)
      (here w.0 w.1.0 w.1.1) elsewhere
