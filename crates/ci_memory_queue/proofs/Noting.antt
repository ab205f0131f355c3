-- What notes cover stays covered after a commit, where a job that is sorted stays so while its row, its record and older pipelines stay.
use Rattle.std.proofs.Common.{◌≡◌, ◌⊎◌, ℕ, ◌≤◌, nat_lt, max, Bool, true, false, List, [], ◌∷◌, ◌++◌, Contains, Option, Some, None, refl, sym, ap, subst, ◌∙◌, inl, inr, ⊎_elim, arith}
use Rattle.std.proofs.lemmas.Bool.{cond_both, cases_eq, false≢true, ltb-true}
use Rattle.std.proofs.lemmas.List.Elements.{Contains-append_left, Contains-push}
use Rattle.ci_machine_steps.specs.Prelude.{BoardRow, GroupOrder, Job, Pipeline, IndexChange, Key, Record, RowChange, Put, Append, Remove, State, put, without, without_all}
use Rattle.ci_machine_steps.specs.Prelude.{with_record, without_record, changed, applied, Kept, row_cmp, put_rows, indexed_all, cleared, written, job_at, pipeline_at}
use Rattle.ci_store.specs.Prelude.{row_at}
use Rattle.ci_server_lookups.proofs.Changes.{state_stays, board_stays}
use Rattle.ci_memory_queue.specs.Notes.{Noted, with_note, job_noted, record_noted, removal_noted, change_noted, changes_noted, row_noted, rows_noted, noted}
use Rattle.ci_memory_queue.specs.Places.{counts_as}
use Rattle.ci_machine.proofs.Found.{put_other, put_same, without_other, without_same}
use Rattle.ci_memory_queue.proofs.Waits.{then_from, mapped_from}

is_noted : (fresh : List ℕ) (job n : ℕ) → n ≡ job → Contains (fresh ++ job ∷ []) n
is_noted fresh job n e = subst (Contains (fresh ++ job ∷ [])) (sym e) (Contains-push fresh job)

abbrev by_job : BoardRow → ℕ
by_job r = r.job

module _
    (order : GroupOrder)
    (counts : Option BoardRow → Bool)
    (counts_row : (r : BoardRow) → counts (Some r) ≡ counts_as order r.row.status)
    (counts_none : counts None ≡ false)
    (IsSorted : State → List BoardRow → ℕ → ℕ → Type 0)
    (stays : (s t : State) (board : List BoardRow) (newest n : ℕ) → job_at t n ≡ job_at s n → ((m : ℕ) → m ≤ newest → pipeline_at t m ≡ pipeline_at s m) → IsSorted s board newest n → IsSorted t board newest n)
    (stays_by_row : (s : State) (board more : List BoardRow) (newest n : ℕ) → row_at n more ≡ row_at n board → IsSorted s board newest n → IsSorted s more newest n)
  where
    abbrev IsKnown : Noted → State → List BoardRow → ℕ → Type 0
    IsKnown q s board n = Contains q.fresh n ⊎ IsSorted s board q.newest_pipeline n

    -- each job that counts is known, and none has a greater number than the newest
    abbrev pub IsCovered : Noted → State → List BoardRow → Type 0
    IsCovered q s board = (n : ℕ) → counts (row_at n board) ≡ true → (n ≤ q.newest) × IsKnown q s board n

    -- ---- records

    known_stays : (q : Noted) (s t : State) (board : List BoardRow) (n : ℕ) → job_at t n ≡ job_at s n → ((m : ℕ) → m ≤ q.newest_pipeline → pipeline_at t m ≡ pipeline_at s m) → IsKnown q s board n → IsKnown q t board n
    known_stays q s t board n job pipelines known = ⊎_elim (λ c. inl c) (λ w. inr (stays s t board q.newest_pipeline n job pipelines w)) known

    covers_stays : (q : Noted) (s t : State) (board : List BoardRow) → ((n : ℕ) → job_at t n ≡ job_at s n) → ((m : ℕ) → m ≤ q.newest_pipeline → pipeline_at t m ≡ pipeline_at s m) → IsCovered q s board → IsCovered q t board
    covers_stays q s t board jobs pipelines covers = λ n counted. let was = covers n counted in (was.0, known_stays q s t board n (jobs n) pipelines was.1)

    known_more : (q : Noted) (s : State) (board : List BoardRow) (job n : ℕ) → IsKnown q s board n → IsKnown (with_note q job) s board n
    known_more q s board job n known = ⊎_elim (λ c. inl (Contains-append_left q.fresh (job ∷ []) n c)) (λ w. inr w) known

    module _ (j : Job) (q : Noted) (s : State) (board : List BoardRow) where
      abbrev with_job : State
      with_job = with_record (Record.Job j) s

      known_other : (n : ℕ) → (n ≡ j.id → ⊥) → IsKnown q s board n → IsKnown q with_job board n
      known_other n other known = known_stays q s with_job board n (put_other (λ (x : Job). x.id) j n s.jobs other) (λ m l. refl) known

      covers_job : IsCovered q s board → IsCovered (job_noted j q) with_job board
      covers_job covers =
          cond_both (nat_lt q.newest j.id) q (with_note q j.id) (λ (p : Noted). IsCovered p with_job board)
          (λ new n counted.
          let was = covers n counted in
          let within : n ≤ q.newest = was.0 in
          let behind = ltb-true q.newest j.id new in
          (was.0, known_other n (λ e. absurd (omega (arith, within, behind, e))) was.1))
          (λ _ n counted.
          let was = covers n counted in
          (was.0, ⊎_elim (λ e. inl (is_noted q.fresh j.id n e)) (λ other. known_more q with_job board j.id n (known_other n other was.1)) (cases_eq n j.id)))

    covers_pipeline : (p : Pipeline) (q : Noted) (s : State) (board : List BoardRow) → nat_lt q.newest_pipeline p.id ≡ true → IsCovered q s board → IsCovered q (with_record (Record.Pipeline p) s) board
    covers_pipeline p q s board new covers =
        let behind = ltb-true q.newest_pipeline p.id new in
        covers_stays q s (with_record (Record.Pipeline p) s) board (λ n. refl)
        (λ m l. put_other (λ (x : Pipeline). x.id) p m s.pipelines (λ e. absurd (omega (arith, l, behind, e))))
        covers

    covers_record : (r : Record) (q p : Noted) (s : State) (board : List BoardRow) → record_noted r q ≡ Some p → IsCovered q s board → IsCovered p (with_record r s) board
    covers_record (Record.Job j) q p s board e covers = let is : job_noted j q ≡ p = cc in subst (λ (x : Noted). IsCovered x (with_record (Record.Job j) s) board) is (covers_job j q s board covers)
    covers_record (Record.Pipeline r) q p s board e covers =
        cond_both (nat_lt q.newest_pipeline r.id) (Some q) None (λ (o : Option Noted). o ≡ Some p → IsCovered p (with_record (Record.Pipeline r) s) board)
        (λ new same. let is : q ≡ p = cc in subst (λ (x : Noted). IsCovered x (with_record (Record.Pipeline r) s) board) is (covers_pipeline r q s board new covers))
        (λ _ same. absurd (cc))
        e
    covers_record r q p s board e covers = let is : q ≡ p = cc in subst (λ (x : Noted). IsCovered x (with_record r s) board) is (covers_stays q s (with_record r s) board (λ n. refl) (λ m l. refl) covers)

    covers_removal : (k : Key) (q p : Noted) (s : State) (board : List BoardRow) → removal_noted k q ≡ Some p → IsCovered q s board → IsCovered p (without_record k s) board
    covers_removal (Key.Job n) q p s board e covers = absurd (cc)
    covers_removal (Key.Pipeline n) q p s board e covers = absurd (cc)
    covers_removal k q p s board e covers = let is : q ≡ p = cc in subst (λ (x : Noted). IsCovered x (without_record k s) board) is (covers_stays q s (without_record k s) board (λ n. refl) (λ m l. refl) covers)

    covers_change : (c : RowChange) (q p : Noted) (s : State) (board : List BoardRow) → change_noted c q ≡ Some p → IsCovered q s board → IsCovered p (changed c s) board
    covers_change (Put r) q p s board e covers = covers_record r q p s board e covers
    covers_change (Append t) q p s board e covers = let is : q ≡ p = cc in subst (λ (x : Noted). IsCovered x (changed (Append t) s) board) is (covers_stays q s (changed (Append t) s) board (λ n. refl) (λ m l. refl) covers)
    covers_change (Remove k) q p s board e covers = covers_removal k q p s board e covers

    covers_changes : (cs : List RowChange) (q p : Noted) (s : State) (board : List BoardRow) → changes_noted cs q ≡ Some p → IsCovered q s board → IsCovered p (applied cs s) board
    covers_changes [] q p s board e covers = let is : q ≡ p = cc in subst (λ (x : Noted). IsCovered x s board) is covers
    covers_changes (c ∷ cs) q p s board e covers =
        let mid = then_from (changes_noted cs) (change_noted c q) p e in
        covers_changes cs mid.0 p (changed c s) board mid.1.1 (covers_change c q mid.0 s board mid.1.0 covers)

    -- ---- rows

    -- a job whose row is as before is covered as before
    covered_by_row : (q : Noted) (s : State) (board more : List BoardRow) (n : ℕ) → row_at n more ≡ row_at n board → IsCovered q s board → counts (row_at n more) ≡ true → (n ≤ q.newest) × IsKnown q s more n
    covered_by_row q s board more n row covers counted =
        let was = covers n (ap counts (sym row) ∙ counted) in
        (was.0, ⊎_elim (λ c. inl c) (λ w. inr (stays_by_row s board more q.newest_pipeline n row w)) was.1)

    module _ (r : BoardRow) (q : Noted) (s : State) (board : List BoardRow) where
      abbrev more : List BoardRow
      more = put row_cmp r board

      own : (n : ℕ) → n ≡ r.job → counts (row_at n more) ≡ counts_as order r.row.status
      own n e = ap counts (put_same by_job r n board e) ∙ counts_row r

      covers_row : IsCovered q s board → IsCovered (row_noted order r q) s more
      covers_row covers =
          cond_both (counts_as order r.row.status) (record q { fresh = q.fresh ++ r.job ∷ []; newest = max q.newest r.job }) q (λ (p : Noted). IsCovered p s more)
          (λ _ n counted.
          ⊎_elim
          (λ e. let same : n ≡ r.job = e in (omega arith, inl (is_noted q.fresh r.job n e)))
          (λ e.
          let was = covered_by_row q s board more n (put_other by_job r n board e) covers counted in
          let l : n ≤ q.newest = was.0 in
          (omega arith, known_more q s more r.job n was.1))
          (cases_eq n r.job))
          (λ out n counted.
          ⊎_elim
          (λ e. absurd (false≢true (sym out ∙ (sym (own n e) ∙ counted))))
          (λ e. covered_by_row q s board more n (put_other by_job r n board e) covers counted)
          (cases_eq n r.job))

    covers_rows : (rs : List BoardRow) (q : Noted) (s : State) (board : List BoardRow) → IsCovered q s board → IsCovered (rows_noted order rs q) s (put_rows rs board)
    covers_rows [] q s board covers = covers
    covers_rows (r ∷ rs) q s board covers = covers_rows rs (row_noted order r q) s (put row_cmp r board) (covers_row r q s board covers)

    covers_without : (m : ℕ) (q : Noted) (s : State) (board : List BoardRow) → IsCovered q s board → IsCovered q s (without by_job m board)
    covers_without m q s board covers = λ n counted.
        ⊎_elim
        (λ e. absurd (false≢true (sym counts_none ∙ (sym (ap counts (without_same by_job m n board e)) ∙ counted))))
        (λ e. covered_by_row q s board (without by_job m board) n (without_other by_job m n board e) covers counted)
        (cases_eq n m)

    covers_cleared : (jobs : List ℕ) (q : Noted) (s : State) (board : List BoardRow) → IsCovered q s board → IsCovered q s (without_all by_job jobs board)
    covers_cleared [] q s board covers = covers
    covers_cleared (m ∷ jobs) q s board covers = covers_cleared jobs q s (without by_job m board) (covers_without m q s board covers)

    -- ---- a whole commit

    pub covers_written : (changes : List RowChange) (rows : List BoardRow) (indexes : List IndexChange) (jobs : List ℕ) (k : Kept) (q p : Noted) → noted order changes rows q ≡ Some p
        → IsCovered q k.state k.board → IsCovered p (written changes rows indexes (cleared jobs k)).state (written changes rows indexes (cleared jobs k)).board
    covers_written changes rows indexes jobs k q p is covers =
        let board = without_all by_job jobs k.board in
        let mid = mapped_from (rows_noted order rows) (changes_noted changes q) p is in
        let after : Kept = record k { state = applied changes k.state; board = put_rows rows board } in
        let all : IsCovered (rows_noted order rows mid.0) after.state after.board
        = covers_rows rows mid.0 (applied changes k.state) board (covers_changes changes q mid.0 k.state board mid.1.0 (covers_cleared jobs q k.state k.board covers)) in
        subst (λ (s : State). IsCovered p s (indexed_all indexes after).board) (sym (state_stays indexes after))
        (subst (λ (b : List BoardRow). IsCovered p after.state b) (sym (board_stays indexes after))
        (subst (λ (x : Noted). IsCovered x after.state after.board) mid.1.1 all))
