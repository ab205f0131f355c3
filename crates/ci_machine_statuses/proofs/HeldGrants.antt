-- A grant: its group is held, and its pipeline isn't finished, as before.
use Rattle.std.proofs.Common.{◌≡◌, ◌⊎◌, ℕ, ◌<◌, true, ◌==◌, List, [], ◌∷◌, length, map, filter, Option, Some, None, option_map, refl, sym, ap, subst, ◌∙◌, inl, inr, ⊎_elim, arith}
use Rattle.std.proofs.Common.{eqb-true}
use Rattle.std.proofs.lemmas.Bool.{cond_both, eqb-false}
use Rattle.std.proofs.lemmas.List.{get_or-map, length-map}
use Rattle.ci_machine_steps.specs.Prelude.{Live, is_live_state, Facts, Row, Status, is_status, no_row, statuses, some_job, has_status, pipeline_status, Attempt, Holder, Job}
use Rattle.ci_machine_steps.specs.Prelude.{Pipeline, BoardRow, Record, Counter, Hold, State, applied, put, attempt_cmp, Kept, row_cmp, indexed_all, written, numbered, jobs_of}
use Rattle.ci_machine_steps.specs.Prelude.{numbers_of, facts_of, rows_of, row_for, AreBoard, is_unfinished, resource_free, job_at, queued, is_pending, group_held, held_by, held_of}
use Rattle.ci_machine_steps.specs.Prelude.{holds_group, groups_in, is_open_in, AreIndexes}
use Rattle.ci_machine.specs.Prelude.{Part}
use Rattle.ci_board.specs.Prelude.{row_at}
use Rattle.ci_machine.proofs.Claims.{free_not_held}
use Rattle.ci_machine.proofs.Keyed.{Has, find_has, has_map, has_put, put_has, unequal}
use Rattle.ci_machine_steps.proofs.Finished.{some_is, running_open}
use Rattle.ci_machine_steps.proofs.Sound.{Sound}
use Rattle.ci_machine_statuses.specs.Changes.{started_row}
use Rattle.ci_machine.proofs.Found.{put_here}
use Rattle.ci_machine_statuses.proofs.Puts.{number, row_put}
use Rattle.ci_machine_statuses.proofs.Positions.{place_of_has}
use Rattle.ci_machine_statuses.proofs.Grants.{elsewhere, pending_is}
use Rattle.ci_machine_statuses.proofs.HeldRows.{HoldsMore, more_rows}
use Rattle.ci_machine_statuses.proofs.Holding.{in_holders, of_holders}
use Rattle.ci_machine_statuses.proofs.HeldOpening.{as_row, same_open}
use Rattle.ci_machine_statuses.proofs.Facts.{its_own}

-- ---- a pending or running job leaves its pipeline unfinished

pending_open : (parts : List Part) (facts : List Facts) (a : ℕ → Status) → some_job (length parts) (has_status a Status.Pending) ≡ true
    → is_unfinished (pipeline_status parts facts a) ≡ true
pending_open parts facts a e =
    cond_both (some_job (length parts) (has_status a Status.Running)) Status.Running _ (λ x. is_unfinished x ≡ true) (λ _. refl)
    (λ _. rw e (cond_both _ Status.Running Status.Pending (λ x. is_unfinished x ≡ true) (λ _. refl) (λ _. refl)))

open_at : (s : State) (board : List BoardRow) (q : Pipeline) (n : ℕ) → Has n (numbers_of s q.id) → (row_for board n).status ≡ Status.Pending ⊎ ((row_for board n).status ≡ Status.Running) → is_open_in s board q ≡ true
open_at s board q n h way =
    let w = place_of_has n (numbers_of s q.id) h in
    let rows : List Row = rows_of s board q.id in
    let its : (row_at rows w.0).status ≡ (row_for board n).status = ap (λ (r : Row). r.status) (get_or-map (row_for board) (numbers_of s q.id) w.0 0 no_row w.1.0 ∙ ap (row_for board) w.1.1) in
    let parts : List Part = map (λ (j : Job). j.options.part) (jobs_of s q.id) in
    let inside : w.0 < length parts
    = subst (λ m. w.0 < m) (length-map (jobs_of s q.id) number ∙ sym (length-map (jobs_of s q.id) (λ (j : Job). j.options.part))) w.1.0 in
    ⊎_elim
    (λ e. pending_open parts (facts_of s q.id) (statuses rows) (some_is (length parts) (has_status (statuses rows) Status.Pending) w.0 inside (ap (is_status Status.Pending) (its ∙ e))))
    (λ e. running_open parts (facts_of s q.id) (statuses rows) (some_is (length parts) (has_status (statuses rows) Status.Running) w.0 inside (ap (is_status Status.Running) (its ∙ e))))
    way

hold_alone : (n project : ℕ) (group : Option (List ℕ)) (k : Kept)
    → indexed_all (map Hold (group_held n project group)) k ≡ record k { holders = (indexed_all (map Hold (group_held n project group)) k).holders }
hold_alone n project None k = refl
hold_alone n project (Some group) k = refl

module _ (k : Kept) (j : Job) (x : Attempt) (sound : Sound k.state) (are : AreBoard k.state k.board) (indexes : AreIndexes k) (has : Has j k.state.jobs) (pending : is_pending k.board j ≡ true)
    (free : resource_free (groups_in k.state k.board) (queued k.state j) ≡ true) (at_next : x.id ≡ k.state.next.attempt) (its_job : x.job ≡ j.id) (live : x.state ≡ Live) where
  abbrev s : State
  s = k.state

  abbrev t : State
  t = applied (numbered (Record.Attempt x) Counter.Attempt s.next.attempt) s

  abbrev after : List BoardRow
  after = put row_cmp (started_row k.board j.id) k.board

  abbrev then : Kept
  then = record k { state = t; board = after }

  found : job_at s x.job ≡ Some j
  found = subst (λ n. job_at s n ≡ Some j) (sym its_job) (find_has number j 0 s.jobs sound.jobs has)

  abbrev its_group : List Holder
  its_group = group_held x.id (queued s j).project j.options.resource_group

  same_group : held_of t x ≡ its_group
  same_group = ap (λ (o : Option Job). held_by x.id (option_map (queued t) o)) found

  more : HoldsMore s t x.id (queued s j).project j.options.resource_group
  more = record {
    stays = λ h m. let w = of_holders s h m in in_holders t h (record {
      attempt = w.attempt;
      has = put_has attempt_cmp x w.attempt s.attempts w.has (unequal w.attempt.id x.id (λ e. let b : w.attempt.id < s.next.attempt = sound.below w.attempt w.has in omega arith));
      live = w.live;
      its = w.its;
    });
    comes = λ h m. in_holders t h (record {
      attempt = x;
      has = put_here attempt_cmp x s.attempts;
      live = ap is_live_state live;
      its = subst (λ (l : List Holder). Has h l) (sym same_group) m;
    });
    no_other = λ h m. let w = of_holders t h m in ⊎_elim
        (λ e. inr (subst (λ (l : List Holder). Has h l) (ap (held_of t) e ∙ same_group) w.its))
        (λ z. inl (in_holders s h (record { attempt = w.attempt; has = z; live = w.live; its = w.its })))
        (has_put attempt_cmp x w.attempt s.attempts w.has);
  }

  same : (q : Pipeline) → is_open_in t after q ≡ is_open_in s k.board q
  same q =
      cond_both (j.pipeline == q.id) 0 0 (λ (_ : ℕ). is_open_in t after q ≡ is_open_in s k.board q)
      (λ e. let here = subst (λ n. Has j.id (numbers_of s n)) (eqb-true j.pipeline q.id e) (has_map number j (jobs_of s j.pipeline) (its_own s j has)) in
      open_at t after q j.id here (inr (ap (λ (r : Row). r.status) (row_put (started_row k.board j.id) k.board)))
      ∙ sym (open_at s k.board q j.id here (inl (pending_is (row_for k.board j.id).status pending))))
      (λ e. same_open s t k.board after q (elsewhere s k.board j x sound are has pending at_next its_job live q.id (eqb-false j.pipeline q.id e)))

  pub granted : AreIndexes (written (numbered (Record.Attempt x) Counter.Attempt k.state.next.attempt) (started_row k.board j.id ∷ []) (holds_group x.id (queued k.state j)) k)
  granted = subst AreIndexes (sym (hold_alone x.id (queued s j).project j.options.resource_group then)) (record {
    held = more_rows s t x.id (queued s j).project j.options.resource_group then (free_not_held (groups_in s k.board) j.pipeline (queued s j).project j.options.resource_group free) more indexes.held;
    unfinished = indexes.unfinished ∙ (λ i. map as_row (filter (λ q. sym (same q) i) s.pipelines));
  })
