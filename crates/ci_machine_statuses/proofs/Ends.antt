-- The end of an attempt: the rows of its pipeline after it.
use Rattle.std.proofs.Common.{◌≡◌, ℕ, ◌<◌, ◌==◌, List, [], ◌∷◌, length, map, Some, slice_index_or, slice_set, refl, sym, ap, subst, ◌∙◌}
use Rattle.std.proofs.lemmas.List.{length-map}
use Rattle.ci_machine_steps.specs.Prelude.{FactsChange, AreRows, BoardState, facts_at, no_facts, replaced, Job, Attempt, BoardRow, Record, Put, State, applied}
use Rattle.ci_machine_steps.specs.Prelude.{put_rows, jobs_of, numbers_of, graph_of, facts_in, facts_of, rows_of, row_for, AreBoard}
use Rattle.ci_board.proofs.Assignments.{same_graph}
use Rattle.ci_machine.proofs.Keyed.{Has, rising_filter, has_map, has_from_contains}
use Rattle.ci_machine_steps.proofs.Sound.{Sound}
use Rattle.ci_machine_statuses.specs.Boards.{IsBoardOf, changed_rows}
use Rattle.ci_machine_statuses.specs.Changes.{IsWithin, HasLive}
use Rattle.ci_machine_statuses.specs.Ends.{IsSettled}
use Rattle.ci_machine_statuses.specs.declared.end.Settled.{Settled}
use Rattle.ci_machine_statuses.proofs.Puts.{number, map_same}
use Rattle.ci_machine_statuses.proofs.Positions.{is_there}
use Rattle.ci_machine_statuses.proofs.Facts.{one_other, ended, ended_other, ended_its}
use Rattle.ci_machine_statuses.proofs.Joint.{apart, rows_same, settled}

-- the rows of a board that was loaded are right
pub loaded_right : (s : State) (board : List BoardRow) (p : ℕ) (b : BoardState) → AreBoard s board → IsBoardOf s board p b → AreRows b.graph b.facts b.rows
loaded_right s board p b are is =
    rows_same refl is.its_facts is.its_rows (same_graph (graph_of s p) b.graph is.parts is.predecessors (facts_of s p) (rows_of s board p) (are.each p))

-- Where a loaded board got new facts, which are those of the state t, it is settled to that.
pub settled_by : (s t : State) (board : List BoardRow) (p : ℕ) → Sound s → AreBoard s board → IsWithin s t p
    → (jobs : List Job) (b : BoardState) (changes : List FactsChange) (v : Settled) → jobs ≡ jobs_of s p → IsBoardOf s board p b → replaced changes b.facts ≡ facts_of t p
    → (AreRows b.graph b.facts b.rows → v.facts.items ≡ replaced changes b.facts)
    → length v.rows.items ≡ length b.rows → (AreRows b.graph b.facts b.rows → AreRows b.graph (replaced changes b.facts) v.rows.items)
    → v.changed.items ≡ changed_rows (map (λ j. j.id) jobs) b.rows v.rows.items → IsSettled s t board p v
settled_by s t board p sound are within jobs b changes v same is now facts long right put =
    let rows = v.rows.items in
    let before = loaded_right s board p b are is in
    let long_there : length rows ≡ length (numbers_of s p) = long ∙ (ap length is.its_rows ∙ length-map (numbers_of s p) (row_for board)) in
    let right_now : AreRows (graph_of s p) (facts_of t p) rows
    = rows_same refl (sym now) refl (same_graph b.graph (graph_of s p) (sym is.parts) (sym is.predecessors) (replaced changes b.facts) rows (right before)) in
    let puts_are : v.changed.items ≡ changed_rows (numbers_of s p) (rows_of s board p) rows = put ∙ (λ i. changed_rows (map number (same i)) (is.its_rows i) rows) in
    record {
      facts = facts before ∙ now;
      rows = record { long = long_there ∙ (sym (ap length (within.its_numbers p)) ∙ length-map (jobs_of t p) number); settled = rows_same (within.graphs p) refl refl right_now };
      differing = puts_are;
      board = subst (λ (rs : List BoardRow). AreBoard t (put_rows rs board)) (sym puts_are) (settled s t board p rows sound are within long_there right_now);
    }

module _ (s : State) (board : List BoardRow) (p : ℕ) (sound : Sound s) (are : AreBoard s board) (x : Attempt) (live : HasLive s x) where
  abbrev t : State
  t = applied (Put (Record.Attempt x) ∷ []) s

  abbrev a : Attempt
  a = live.0

  there_is : Has a s.attempts
  there_is = has_from_contains a s.attempts live.1

  other : (i : Job) → (i.id ≡ x.job → ⊥) → facts_in t i ≡ facts_in s i
  other i d = ended_other s t sound.attempts a x there_is (sym live.2) (sym live.3) refl i (λ e. d (e ∙ live.3))

  pub within : Has x.job (numbers_of s p) → IsWithin s (applied (Put (Record.Attempt x) ∷ []) s) p
  within its = record {
    numbers = refl;
    its_numbers = λ q. refl;
    graphs = λ q. refl;
    facts = λ q d. map_same (facts_in t) (facts_in s) (jobs_of s q)
        (λ i h. other i (λ e. apart s p q x.job sound d its (subst (λ n. Has n (numbers_of s q)) e (has_map number i (jobs_of s q) h))));
  }

  -- a change of the facts of the job at this place
  pub ends : (jobs : List Job) (b : BoardState) (change : FactsChange) (v : Settled)
      → jobs ≡ jobs_of s p → change.position < length jobs → slice_index_or (map (λ j. j.id) jobs) change.position 0 ≡ x.job
      → IsBoardOf s board p b → change.facts ≡ record (facts_at b.facts change.position) { last = Some x.state }
      → (AreRows b.graph b.facts b.rows → v.facts.items ≡ replaced (change ∷ []) b.facts)
      → length v.rows.items ≡ length b.rows → (AreRows b.graph b.facts b.rows → AreRows b.graph (replaced (change ∷ []) b.facts) v.rows.items)
      → v.changed.items ≡ changed_rows (map (λ j. j.id) jobs) b.rows v.rows.items → IsSettled s (applied (Put (Record.Attempt x) ∷ []) s) board p v
  ends jobs b change v same l at is fresh =
      let pos = change.position in
      let here : slice_index_or (numbers_of s p) pos 0 ≡ x.job = ap (λ (js : List Job). slice_index_or (map number js) pos 0) (sym same) ∙ at in
      let inside : pos < length (jobs_of s p) = subst (λ (js : List Job). pos < length js) same l in
      let its : Has x.job (numbers_of s p)
      = subst (λ n. Has n (numbers_of s p)) here (is_there (numbers_of s p) pos (subst (λ n. pos < n) (sym (length-map (jobs_of s p) number)) inside)) in
      let facts_here : facts_of t p ≡ slice_set (facts_of s p) pos (ended x.state (facts_at (facts_of s p) pos))
      = one_other number no_facts 0 (jobs_of s p) (facts_in t) (facts_in s) (ended x.state) x.job pos
      (rising_filter number (λ (i : Job). i.pipeline == p) 0 s.jobs sound.jobs) inside here
      (λ i h d. other i d)
      (λ i h e. ended_its s t sound.attempts a x there_is (sym live.2) (sym live.3) refl i (λ c m n. sound.is_last a c there_is m live.4 n) (e ∙ sym live.3)) in
      settled_by s t board p sound are (within its) jobs b (change ∷ []) v same is
      ((λ i. slice_set b.facts pos (fresh i)) ∙ ((λ i. slice_set (is.its_facts i) pos (ended x.state (facts_at (is.its_facts i) pos))) ∙ sym facts_here))
