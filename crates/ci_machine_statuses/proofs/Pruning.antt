-- A finished pipeline goes: so do the rows of its jobs, and all else beside the state is right as it is.
use Rattle.std.proofs.Common.{◌≡◌, ℕ, Bool, true, false, ◌==◌, not, List, [], map, filter, Option, Some, None, option_map, refl, sym, ap, subst, ◌∙◌, arith, eqb-true, ne_eqb}
use Rattle.std.proofs.lemmas.Bool.{both_ways, eqb-false}
use Rattle.ci_machine.specs.Prelude.{is_among}
use Rattle.ci_machine_steps.specs.Prelude.{AreRows, Attempt, BoardRow, Job, Need, Pipeline, QueuedJob, State, without_all, jobs_of, numbers_of, graph_by, graph_of}
use Rattle.ci_machine_steps.specs.Prelude.{pair_of, pairs_among, facts_in, facts_of, row_for, row_or_none, rows_of, AreBoard, Kept, cleared, written}
use Rattle.ci_machine_steps.specs.Prelude.{job_at, pipeline_at, project_or_none, queued, held_by, is_open_in, unfinished_in, AreIndexes, is_job_among, pipeline_goes}
use Rattle.ci_machine_steps.specs.Prelude.{without_pipeline}
use Rattle.ci_machine.proofs.Keyed.{Has, one_at, has_filter, filter_same, has_find, map_has, not_true}
use Rattle.ci_machine.proofs.Tests.{any_mapped}
use Rattle.ci_machine.proofs.Filters.{filter_implied, find_implied, all_gone, map_filter}
use Rattle.ci_machine_steps.proofs.Pruned.{among_its, pruned_state, jobs_left, no_jobs, attempts_left, attempt_was, attempt_left}
use Rattle.ci_machine_steps.proofs.Finished.{not_its, job_stands}
use Rattle.ci_machine_steps.proofs.Sound.{Sound}
use Rattle.ci_machine_statuses.proofs.Puts.{number, job_of}
use Rattle.ci_machine_statuses.proofs.Positions.{has_among}
use Rattle.ci_machine_statuses.proofs.Facts.{facts_with, in_pipeline}
use Rattle.ci_machine_statuses.proofs.Holding.{rows_stay}
use Rattle.ci_machine_statuses.proofs.HeldOpening.{as_row, same_open}
use Rattle.ci_machine_statuses.proofs.Joint.{unmoved_from, IsUnmoved, right_again}

-- ---- the rows

module _ (s : State) (board : List BoardRow) (n : ℕ) (sound : Sound s) (are : AreBoard s board) where
  abbrev t : State
  t = without_pipeline s n

  abbrev its : List Job
  its = jobs_of s n

  abbrev after : List BoardRow
  after = without_all (λ r. r.job) (numbers_of s n) board

  abbrev is_left : ℕ → Bool
  is_left m = not (is_job_among its m)

  after_is : after ≡ filter (λ r. is_left r.job) board
  after_is =
      all_gone job_of (numbers_of s n) board
      ∙ filter_same _ (λ (r : BoardRow). is_left r.job) board (λ r k. ap not (sym (any_mapped (λ m. m == r.job) number its)))

  keys_left : map (λ r. r.job) after ≡ map (λ j. j.id) t.jobs
  keys_left =
      ap (map job_of) after_is
      ∙ map_filter job_of is_left board
      ∙ ap (filter is_left) are.keys
      ∙ sym (map_filter number is_left s.jobs)
      ∙ ap (map number) (filter_same (λ (j : Job). is_left j.id) (λ j. not (j.pipeline == n)) s.jobs (λ j k. ap not (among_its s n sound.jobs sound.attempts j k)))

  row_left : (m : ℕ) → is_job_among its m ≡ false → row_for after m ≡ row_for board m
  row_left m other =
      ap (λ (l : List BoardRow). row_for l m) after_is
      ∙ ap row_or_none (find_implied (λ (r : BoardRow). r.job == m) (λ r. is_left r.job) board (λ r k e. ap not (ap (is_job_among its) (eqb-true r.job m e) ∙ other)))

  -- a number of another pipeline is none of its jobs'
  number_left : (q : ℕ) → (q ≡ n → ⊥) → (m : ℕ) → Has m (numbers_of s q) → is_job_among its m ≡ false
  number_left q d m h =
      let w = map_has number m (jobs_of s q) h in
      let i = in_pipeline s q w.0 w.1.0 in
      ap (is_job_among its) (sym w.1.1) ∙ (among_its s n sound.jobs sound.attempts w.0 i.0 ∙ ne_eqb w.0.pipeline n (λ e. d (sym i.1 ∙ e)))

  pairs_left : (q : ℕ) → (q ≡ n → ⊥) → pairs_among (numbers_of s q) t.needs ≡ pairs_among (numbers_of s q) s.needs
  pairs_left q d =
      ap (map (pair_of (numbers_of s q)))
      (filter_implied (λ (w : Need). is_among (numbers_of s q) w.job) (λ w. is_left w.job) s.needs (λ w k e. ap not (number_left q d w.job (has_among w.job (numbers_of s q) e))))

  pub unmoved : (q : ℕ) → (n ≡ q → ⊥) → IsUnmoved s (without_pipeline s n) board (without_all (λ r. r.job) (numbers_of s n) board) q
  unmoved q d =
      let e : q ≡ n → ⊥ = λ z. d (sym z) in
      unmoved_from s t board after q (jobs_left s n sound.jobs sound.attempts q e) (pairs_left q e)
      (λ j h. let i = in_pipeline s q j h in ap (λ (l : List Attempt). facts_with l j) (attempts_left s n sound.jobs sound.attempts j i.0 (λ z. e (sym i.1 ∙ z))))
      (λ m h. row_left m (number_left q e m h))

  -- it has no jobs any more
  here : AreRows (graph_of t n) (facts_of t n) (rows_of t after n)
  here =
      subst (λ (js : List Job). AreRows (graph_by js t.needs) (map (facts_in t) js) (map (row_for after) (map number js))) (sym (no_jobs s n sound.jobs sound.attempts))
      (record { is = λ i l. absurd (omega arith); each = λ i l. absurd (omega arith) })

  pub board_left : AreBoard (without_pipeline s n) (without_all (λ r. r.job) (numbers_of s n) board)
  board_left = right_again s t board after n are keys_left here unmoved

-- ---- the groups, and what isn't finished

module _ (k : Kept) (p : Pipeline) (sound : Sound k.state) (are : AreBoard k.state k.board) (indexes : AreIndexes k) (has : Has p k.state.pipelines) (finished : is_open_in k.state k.board p ≡ false) where
  abbrev s : State
  s = k.state

  abbrev n : ℕ
  n = p.id

  abbrev left : State
  left = without_pipeline s n

  abbrev board : List BoardRow
  board = without_all (λ r. r.job) (numbers_of s n) k.board

  pipeline_found : (j : Job) → (j.pipeline == n) ≡ false → pipeline_at left j.pipeline ≡ pipeline_at s j.pipeline
  pipeline_found j other =
      find_implied (λ (q : Pipeline). q.id == j.pipeline) (λ q. not (q.id == n)) s.pipelines (λ q h e. ap not (ap (λ m. m == n) (eqb-true q.id j.pipeline e) ∙ other))

  same_queued : (m : ℕ) → is_job_among (jobs_of s n) m ≡ false → (o : Option Job) → job_at s m ≡ o → option_map (queued left) o ≡ option_map (queued s) o
  same_queued m other None found = refl
  same_queued m other (Some j) found =
      let w = has_find (λ (i : Job). i.id == m) j s.jobs found in
      let elsewhere = sym (among_its s n sound.jobs sound.attempts j w.0) ∙ (ap (is_job_among (jobs_of s n)) (eqb-true j.id m w.1) ∙ other) in
      let of_it : Option Pipeline → Option QueuedJob = λ o. Some (record { job = j; project = project_or_none o }) in
      ap of_it (pipeline_found j elsewhere)

  still_open : (q : Pipeline) → Has q left.pipelines → is_open_in left board q ≡ is_open_in s k.board q
  still_open q h =
      let w = has_filter (λ (x : Pipeline). not (x.id == n)) q s.pipelines h in
      same_open s left k.board board q (unmoved s k.board n sound are q.id (λ e. eqb-false q.id n (not_true (q.id == n) w.1) (sym e)))

  open_left : unfinished_in s k.board ≡ unfinished_in left board
  open_left = ap (map as_row) (sym
      (filter_same (is_open_in left board) (is_open_in s k.board) left.pipelines still_open
      ∙ filter_implied (is_open_in s k.board) (λ q. not (q.id == n)) s.pipelines
      (λ q h e. ap not (ne_eqb q.id n (λ same. both_ways (is_open_in s k.board p) finished (subst (λ (x : Pipeline). is_open_in s k.board x ≡ true) (one_at (λ (x : Pipeline). x.id) q p 0 s.pipelines sound.pipelines h has same) e))))))

  pub prune_indexed : AreIndexes (written (pipeline_goes p (jobs_of k.state p.id) k.state.attempts) [] [] (cleared (numbers_of k.state p.id) k))
  prune_indexed =
      subst (λ (w : State). AreIndexes (record { state = w; board = board; holders = k.holders; unfinished = k.unfinished })) (sym (pruned_state s n sound.jobs sound.attempts p refl))
      (record {
        held = rows_stay s left k.holders sound.attempts
            (λ a h live.
            record { attempt = a; has = attempt_left s n sound.jobs sound.attempts a h (not_its s k.board p sound are finished a h live); id = refl; job = refl; live = live })
            (λ b h live. record { attempt = b; has = (attempt_was s n sound.jobs sound.attempts b h).0; id = refl; job = refl; live = live })
            (λ a h live. let other = not_its s k.board p sound are finished a h live in
            ap (held_by a.id) (ap (option_map (queued left)) (job_stands s k.board p sound are finished a.job other) ∙ same_queued a.job other (job_at s a.job) refl)) indexes.held;
        unfinished = indexes.unfinished ∙ open_left;
      })
