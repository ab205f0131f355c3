-- Each sweep that does something leaves fewer live attempts or fewer unfinished pipelines, so at one moment there comes one that finds nothing.
use Rattle.ci_machine_laws.proofs.Prelude.{All-cons, ◌≡◌, ◌⊎◌, ℕ, zero, suc, ◌+◌, ◌<◌, ◌≤◌, Bool, true, false, ◌==◌, ◌&&◌, ◌||◌, not, if◌then◌else◌, List, [], ◌∷◌, ◌++◌, length}
use Rattle.ci_machine_laws.proofs.Prelude.{map, filter, find, Option, Some, None, option_map, slice_index_or, refl, sym, ap, subst, ◌∙◌, inl, inr, ⊎_elim, arith, eqb-true}
use Rattle.ci_machine_laws.proofs.Prelude.{eq-eqb, map-id, last_or, list_any, cond_both, cond-true, cond-false, both_ways, cases_Bool, cases_lt, false≢true, and_parts, and_from}
use Rattle.ci_machine_laws.proofs.Prelude.{and_left, false_from_ne_true, length-map, Failed, Part, JobGraph, part_at, predecessors_of, Has, Rising, has_filter, filter_has}
use Rattle.ci_machine_laws.proofs.Prelude.{has_find, has_map, find-map, one_at, has_from_all, All-from_has, any_has, has_any, put_all, not_its, Sound, sound}
use Rattle.ci_machine_steps.specs.Prelude.{AttemptState, AllowFailure, is_live_state, Effect, Good, Bars, Facts, Row, Status, is_status, is_allowed, is_allowed_by, effect}
use Rattle.ci_machine_steps.specs.Prelude.{is_open, is_met, waits_for_play, idle_status, status_by, status_of_effects, AreRows, no_facts, no_row, facts_at, statuses, effects_of}
use Rattle.ci_machine_steps.specs.Prelude.{IsAssignment, some_job, has_status, has_strict, pipeline_status, Lease, Attempt, BoardRow, Job, Pipeline, PipelineWithStatus, Event}
use Rattle.ci_machine_steps.specs.Prelude.{Seed, Answer, Swept, RowChange, State, applied, attempt_cmp, jobs_of, attempts_of, graph_of, facts_in, facts_of, row_for, rows_of}
use Rattle.ci_machine_steps.specs.Prelude.{status_for, AreBoard, is_live, is_over, cause_of, first_due, is_unfinished, is_newer_of, is_redundant, is_open_in, is_cancellable}
use Rattle.ci_machine_steps.specs.Prelude.{cancellable_jobs, is_lease_on, cancelled_job, cancelled_attempt, cancel, is_job_among, ends, sweep, Step, lease_of, leases}
use Rattle.ci_machine_steps.specs.Prelude.{live_attempts, with_status, was_tried, redundant_in, cancellable_in, sweep_in, Past, Leads, NoneIsDue, NoneIsRedundant, IsSweptBy}
use Rattle.ci_machine_steps.specs.Prelude.{HasOneBoard}
use Rattle.ci_board.specs.declared.facts.Effect.TheVariants.{Open}
use Rattle.ci_machine_laws.specs.Sweeping.{Sweeps, unended, EndsBy}
use Rattle.ci_machine_laws.proofs.Acts.{cancellable_within, after_cancel}
use Rattle.ci_machine_laws.proofs.AllLaws.{laws}
use Rattle.ci_machine_laws.proofs.Altered.{altered, Alters, long_altered, graph_altered, facts_altered, attempts_altered, facts_kept, open_by, open_as_it_was}
use Rattle.ci_machine_laws.proofs.Counts.{passing, passing_mapped, passing_implied, passing_fewer}
use Rattle.ci_machine_laws.proofs.Finished.{map_same}
use Rattle.ci_machine_laws.proofs.Numbers.{sound_reached}
use Rattle.ci_machine_laws.proofs.Bounded.{within_limit}
use Rattle.ci_machine_laws.proofs.Reached.{reached}
use Rattle.ci_machine_laws.proofs.OneBoard.{OneAssignment, one_board, rows_with, rows_like, assembled, its_keys, its_rows}
use Rattle.ci_machine_laws.proofs.PutAll.{map_twice, all_at, all_at_id, all_in_place, rising_mapped, changed_at, left_at, made_in_place}
use Rattle.ci_board.specs.Standing as standing
use Rattle.ci_machine_laws.proofs.Held as every

-- ---- how many there are

unended_is : (s : State) (board : List BoardRow) → unended s board ≡ passing is_live s.attempts + passing (is_open_in s board) s.pipelines
unended_is s board = ap (λ n. passing is_live s.attempts + n) (length-map (filter (is_open_in s board) s.pipelines) (λ (p : Pipeline). record { pipeline = p.id }))

-- ---- statuses

some_none : (n : ℕ) (test : ℕ → Bool) → ((k : ℕ) → k < n → test k ≡ false) → some_job n test ≡ false
some_none zero test h = refl
some_none (suc n) test h = rw (h n (omega arith)) (some_none n test (λ k l. h k (omega arith)))

-- what can't be cancelled is none of these
not_active : (s : Status) → is_cancellable s ≡ false → (is_status Status.Running s ≡ false) × (is_status Status.Pending s ≡ false) × (is_status Status.Manual s ≡ false)
not_active Status.Running e = absurd (false≢true (sym e))
not_active Status.Pending e = absurd (false≢true (sym e))
not_active Status.Manual e = absurd (false≢true (sym e))
not_active s e = (refl, refl, refl)

-- a pipeline without jobs that can be cancelled is finished
is_finished : (parts : List Part) (facts : List Facts) (a : ℕ → Status) → ((k : ℕ) → k < length parts → is_cancellable (a k) ≡ false) → is_unfinished (pipeline_status parts facts a) ≡ false
is_finished parts facts a h =
    let n = length parts in
    let runs : some_job n (has_status a Status.Running) ≡ false = some_none n (has_status a Status.Running) (λ k l. (not_active (a k) (h k l)).0) in
    let waits : some_job n (has_status a Status.Pending) ≡ false = some_none n (has_status a Status.Pending) (λ k l. (not_active (a k) (h k l)).1) in
    let manual : some_job n (has_strict parts facts a Status.Manual) ≡ false = some_none n (has_strict parts facts a Status.Manual) (λ k l. and_left (is_status Status.Manual (a k)) _ (not_active (a k) (h k l)).2) in
    rw runs (rw waits (rw manual (
    cond_both (some_job n (has_strict parts facts a Status.Failed)) Status.Failed _ (λ s. is_unfinished s ≡ false) (λ _. refl) (λ _.
    cond_both (some_job n (has_strict parts facts a Status.Canceled)) Status.Canceled _ (λ s. is_unfinished s ≡ false) (λ _. refl) (λ _.
    cond_both (some_job n (λ j. not (is_status Status.Skipped (a j) || is_status Status.Manual (a j)))) Status.Success Status.Skipped (λ s. is_unfinished s ≡ false) (λ _. refl) (λ _. refl))))))

-- what the status is once it was cancelled, if it can be
abbrev once_cancelled : Status → Status
once_cancelled s = if is_cancellable s then Status.Canceled else s

never_again : (s : Status) → is_cancellable (once_cancelled s) ≡ false
never_again s = cond_both (is_cancellable s) Status.Canceled s (λ t. is_cancellable t ≡ false) (λ _. refl) (λ e. e)

-- a job that may fail while it is manual may fail once it is cancelled
allowed_once : (allow_failure : AllowFailure) (f g : Facts) → is_allowed_by allow_failure f Status.Manual ≡ true → is_allowed_by allow_failure g Status.Canceled ≡ true
allowed_once AllowFailure.No f g e = absurd (false≢true e)
allowed_once AllowFailure.Yes f g e = refl
allowed_once (AllowFailure.ExitCodes codes) f g e = absurd (false≢true e)

-- to the jobs behind it a job that wasn't open means what it meant
same_effect : (part : Part) (f g : Facts) (gives_needs : Bool) (s : Status) → (is_cancellable s ≡ false → g ≡ f) → is_open (effect part f gives_needs s) ≡ false → effect part g gives_needs (once_cancelled s) ≡ effect part f gives_needs s
same_effect part f g gives_needs Status.Created same closed = absurd (false≢true (sym closed))
same_effect part f g gives_needs Status.Pending same closed = absurd (false≢true (sym closed))
same_effect part f g gives_needs Status.Running same closed = absurd (false≢true (sym closed))
same_effect part f g gives_needs Status.Manual same closed =
    ⊎_elim
    (λ e. cond-true (is_allowed part g Status.Canceled) Good Bars (allowed_once part.allow_failure f g e) ∙ sym (cond-true (is_allowed part f Status.Manual) Good Open e))
    (λ e. absurd (false≢true (sym closed ∙ ap is_open (cond-false (is_allowed part f Status.Manual) Good Open e))))
    (cases_Bool (is_allowed part f Status.Manual))
same_effect part f g gives_needs s same closed = ap (λ (h : Facts). effect part h gives_needs s) (same refl)

none_open : (es : List Effect) → list_any is_open es ≡ false → (e : Effect) → Has e es → is_open e ≡ false
none_open es none e k = false_from_ne_true (is_open e) (λ t. both_ways (list_any is_open es) none (has_any is_open e es k t))

-- the status of an idle job that can't be cancelled: it is skipped, and none that it waits for is open
idle_skipped : (part : Part) (f : Facts) (es : List Effect) → is_cancellable (idle_status part f es) ≡ false → list_any is_open es ≡ false
idle_skipped part f es e =
    let closed = if is_met part.«when» es then (if waits_for_play part.«when» f then Status.Manual else Status.Pending) else Status.Skipped in
    false_from_ne_true (list_any is_open es) (λ t. false≢true (sym e ∙ ap is_cancellable (cond-true (list_any is_open es) Status.Created closed t)))

-- ---- a pipeline whose jobs are cancelled

-- at each place of a list: its member there, with what three functions make of it
picked : {A B C D : Type 0} (f : A → B) (g : A → C) (h : A → D) (b : B) (c : C) (d : D) (xs : List A) (k : ℕ) → k < length xs
    → (x : A) × Has x xs × (slice_index_or (map f xs) k b ≡ f x) × (slice_index_or (map g xs) k c ≡ g x) × (slice_index_or (map h xs) k d ≡ h x)
picked f g h b c d [] k l = absurd (omega arith)
picked f g h b c d (x ∷ xs) zero l = (x, inl refl, refl, refl, refl)
picked f g h b c d (x ∷ xs) (suc k) l = let w = picked f g h b c d xs k (omega arith) in (w.0, inr w.1, w.2, w.3, w.4)

-- and past its end
picked_past : {A B : Type 0} (f : A → B) (b : B) (xs : List A) (k : ℕ) → length xs ≤ k → slice_index_or (map f xs) k b ≡ b
picked_past f b [] k l = refl
picked_past f b (x ∷ xs) zero l = absurd (omega arith)
picked_past f b (x ∷ xs) (suc k) l = picked_past f b xs k (omega arith)

-- where none of these attempts is live, the last isn't
last_ended : (f : Attempt → Attempt) (xs : List Attempt) (o : Option Attempt) → standing.is_live (option_map (λ (a : Attempt). a.state) o) ≡ false → ((a : Attempt) → Has a xs → is_live (f a) ≡ false)
    → standing.is_live (option_map (λ (a : Attempt). a.state) (last_or o (map f xs))) ≡ false
last_ended f [] o e h = e
last_ended f (x ∷ xs) o e h = last_ended f xs (Some (f x)) (h x (inl refl)) (λ a k. h a (inr k))

module _ (s : State) (board : List BoardRow) (are : AreBoard s board) (known : Sound s) (p : Pipeline) where
  abbrev marked : List Job
  marked = cancellable_jobs s board p.id

  abbrev ended : List Attempt
  ended = filter (is_lease_on marked) s.attempts

  abbrev of_job : Job → Job
  of_job = all_at (λ (j : Job). j.id) (map cancelled_job marked)

  abbrev of_attempt : Attempt → Attempt
  of_attempt = all_at (λ (a : Attempt). a.id) (map cancelled_attempt ended)

  abbrev t : State
  t = altered s of_job of_attempt

  in_jobs : (j : Job) → Has j marked → Has j s.jobs
  in_jobs j k = cancellable_within s board p.id j k

  in_attempts : (a : Attempt) → Has a ended → Has a s.attempts
  in_attempts a k = (has_filter (is_lease_on marked) a s.attempts k).0

  of_marked : (j : Job) → Has j marked → of_job j ≡ cancelled_job j
  of_marked j k = changed_at (λ (w : Job). w.id) cancelled_job (λ w. refl) marked s.jobs known.jobs in_jobs j k

  of_other : (j : Job) → Has j s.jobs → (Has j marked → ⊥) → of_job j ≡ j
  of_other j k out = left_at (λ (w : Job). w.id) cancelled_job (λ w. refl) marked s.jobs known.jobs in_jobs j k out

  of_ended : (a : Attempt) → Has a ended → of_attempt a ≡ cancelled_attempt a
  of_ended a k = changed_at (λ (w : Attempt). w.id) cancelled_attempt (λ w. refl) ended s.attempts known.attempts in_attempts a k

  of_standing : (a : Attempt) → Has a s.attempts → is_lease_on marked a ≡ false → of_attempt a ≡ a
  of_standing a k e = left_at (λ (w : Attempt). w.id) cancelled_attempt (λ w. refl) ended s.attempts known.attempts in_attempts a k (λ m. both_ways (is_lease_on marked a) e (has_filter (is_lease_on marked) a s.attempts m).1)

  -- ---- what stays of each

  either_job : (P : Job → Type 0) (j : Job) → Has j s.jobs → P (cancelled_job j) → P j → P (of_job j)
  either_job P j k there other =
      cond_both ((j.pipeline == p.id) && is_cancellable (status_for board j.id)) zero zero (λ _. P (of_job j))
      (λ e. let both = and_parts (j.pipeline == p.id) (is_cancellable (status_for board j.id)) e in
      subst P (sym (of_marked j (filter_has (λ (w : Job). is_cancellable (status_for board w.id)) j (jobs_of s p.id) (filter_has (λ (w : Job). w.pipeline == p.id) j s.jobs k both.0) both.1))) there)
      (λ e. subst P (sym (of_other j k (λ m.
      let w = has_filter (λ (v : Job). is_cancellable (status_for board v.id)) j (jobs_of s p.id) m in
      both_ways ((j.pipeline == p.id) && is_cancellable (status_for board j.id)) e (and_from (j.pipeline == p.id) (is_cancellable (status_for board j.id)) (has_filter (λ (v : Job). v.pipeline == p.id) j s.jobs w.0).1 w.1)))) other)

  either_attempt : (P : Attempt → Type 0) (a : Attempt) → Has a s.attempts → (is_lease_on marked a ≡ true → P (cancelled_attempt a)) → (is_lease_on marked a ≡ false → P a) → P (of_attempt a)
  either_attempt P a k there other =
      ⊎_elim
      (λ e. subst P (sym (of_ended a (filter_has (is_lease_on marked) a s.attempts k e))) (there e))
      (λ e. subst P (sym (of_standing a k e)) (other e))
      (cases_Bool (is_lease_on marked a))

  alters : Alters s of_job of_attempt
  alters = record {
    id = λ j k. either_job (λ (w : Job). w.id ≡ j.id) j k refl refl;
    pipeline = λ j k. either_job (λ (w : Job). w.pipeline ≡ j.pipeline) j k refl refl;
    options = λ j k. either_job (λ (w : Job). w.options ≡ j.options) j k refl refl;
    job = λ a k. either_attempt (λ (w : Attempt). w.job ≡ a.job) a k (λ _. refl) (λ _. refl);
  }

  -- none is live that wasn't
  still_live : (a : Attempt) → Has a s.attempts → is_live (of_attempt a) ≡ true → is_live a ≡ true
  still_live a k = either_attempt (λ (w : Attempt). is_live w ≡ true → is_live a ≡ true) a k (λ _ e. absurd (false≢true e)) (λ _ e. e)

  -- ---- the facts of its jobs

  facts_of_other : (j : Job) → Has j s.jobs → (Has j marked → ⊥) → facts_in t (of_job j) ≡ facts_in s j
  facts_of_other j k out =
      facts_kept s of_job of_attempt alters j (of_other j k out) (λ a m.
      let w = has_filter (λ (b : Attempt). b.job == j.id) a s.attempts m in
      of_standing a w.0 (false_from_ne_true (is_lease_on marked a) (λ e.
      let on = any_has (λ (v : Job). v.id == a.job) marked (and_parts (is_live a) (list_any (λ (v : Job). v.id == a.job) marked) e).1 in
      let same : on.0 ≡ j = one_at (λ (v : Job). v.id) on.0 j 0 s.jobs known.jobs (in_jobs on.0 on.1.0) k (eqb-true on.0.id a.job on.1.1 ∙ eqb-true a.job j.id w.1) in
      out (subst (λ (v : Job). Has v marked) same on.1.0))))

  -- a cancelled job is canceled
  stands_canceled : (part : Part) (j : Job) → Has j marked → standing.standing part (facts_in t (of_job j)) ≡ Some Status.Canceled
  stands_canceled part j k =
      let last : List Attempt → Bool = λ l. standing.is_live (option_map (λ (a : Attempt). a.state) (last_or None l)) in
      let none : last (map of_attempt (attempts_of s j.id)) ≡ false = last_ended of_attempt (attempts_of s j.id) None refl (λ a m.
      let w = has_filter (λ (b : Attempt). b.job == j.id) a s.attempts m in
      either_attempt (λ (v : Attempt). is_live v ≡ false) a w.0 (λ _. refl) (λ e. false_from_ne_true (is_live a) (λ live.
      both_ways (is_lease_on marked a) e (and_from (is_live a) (list_any (λ (v : Job). v.id == a.job) marked) live
      (has_any (λ (v : Job). v.id == a.job) j marked k (eq-eqb j.id a.job (sym (eqb-true a.job j.id w.1)))))))) in
      let ended_last : last (attempts_of t j.id) ≡ false = ap last (attempts_altered s of_job of_attempt alters j.id) ∙ none in
      ap (λ (w : Job). standing.standing part (facts_in t w)) (of_marked j k)
      ∙ cond-false (last (attempts_of t j.id)) (Some Status.Running) (Some Status.Canceled) ended_last

  -- ---- its jobs' statuses

  abbrev its : List Job
  its = jobs_of s p.id

  abbrev a : ℕ → Status
  a = statuses (rows_of s board p.id)

  abbrev old : List Facts
  old = facts_of s p.id

  abbrev fresh : List Facts
  fresh = map (λ (j : Job). facts_in t (of_job j)) its

  abbrev b : ℕ → Status
  b k = once_cancelled (a k)

  -- the job at a place, with its facts before and after, and its status
  record IsAt (k : ℕ) : Type 0 where
    job : Job
    has : Has job its
    was : facts_at old k ≡ facts_in s job
    is : facts_at fresh k ≡ facts_in t (of_job job)
    stands : a k ≡ status_for board job.id

  at_place : (k : ℕ) → k < length its → IsAt k
  at_place k l =
      let w = picked (facts_in s) (λ (j : Job). facts_in t (of_job j)) (λ (j : Job). row_for board j.id) no_facts no_facts no_row its k l in
      let rows : rows_of s board p.id ≡ map (λ (j : Job). row_for board j.id) its = sym (map_twice (row_for board) (λ (j : Job). j.id) its) in
      record {
        job = w.0;
        has = w.1;
        was = w.2;
        is = w.3;
        stands = ap (λ (rs : List Row). (slice_index_or rs k no_row).status) rows ∙ ap (λ (r : Row). r.status) w.4;
      }

  is_marked : (k : ℕ) (w : IsAt k) → is_cancellable (a k) ≡ true → Has w.job marked
  is_marked k w e = filter_has (λ (v : Job). is_cancellable (status_for board v.id)) w.job its w.has (sym (ap is_cancellable w.stands) ∙ e)

  isnt_marked : (k : ℕ) (w : IsAt k) → is_cancellable (a k) ≡ false → Has w.job marked → ⊥
  isnt_marked k w e m = both_ways (is_cancellable (a k)) e (ap is_cancellable w.stands ∙ (has_filter (λ (v : Job). is_cancellable (status_for board v.id)) w.job its m).1)

  -- a job that can't be cancelled has the facts that it had
  facts_same : (k : ℕ) → is_cancellable (a k) ≡ false → facts_at fresh k ≡ facts_at old k
  facts_same k e =
      ⊎_elim
      (λ (l : k < length its).
      let w = at_place k l in
      w.is ∙ (facts_of_other w.job (has_filter (λ (v : Job). v.pipeline == p.id) w.job s.jobs w.has).0 (isnt_marked k w e) ∙ sym w.was))
      (λ (l : length its ≤ k). picked_past (λ (j : Job). facts_in t (of_job j)) no_facts its k l ∙ sym (picked_past (facts_in s) no_facts its k l))
      (cases_lt k (length its))

  abbrev g : JobGraph
  g = graph_of s p.id

  assigned_after : IsAssignment g fresh b
  assigned_after k l =
      let within : k < length its = let e : length g.parts ≡ length its = length-map its (λ (j : Job). j.options.part) in omega arith in
      let w = at_place k within in
      let part = part_at g k in
      let before : a k ≡ status_of_effects part (facts_at old k) (effects_of g old a k) = (are.each p.id).is k l in
      ⊎_elim
      (λ (e : is_cancellable (a k) ≡ true).
      cond-true (is_cancellable (a k)) Status.Canceled (a k) e
      ∙ sym (ap (λ (o : Option Status). status_by o (idle_status part (facts_at fresh k) (effects_of g fresh b k))) (ap (standing.standing part) w.is ∙ stands_canceled part w.job (is_marked k w e))))
      (λ (e : is_cancellable (a k) ≡ false).
      let same = facts_same k e in
      let stays : b k ≡ a k = cond-false (is_cancellable (a k)) Status.Canceled (a k) e in
      stays ∙ (rest part (facts_at old k) (effects_of g old a k) (standing.standing part (facts_at old k)) refl (a k) e before (effects_of g fresh b k) (λ closed. effects_same k closed)
      ∙ sym (ap (λ (f : Facts). status_of_effects part f (effects_of g fresh b k)) same)))
      (cases_Bool (is_cancellable (a k)))
    where
      -- where none that a job waits for is open, they mean to it what they meant
      effects_same : (k : ℕ) → list_any is_open (effects_of g old a k) ≡ false → effects_of g fresh b k ≡ effects_of g old a k
      effects_same k closed =
          map_same (λ q. effect (part_at g q) (facts_at fresh q) (part_at g k).gives_needs (b q)) (λ q. effect (part_at g q) (facts_at old q) (part_at g k).gives_needs (a q)) (predecessors_of g k)
          (λ q m. same_effect (part_at g q) (facts_at old q) (facts_at fresh q) (part_at g k).gives_needs (a q) (facts_same q)
          (none_open (effects_of g old a k) closed (effect (part_at g q) (facts_at old q) (part_at g k).gives_needs (a q)) (has_map (λ r. effect (part_at g r) (facts_at old r) (part_at g k).gives_needs (a r)) q (predecessors_of g k) m)))

      rest : (part : Part) (f : Facts) (es : List Effect) (o : Option Status) → standing.standing part f ≡ o → (st : Status) → is_cancellable st ≡ false → st ≡ status_of_effects part f es → (fs : List Effect)
          → (list_any is_open es ≡ false → fs ≡ es) → st ≡ status_of_effects part f fs
      rest part f es (Some stands) is st e before fs same =
          before ∙ (ap (λ (o : Option Status). status_by o (idle_status part f es)) is ∙ sym (ap (λ (o : Option Status). status_by o (idle_status part f fs)) is))
      rest part f es None is st e before fs same =
          let idle : st ≡ idle_status part f es = before ∙ ap (λ (o : Option Status). status_by o (idle_status part f es)) is in
          before ∙ ap (status_of_effects part f) (sym (same (idle_skipped part f es (sym (ap is_cancellable idle) ∙ e))))

  -- it is finished
  pub finished_after : HasOneBoard t → (after : List BoardRow) → AreBoard t after → is_open_in t after p ≡ false
  finished_after one after are_after =
      open_by s of_job of_attempt alters one after are_after p fresh b (facts_altered s of_job of_attempt alters p.id) assigned_after
      ∙ is_finished (map (λ (j : Job). j.options.part) its) fresh b (λ k l. never_again (a k))

  -- and each other is as it was
  pub others_after : HasOneBoard t → (after : List BoardRow) → AreBoard t after → (q : Pipeline) → (q.id ≡ p.id → ⊥) → is_open_in t after q ≡ is_open_in s board q
  others_after one after are_after q other =
      open_as_it_was s of_job of_attempt alters one after are_after q board are
      (facts_altered s of_job of_attempt alters q.id ∙ map_same (λ (j : Job). facts_in t (of_job j)) (facts_in s) (jobs_of s q.id) (λ j k.
      let w = has_filter (λ (v : Job). v.pipeline == q.id) j s.jobs k in
      facts_of_other j w.0 (λ m.
      let v = has_filter (λ (u : Job). u.pipeline == p.id) j s.jobs (has_filter (λ (u : Job). is_cancellable (status_for board u.id)) j (jobs_of s p.id) m).0 in
      other (sym (eqb-true j.pipeline q.id w.1) ∙ eqb-true j.pipeline p.id v.1))))

  -- the changes of the cancellation lead to it
  pub cancelled_state : applied (cancel s.attempts marked) s ≡ t
  cancelled_state =
      after_cancel s marked in_jobs
      ∙ (λ i. record s {
        jobs = made_in_place (λ (j : Job). j.id) cancelled_job (λ w. refl) marked s.jobs known.jobs in_jobs i;
        attempts = made_in_place (λ (w : Attempt). w.id) cancelled_attempt (λ w. refl) ended s.attempts known.attempts in_attempts i;
      })

  pub fewer_cancelled : HasOneBoard t → Has p s.pipelines → is_open_in s board p ≡ true → (after : List BoardRow) → AreBoard t after → unended t after + 1 ≤ unended s board
  fewer_cancelled one has unfinished after are_after =
      let live : passing is_live (map of_attempt s.attempts) ≤ passing is_live s.attempts
      = subst (λ n. n ≤ passing is_live s.attempts) (sym (passing_mapped is_live of_attempt s.attempts)) (passing_implied is_live (λ w. is_live (of_attempt w)) s.attempts still_live) in
      let done = finished_after one after are_after in
      let open_still : passing (is_open_in t after) s.pipelines + 1 ≤ passing (is_open_in s board) s.pipelines
      = passing_fewer (is_open_in s board) (is_open_in t after) s.pipelines
      (λ q k e. ⊎_elim
      (λ same. subst (λ (w : Pipeline). is_open_in s board w ≡ true) (sym (one_at (λ (w : Pipeline). w.id) q p 0 s.pipelines known.pipelines k has (eqb-true q.id p.id same))) unfinished)
      (λ differs. sym (others_after one after are_after q (λ same. both_ways (q.id == p.id) differs (eq-eqb q.id p.id same))) ∙ e)
      (cases_Bool (q.id == p.id)))
      p has unfinished done in
      omega (arith, unended_is t after, unended_is s board)

-- ---- a lease that ends

module _ (s : State) (board : List BoardRow) (are : AreBoard s board) (known : Sound s) (x : Attempt) (has : Has x s.attempts) (live : is_live x ≡ true) (state : AttemptState) (over : is_live_state state ≡ false) where
  abbrev last : Attempt
  last = record x { state = state }

  -- it alone stands otherwise
  abbrev with_end : Attempt → Attempt
  with_end = all_at (λ (a : Attempt). a.id) (last ∷ [])

  abbrev after_end : State
  after_end = altered s (λ j. j) with_end

  ends_so : with_end x ≡ last
  ends_so = cond-true (x.id == x.id) last x (eq-eqb x.id x.id refl)

  either_end : (P : Attempt → Type 0) (a : Attempt) → Has a s.attempts → (a ≡ x → P last) → ((a.id ≡ x.id → ⊥) → P a) → P (with_end a)
  either_end P a k there other =
      cond_both (a.id == x.id) last a P
      (λ e. there (one_at (λ (w : Attempt). w.id) a x 0 s.attempts known.attempts k has (eqb-true a.id x.id e)))
      (λ e. other (λ same. both_ways (a.id == x.id) e (eq-eqb a.id x.id same)))

  alters_end : Alters s (λ j. j) with_end
  alters_end = record {
    id = λ j k. refl;
    pipeline = λ j k. refl;
    options = λ j k. refl;
    job = λ a k. either_end (λ (w : Attempt). w.job ≡ a.job) a k (λ e. sym (ap (λ (w : Attempt). w.job) e)) (λ _. refl);
  }

  -- a pipeline that is open then was open
  was_open : HasOneBoard after_end → (after : List BoardRow) → AreBoard after_end after → (q : Pipeline) → is_open_in after_end after q ≡ true → is_open_in s board q ≡ true
  was_open one after are_after q e =
      ⊎_elim
      (λ unfinished. unfinished)
      (λ finished.
      let outside = not_its s board q known are finished x has live in
      let stands = open_as_it_was s (λ j. j) with_end alters_end one after are_after q board are
      (facts_altered s (λ j. j) with_end alters_end q.id ∙ map_same (λ (j : Job). facts_in after_end j) (facts_in s) (jobs_of s q.id) (λ j k.
      facts_kept s (λ w. w) with_end alters_end j refl (λ a m.
      let w = has_filter (λ (b : Attempt). b.job == j.id) a s.attempts m in
      either_end (λ (v : Attempt). v ≡ a) a w.0
      (λ same. absurd (both_ways (is_job_among (jobs_of s q.id) x.job) outside
      (has_any (λ (v : Job). v.id == x.job) j (jobs_of s q.id) k (eq-eqb j.id x.job (sym (eqb-true a.job j.id w.1) ∙ ap (λ (v : Attempt). v.job) same)))))
      (λ _. refl)))) in
      sym stands ∙ e)
      (cases_Bool (is_open_in s board q))

  pub ended_state : put_all attempt_cmp (last ∷ []) s.attempts ≡ map with_end s.attempts
  ended_state = all_in_place (λ (a : Attempt). a.id) (last ∷ []) s.attempts known.attempts (λ r k. ⊎_elim (λ e. (x, (has, sym (ap (λ (w : Attempt). w.id) e)))) (λ m. absurd m) k)

  pub fewer_ended : HasOneBoard after_end → (after : List BoardRow) → AreBoard after_end after → unended after_end after + 1 ≤ unended s board
  fewer_ended one after are_after =
      let fewer : passing is_live (map with_end s.attempts) + 1 ≤ passing is_live s.attempts
      = subst (λ n. n + 1 ≤ passing is_live s.attempts) (sym (passing_mapped is_live with_end s.attempts))
      (passing_fewer is_live (λ w. is_live (with_end w)) s.attempts
      (λ a k. either_end (λ (w : Attempt). is_live w ≡ true → is_live a ≡ true) a k (λ _ e. absurd (false≢true (sym over ∙ e))) (λ _ e. e)) x has live (ap is_live ends_so ∙ over)) in
      let open_still : passing (is_open_in after_end after) s.pipelines ≤ passing (is_open_in s board) s.pipelines
      = passing_implied (is_open_in s board) (is_open_in after_end after) s.pipelines (λ q k e. was_open one after are_after q e) in
      omega (arith, unended_is after_end after, unended_is s board)

-- ---- one sweep

-- the redundant pipeline that a sweep finds is there, and isn't finished
abbrev is_redundant_among : State → List BoardRow → PipelineWithStatus → Bool
is_redundant_among s board = is_redundant (map (with_status s board) s.pipelines) (filter (was_tried s) s.jobs)

redundant_found : (s : State) (board : List BoardRow) (p : Pipeline) (o : Option PipelineWithStatus) → find (is_redundant_among s board) (map (with_status s board) s.pipelines) ≡ o
    → option_map (λ (q : PipelineWithStatus). q.pipeline) o ≡ Some p → Has p s.pipelines × (is_open_in s board p ≡ true)
redundant_found s board p None found e = absurd (cc)
redundant_found s board p (Some q) found e =
    let test = is_redundant_among s board in
    let w = find-map (with_status s board) test q s.pipelines found in
    let first = has_find (λ (v : Pipeline). test (with_status s board v)) w.0 s.pipelines w.1.1 in
    let is : q.pipeline ≡ p = cc in
    let same : w.0 ≡ p = ap (λ (v : PipelineWithStatus). v.pipeline) w.1.0 ∙ is in
    let both = and_parts (is_open_in s board w.0 && list_any (λ (v : PipelineWithStatus). is_newer_of w.0 v.pipeline) (map (with_status s board) s.pipelines)) _ first.1 in
    subst (λ (v : Pipeline). Has v s.pipelines × (is_open_in s board v ≡ true)) same (first.0, (and_parts (is_open_in s board w.0) _ both.0).0)

redundant_open : (s : State) (board : List BoardRow) (p : Pipeline) → redundant_in s board ≡ Some p → Has p s.pipelines × (is_open_in s board p ≡ true)
redundant_open s board p found = redundant_found s board p (find (is_redundant_among s board) (map (with_status s board) s.pipelines)) refl found

-- what a sweep does that does something leaves less
module _ (law : OneAssignment) (h : List Past) (s : State) (leads : Leads h s) (now : ℕ) where
  known : Sound s
  known = sound s (sound_reached s (h, leads))

  abbrev Leaves : List BoardRow → State → Swept × List RowChange → Type 0
  Leaves board t f = t ≡ applied f.1 s → (f.0 ≡ Swept.Nothing → ⊥) → HasOneBoard t → (after : List BoardRow) → AreBoard t after → unended t after + 1 ≤ unended s board

  module _ (board : List BoardRow) (are : AreBoard s board) where
    -- the attempt whose lease ends, and the state that this leads to
    record EndsAs (l : Lease) : Type 0 where
      x : Attempt
      has : Has x s.attempts
      live : is_live x ≡ true
      to : applied (ends l).1 s ≡ after_end s board are known x has live (Failed (cause_of l) None) refl

    ends_as : (l : Lease) → first_due (leases s) now ≡ Some l → EndsAs l
    ends_as l found =
        let due = find-map (lease_of s) (λ (w : Lease). is_over w.attempt w.limit now) l (live_attempts s) found in
        let x = due.0 in
        let same : x ≡ l.attempt = ap (λ (w : Lease). w.attempt) due.1.0 in
        let first = has_find (λ (b : Attempt). is_over b (lease_of s b).limit now) x (live_attempts s) due.1.1 in
        let has = has_filter is_live x s.attempts first.0 in
        let state : AttemptState = Failed (cause_of l) None in
        record {
          x = x;
          has = has.0;
          live = has.1;
          to = (λ i. record s { attempts = put_all attempt_cmp (record (sym same i) { state = state } ∷ []) s.attempts })
              ∙ (λ i. record s { jobs = sym (map-id s.jobs) i; attempts = ended_state s board are known x has.0 has.1 state refl i });
        }

  of_end : (board : List BoardRow) → AreBoard s board → (t : State) (l : Lease) → first_due (leases s) now ≡ Some l → Leaves board t (ends l)
  of_end board are t l found is something one after are_after =
      let w = ends_as board are l found in
      subst (λ (v : State). HasOneBoard v → AreBoard v after → unended v after + 1 ≤ unended s board) (sym (is ∙ w.to))
      (λ only its. fewer_ended s board are known w.x w.has w.live (Failed (cause_of l) None) refl only after its) one are_after

  of_cancel : (board : List BoardRow) → AreBoard s board → (t : State) (p : Pipeline) → redundant_in s board ≡ Some p → Leaves board t (Swept.Cancelled p.id, cancel s.attempts (cancellable_jobs s board p.id))
  of_cancel board are t p found is something one after are_after =
      let found_open = redundant_open s board p found in
      subst (λ (w : State). HasOneBoard w → AreBoard w after → unended w after + 1 ≤ unended s board) (sym (is ∙ cancelled_state s board are known p))
      (λ only its. fewer_cancelled s board are known p only found_open.0 found_open.1 after its) one are_after

  of_sweep : (board : List BoardRow) → AreBoard s board → (t : State) (o : Option Lease) → first_due (leases s) now ≡ o → (redundant : Option Pipeline) → redundant_in s board ≡ redundant
      → Leaves board t (sweep o redundant s.attempts (cancellable_in s board redundant))
  of_sweep board are t (Some l) due redundant found = of_end board are t l due
  of_sweep board are t None due (Some p) found = of_cancel board are t p found
  of_sweep board are t None due None found = λ is something one after are_after. absurd (something refl)

  leaves_less : (seed : Seed) (did : Swept) (t : State) (was : HasOneBoard s) (is : HasOneBoard t) → Step s Event.Sweep now seed (Answer.Swept did) t → (did ≡ Swept.Nothing → ⊥) → unended t is.board + 1 ≤ unended s was.board
  leaves_less seed did t was is step something =
      let less : unended t is.board + 1 ≤ unended s step.before
      = subst (Leaves step.before t) (sym step.happens) (of_sweep step.before step.are_before t (first_due (leases s) now) refl (redundant_in s step.before) refl) step.state something is is.board is.are_board in
      subst (λ (b : List BoardRow). unended t is.board + 1 ≤ unended s b) (was.only step.before step.are_before) less

  -- ---- it can be made

  -- the state in which jobs and attempts stand otherwise has rows
  has_board : (of_job : Job → Job) (of_attempt : Attempt → Attempt) → Alters s of_job of_attempt → ((j : Job) → (of_job j).id ≡ j.id) → (board : List BoardRow) × AreBoard (altered s of_job of_attempt) board
  has_board of_job of_attempt alters same_id =
      let t = altered s of_job of_attempt in
      let rise : Rising (λ (j : Job). j.id) 0 t.jobs = rising_mapped (λ (j : Job). j.id) of_job 0 s.jobs same_id known.jobs in
      let its = every.held h s leads in
      let jobs_rise = (reached h s leads).grants.jobs_rise in
      let limit = within_limit h s leads in
      let long : (m : ℕ) → length (jobs_of t m) ≡ length (jobs_of s m) = λ m. long_altered s of_job of_attempt alters m in
      let some : (m : ℕ) → (rows : List Row) × AreRows (graph_of s m) (facts_of t m) rows
      = λ m. rows_with law s jobs_rise its.linked its.joined limit m (facts_of t m) (length-map (jobs_of t m) (facts_in t) ∙ long m) in
      let rows : ℕ → List Row = λ m. (some m).0 in
      let board = assembled t rise rows in (
        board,
        record {
          keys = its_keys t rise rows;
          each = λ m. subst (λ (graph : JobGraph). AreRows graph (facts_of t m) (rows_of t board m)) (sym (graph_altered s of_job of_attempt alters m))
              (rows_like law s jobs_rise its.linked its.joined limit m (facts_of t m) (rows m) (rows_of t board m)
              (λ k l. its_rows t rise rows m k (subst (λ n. k < n) (sym (long m)) l)) (some m).1);
        },
      )

  -- the state that these changes lead to has rows
  abbrev Stands : State → Type 0
  Stands t = (after : List BoardRow) × AreBoard t after

  sweep_stands : (board : List BoardRow) → AreBoard s board → (o : Option Lease) → first_due (leases s) now ≡ o → (redundant : Option Pipeline) → redundant_in s board ≡ redundant
      → Stands (applied (sweep o redundant s.attempts (cancellable_in s board redundant)).1 s)
  sweep_stands board are (Some l) due redundant found =
      let w = ends_as board are l due in
      let state : AttemptState = Failed (cause_of l) None in
      subst Stands (sym w.to)
      (has_board (λ j. j) (with_end s board are known w.x w.has w.live state refl) (alters_end s board are known w.x w.has w.live state refl) (λ j. refl))
  sweep_stands board are None due (Some p) found =
      subst Stands (sym (cancelled_state s board are known p))
      (has_board (of_job s board are known p) (of_attempt s board are known p) (alters s board are known p) (λ j. all_at_id (λ (w : Job). w.id) (map cancelled_job (cancellable_jobs s board p.id)) j))
  sweep_stands board are None due None found = (board, are)

  made : (seed : Seed) → (did : Swept) × (t : State) × Step s Event.Sweep now seed (Answer.Swept did) t
  made seed =
      let one = one_board law h s leads in
      let did = sweep_in s one.board now in
      let stands = sweep_stands one.board one.are_board (first_due (leases s) now) refl (redundant_in s one.board) refl in (
        did.0,
        applied did.1 s,
        record { before = one.board; are_before = one.are_board; changes = did.1; happens = refl; state = refl; after = stands.0; are_after = stands.1 },
      )

-- ---- many sweeps

pub so_many : OneAssignment → (now : ℕ) (h : List Past) (s t : State) (did : List Swept) → Leads h s → (one : HasOneBoard s) → Sweeps now s did t → ((d : Swept) → Has d did → d ≡ Swept.Nothing → ⊥) → length did ≤ unended s one.board
so_many law now h s t [] leads one sweeps something = omega arith
so_many law now h s t (d ∷ did) leads one sweeps something =
    let next = sweeps.0 in
    let line : Past = record { before = s; event = Event.Sweep; now = now; seed = sweeps.1; answer = Answer.Swept d } in
    let leads_next : Leads (line ∷ h) next = (leads, sweeps.2) in
    let its = one_board law (line ∷ h) next leads_next in
    omega (
      arith,
      leaves_less law h s leads now sweeps.1 d next one its sweeps.2 (something d (inl refl)),
      so_many law now (line ∷ h) next t did leads_next its sweeps.3 (λ e k. something e (inr k)),
    )

nothing_changes : (o : Option Lease) (redundant : Option Pipeline) (attempts : List Attempt) (jobs : List Job) → (sweep o redundant attempts jobs).0 ≡ Swept.Nothing → (sweep o redundant attempts jobs).1 ≡ []
nothing_changes None None attempts jobs e = refl
nothing_changes due redundant attempts jobs e = absurd (cc)

-- where a sweep finds nothing, nothing is due and no pipeline is redundant, in the state after it too
pub none_left : (now : ℕ) (h : List Past) (s t : State) (did : List Swept) → Leads h s → Sweeps now s (did ++ (Swept.Nothing ∷ [])) t → NoneIsDue t now × NoneIsRedundant t
none_left now h s t [] leads sweeps =
    let next = sweeps.0 in
    let step = sweeps.2 in
    let line : Past = record { before = s; event = Event.Sweep; now = now; seed = sweeps.1; answer = Answer.Swept Swept.Nothing } in
    let all = (laws (line ∷ h) next (leads, step)).swept in
    let its : NoneIsDue s now × NoneIsRedundant s = has_from_all (λ (p : Past). IsSweptBy p.before p.now p.event p.answer) line (line ∷ h) all (inl refl) in
    let redundant = redundant_in s step.before in
    let none : step.changes ≡ [] = ap (λ (f : Swept × List RowChange). f.1) step.happens
    ∙ nothing_changes (first_due (leases s) now) redundant s.attempts (cancellable_in s step.before redundant) (sym (ap (λ (f : Swept × List RowChange). f.0) step.happens)) in
    subst (λ (w : State). NoneIsDue w now × NoneIsRedundant w) (sym (sweeps.3 ∙ (step.state ∙ ap (λ (cs : List RowChange). applied cs s) none))) its
none_left now h s t (d ∷ did) leads sweeps =
    none_left now (record { before = s; event = Event.Sweep; now = now; seed = sweeps.1; answer = Answer.Swept d } ∷ h) sweeps.0 t did (leads, sweeps.2) sweeps.3

-- ---- they end

nothing_or : (d : Swept) → (d ≡ Swept.Nothing) ⊎ (d ≡ Swept.Nothing → ⊥)
nothing_or Swept.Nothing = inl refl
nothing_or d = inr (λ e. cc)

module _ (now : ℕ) (seed : Seed) (h : List Past) (s : State) (leads : Leads h s) (one : HasOneBoard s) (did : Swept) (t : State) (step : Step s Event.Sweep now seed (Answer.Swept did) t) where
  -- where the sweep finds nothing
  done : did ≡ Swept.Nothing → EndsBy now s one.board
  done e =
      let sweeps : Sweeps now s ([] ++ (Swept.Nothing ∷ [])) t = (t, seed, subst (λ (d : Swept). Step s Event.Sweep now seed (Answer.Swept d) t) e step, refl) in
      let left = none_left now h s t [] leads sweeps in
      record { did = []; last = t; sweeps = sweeps; something = All-from_has (λ (d : Swept). d ≡ Swept.Nothing → ⊥) [] (λ d k. absurd k); few = omega arith; none_due = left.0; none_redundant = left.1 }

  -- and where it does something, before others that end
  more : (did ≡ Swept.Nothing → ⊥) → (board : List BoardRow) → unended t board + 1 ≤ unended s one.board → EndsBy now t board → EndsBy now s one.board
  more something board less rest =
      record {
        did = did ∷ rest.did;
        last = rest.last;
        sweeps = (t, seed, step, rest.sweeps);
        something = All-cons (λ (d : Swept). d ≡ Swept.Nothing → ⊥) did rest.did something rest.something;
        few = let few = rest.few in omega arith;
        none_due = rest.none_due;
        none_redundant = rest.none_redundant;
      }

-- a sweep is made, and where it does something, others follow it
sweeps_on : OneAssignment → (now : ℕ) (seed : Seed) (h : List Past) (s : State) → Leads h s → (one : HasOneBoard s)
    → ((g : List Past) (t : State) → Leads g t → (its : HasOneBoard t) → unended t its.board + 1 ≤ unended s one.board → EndsBy now t its.board) → EndsBy now s one.board
sweeps_on law now seed h s leads one rest =
    let m = made law h s leads now seed in
    ⊎_elim
    (λ e. done now seed h s leads one m.0 m.1 m.2 e)
    (λ d.
    let line : Past = record { before = s; event = Event.Sweep; now = now; seed = seed; answer = Answer.Swept m.0 } in
    let its = one_board law (line ∷ h) m.1 (leads, m.2) in
    let less = leaves_less law h s leads now seed m.0 m.1 one its m.2 d in
    more now seed h s leads one m.0 m.1 m.2 d its.board less (rest (line ∷ h) m.1 (leads, m.2) its less))
    (nothing_or m.0)

pub ends_by : OneAssignment → (now : ℕ) (seed : Seed) (n : ℕ) (h : List Past) (s : State) → Leads h s → (one : HasOneBoard s) → unended s one.board ≤ n → EndsBy now s one.board
ends_by law now seed zero h s leads one few = sweeps_on law now seed h s leads one (λ g t l its less. absurd (omega arith))
ends_by law now seed (suc n) h s leads one few = sweeps_on law now seed h s leads one (λ g t l its less. ends_by law now seed n g t l its (omega arith))
