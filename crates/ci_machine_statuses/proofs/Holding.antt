-- Which groups are held where leases end, and no other begins.
use Rattle.std.proofs.Common.{◌≡◌, ℕ, true, false, ◌==◌, Bool, List, filter, flat_map, Contains, Option, Some, None, option_map, refl, sym, ap, subst, ◌∙◌, ⊎_elim, eqb-true}
use Rattle.std.specs.List.{list_any}
use Rattle.std.proofs.lemmas.Bool.{cases_Bool, both_ways, false≢true, and_parts}
use Rattle.ci_machine_steps.specs.Prelude.{Holder, Pipeline, Job, QueuedJob, Attempt, State, is_live, job_at, pipeline_at, project_or_none, queued, live_attempts, holds}
use Rattle.ci_machine_steps.specs.Prelude.{is_lease_on, queued_at, group_held, held_by, held_of, holders, holder_cmp, AreHolders}
use Rattle.ci_machine.proofs.Keyed.{Has, Rising, has_filter, filter_has, filter_none, has_find, find_has, one_at, has_from_all, All-from_has, has_from_contains, contains_from_has}
use Rattle.ci_machine_steps.proofs.Variables.{Ordered}
use Rattle.ci_machine_steps.proofs.Sound.{Sound}
use Rattle.ci_machine_statuses.specs.HolderChanges.{held_among}
use Rattle.ci_machine_statuses.proofs.Puts.{attempt_id}
use Rattle.ci_machine_statuses.proofs.HeldLists.{find_any, ordered, ascends}
use Rattle.ci_machine_statuses.proofs.HeldRows.{holds_own, one_row, without_all, without_ordered, in_without, has_without}
use Rattle.ci_machine_steps.proofs.Behind.{flat_has, has_flat}

-- ---- what is held in a state

-- a live attempt holds it
pub record IsHeld (s : State) (h : Holder) : Type 0 where
  pub attempt : Attempt
  pub has : Has attempt s.attempts
  pub live : is_live attempt ≡ true
  pub its : Has h (held_of s attempt)

pub in_holders : (s : State) (h : Holder) → IsHeld s h → Has h (holders s)
in_holders s h w = flat_has (held_of s) h w.attempt (live_attempts s) (filter_has is_live w.attempt s.attempts w.has w.live) w.its

pub of_holders : (s : State) (h : Holder) → Has h (holders s) → IsHeld s h
of_holders s h k =
    let w = has_flat (held_of s) h (live_attempts s) k in
    let v = has_filter is_live w.0 s.attempts w.1.0 in
    record { attempt = w.0; has = v.0; live = v.1; its = w.1.1 }

group_number : (n project : ℕ) (group : Option (List ℕ)) (h : Holder) → Has h (group_held n project group) → h.attempt ≡ n
group_number n project None h k = absurd k
group_number n project (Some group) h k = ⊎_elim (λ e. ap (λ (x : Holder). x.attempt) e) (λ m. absurd m) k

-- by the attempt of its number
held_number : (n : ℕ) (o : Option QueuedJob) (h : Holder) → Has h (held_by n o) → h.attempt ≡ n
held_number n None h k = absurd k
held_number n (Some q) h k = group_number n q.project q.job.options.resource_group h k

-- ---- leases end

-- a live attempt of this number and job
pub record IsLike (t : State) (a : Attempt) : Type 0 where
  pub attempt : Attempt
  pub has : Has attempt t.attempts
  pub id : attempt.id ≡ a.id
  pub job : attempt.job ≡ a.job
  pub live : is_live attempt ≡ true

-- The live attempts that pass the test end, the other live ones stay, no other comes, and each job of one has the group and project that it had.
pub record Ends (s t : State) (gone : Attempt → Bool) : Type 0 where
  pub lives : (a : Attempt) → gone a ≡ true → is_live a ≡ true
  pub stay : (a : Attempt) → Has a s.attempts → is_live a ≡ true → gone a ≡ false → IsLike t a
  pub were : (b : Attempt) → Has b t.attempts → is_live b ≡ true → (w : IsLike s b) × (gone w.attempt ≡ false)
  pub held : (a : Attempt) → Has a s.attempts → is_live a ≡ true → held_by a.id (queued_at t a.job) ≡ held_by a.id (queued_at s a.job)

module _ (s t : State) (gone : Attempt → Bool) (rise : Rising (λ a. a.id) 0 s.attempts) (ends : Ends s t gone) where
  abbrev ended : List Attempt
  ended = filter gone s.attempts

  abbrev free : List Holder
  free = flat_map (held_of s) ended

  -- what is held then, was held before by an attempt that doesn't end
  before : (h : Holder) → IsHeld t h → (w : IsHeld s h) × (gone w.attempt ≡ false)
  before h w =
      let were = ends.were w.attempt w.has w.live in
      let a = were.0 in
      let same : held_of t w.attempt ≡ held_of s a.attempt
      = (λ i. held_by (sym a.id i) (queued_at t (sym a.job i))) ∙ ends.held a.attempt a.has a.live in
      (record { attempt = a.attempt; has = a.has; live = a.live; its = subst (λ (l : List Holder). Has h l) same w.its }, were.1)

  after : (h : Holder) (w : IsHeld s h) → gone w.attempt ≡ false → IsHeld t h
  after h w left =
      let b = ends.stay w.attempt w.has w.live left in
      let same : held_of s w.attempt ≡ held_of t b.attempt
      = sym (ends.held w.attempt w.has w.live) ∙ (λ i. held_by (sym b.id i) (queued_at t (sym b.job i))) in
      record { attempt = b.attempt; has = b.has; live = b.live; its = subst (λ (l : List Holder). Has h l) same w.its }

  -- what an attempt that ends held is free
  is_free : (h : Holder) (w : IsHeld s h) → gone w.attempt ≡ true → Has h free
  is_free h w e = flat_has (held_of s) h w.attempt ended (filter_has gone w.attempt s.attempts w.has e) w.its

  pub rows_left : (rows : List Holder) → AreHolders s rows → AreHolders t (without_all (flat_map (held_of s) (filter gone s.attempts)) rows)
  rows_left rows are = record {
    ascend = ascends holder_cmp (without_all free rows) (without_ordered free rows in_order);
    held = All-from_has (Contains (holders t)) (without_all free rows) (λ h k. contains_from_has h (holders t) (still h k));
    all = All-from_has (Contains (without_all free rows)) (holders t) (λ h k. contains_from_has h (without_all free rows) (has_still h k));
  }
    where
      in_order : Ordered holder_cmp rows
      in_order = ordered holder_cmp rows are.ascend

      in_rows : (h : Holder) → Has h (holders s) → Has h rows
      in_rows h k = has_from_contains h rows (has_from_all (Contains rows) h (holders s) are.all k)

      still : (h : Holder) → Has h (without_all free rows) → Has h (holders t)
      still h k =
          let w = in_without free rows h k in
          let v = of_holders s h (has_from_contains h (holders s) (has_from_all (Contains (holders s)) h rows are.held w.0)) in
          in_holders t h (after h v
          (⊎_elim (λ e. absurd (both_ways (holds h.project h.group h) (w.1 h (is_free h v e)) (holds_own h))) (λ e. e) (cases_Bool (gone v.attempt))))

      -- a row of a group that is free is another's
      other : (h : Holder) (w : IsHeld s h) → gone w.attempt ≡ false → (g : Holder) → Has g free → holds g.project g.group h ≡ true → ⊥
      other h w left g l e =
          let v = has_flat (held_of s) g ended l in
          let f = has_filter gone v.0 s.attempts v.1.0 in
          let x : IsHeld s g = record { attempt = v.0; has = f.0; live = ends.lives v.0 f.1; its = v.1.1 } in
          let same : h ≡ g = one_row g h rows in_order (in_rows g (in_holders s g x)) (in_rows h (in_holders s h w)) e in
          let number : v.0.id ≡ w.attempt.id
          = sym (held_number v.0.id (queued_at s v.0.job) g v.1.1) ∙ (ap (λ (y : Holder). y.attempt) (sym same) ∙ held_number w.attempt.id (queued_at s w.attempt.job) h w.its) in
          both_ways (gone w.attempt) left (ap gone (sym (one_at attempt_id v.0 w.attempt 0 s.attempts rise f.0 w.has number)) ∙ f.1)

      has_still : (h : Holder) → Has h (holders t) → Has h (without_all free rows)
      has_still h k =
          let w = before h (of_holders t h k) in
          has_without free rows h (in_rows h (in_holders s h w.0))
          (λ g l. ⊎_elim (λ e. absurd (other h w.0 w.1 g l e)) (λ e. e) (cases_Bool (holds g.project g.group h)))

-- ---- leases on jobs of one pipeline

module _ (s : State) (sound : Sound s) (p : Pipeline) (has : Has p s.pipelines) (chosen : List Job) (its : (j : Job) → Has j chosen → Has j s.jobs × (j.pipeline ≡ p.id)) where
  pub held_there : (a : Attempt) → is_lease_on chosen a ≡ true → held_among p.project chosen a ≡ held_of s a
  held_there a e =
      let any = (and_parts (is_live a) (list_any (λ j. j.id == a.job) chosen) e).1 in
      let w = find_any (λ (j : Job). j.id == a.job) chosen any in
      let j = w.0 in
      let f = has_find (λ (i : Job). i.id == a.job) j chosen w.1 in
      let there = its j f.0 in
      let found : job_at s a.job ≡ Some j
      = subst (λ n. job_at s n ≡ Some j) (eqb-true j.id a.job f.1) (find_has (λ (i : Job). i.id) j 0 s.jobs sound.jobs there.0) in
      let project : p.project ≡ project_or_none (pipeline_at s j.pipeline)
      = sym (ap project_or_none (subst (λ n. pipeline_at s n ≡ Some p) (sym there.1) (find_has (λ (q : Pipeline). q.id) p 0 s.pipelines sound.pipelines has))) in
      ap (λ (o : Option Job). held_by a.id (option_map (λ i. record { job = i; project = p.project }) o)) w.1
      ∙ (ap (λ (n : ℕ). group_held a.id n j.options.resource_group) project
      ∙ sym (ap (λ (o : Option Job). held_by a.id (option_map (queued s) o)) found))

-- no lease ends, and no other begins
pub rows_stay : (s t : State) (rows : List Holder) → Rising (λ a. a.id) 0 s.attempts
    → ((a : Attempt) → Has a s.attempts → is_live a ≡ true → IsLike t a) → ((b : Attempt) → Has b t.attempts → is_live b ≡ true → IsLike s b)
    → ((a : Attempt) → Has a s.attempts → is_live a ≡ true → held_by a.id (queued_at t a.job) ≡ held_by a.id (queued_at s a.job)) → AreHolders s rows → AreHolders t rows
rows_stay s t rows rise stay were held are =
    subst (λ (l : List Attempt). AreHolders t (without_all (flat_map (held_of s) l) rows)) (filter_none (λ a. false) s.attempts (λ a h. refl))
    (rows_left s t (λ a. false) rise (record { lives = λ a e. absurd (false≢true e); stay = λ a h l _. stay a h l; were = λ b h l. (were b h l, refl); held = held }) rows are)
