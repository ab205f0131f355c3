-- The first of some jobs that is pending and asks what they ask, also of the jobs of a pipeline, and the first that need not wait for its
-- group.
use Rattle.std.proofs.Common.{◌≡◌, ◌⊎◌, ℕ, ◌+◌, ◌<◌, ◌≤◌, Bool, true, false, if◌then◌else◌, ◌==◌, List, [], ◌∷◌, length, take, Contains, Option, Some, None, is_some, slice_index_or, refl}
use Rattle.std.proofs.Common.{sym, ap, subst, ◌∙◌, ⊎_elim, arith, zero, suc, eqb-true, eq-eqb}
use Rattle.std.proofs.lemmas.Bool.{both_ways, eqb-false}
use Rattle.std.proofs.lemmas.List.{take_more}
use Rattle.std.proofs.lemmas.Option.{same_Some}
use Rattle.ci_machine_steps.specs.Prelude.{Pending, is_status, BoardRow, Job, Pipeline, QueuedJob, Kept, job_at, pipeline_at, queued, jobs_of, pipeline_or_none, row_or_none}
use Rattle.ci_store.specs.Prelude.{row_at}
use Rattle.ci_machine.proofs.Keyed.{Has, Rising, rising_from, rising_filter, has_filter, filter_has, has_find, find_has, has_from_contains}
use Rattle.ci_machine_steps.proofs.Behind.{in_either}
use Rattle.ci_machine_steps.proofs.Sound.{sound}
use Rattle.ci_server_lookups.specs.declared.search.Offer.{Offer}
use Rattle.ci_server_lookups.specs.Prelude.{IsKept}
use Rattle.ci_memory_queue.specs.declared.queue.Asks.{Asks}
use Rattle.ci_memory_queue.specs.declared.turns.Turn.{Turn}
use Rattle.ci_memory_queue.specs.Covers.{asked_by, is_pending_at}
use Rattle.ci_memory_queue.specs.Offers.{UpTo, IsAhead, IsPendingRow, IsOfferAt, IsOfferAhead, IsPendingOf, IsFirst, IsFirstOf, IsFirstFree}
use Rattle.ci_memory_queue.specs.Turns.{pipeline_for, IsWanted, is_free_at, IsTurnOf}
use Rattle.ci_memory_queue.proofs.Waits.{maker, mapped_from}

-- ---- lists

-- one of a list that rises is among the first so many, or no lesser than the next
least_from : {A : Type 0} (id : A → ℕ) (low : ℕ) (xs : List A) (i : ℕ) (d y : A) → Rising id low xs → i < length xs → Has y xs → Has y (take i xs) ⊎ (id (slice_index_or xs i d) ≤ id y)
least_from id low [] i d y rise within h = absurd h
least_from id low (x ∷ xs) zero d y rise within h = grind (arith, rising_from id y (id x + 1) xs rise.1)
least_from id low (x ∷ xs) (suc i) d y rise within h = grind (arith, least_from id (id x + 1) xs i d y rise.1)

-- ---- rows

module _ (board : List BoardRow) (job : ℕ) where
  found_number : (row : BoardRow) → Some row ≡ row_at job board → row.job ≡ job
  found_number row at = eqb-true row.job job (has_find (λ (r : BoardRow). r.job == job) row board (sym at)).1

  -- the row that is found says whether the job is pending
  found_says : (o : Option BoardRow) → o ≡ row_at job board → is_pending_at board job ≡ is_status (row_or_none o).status Pending
  found_says o at = ap (λ (r : Option BoardRow). is_status (row_or_none r).status Pending) (sym at)

  pub pending_by : (row : BoardRow) → Some row ≡ row_at job board → IsPendingRow board job (if is_status row.row.status Pending then Some row else None)
  pending_by row at = of (is_status row.row.status Pending) refl
    where
      of : (b : Bool) → is_status row.row.status Pending ≡ b → IsPendingRow board job (if b then Some row else None)
      of true e = (found_number row at, sym at, found_says (Some row) at ∙ e)
      of false e = found_says (Some row) at ∙ e

-- ---- offers

pub up_to_more : (o : Option Offer) (n m : ℕ) → n ≤ m → UpTo o n → UpTo o m
up_to_more None n m l up = absurd up
up_to_more (Some offer) n m l up = let u : offer.row.job ≤ n = up in omega arith

-- what is ahead of what was found before is no greater than what that is up to
pub ahead_below : (o : Option Offer) (n m : ℕ) → IsAhead o n → UpTo o m → n ≤ m
ahead_below None n m ahead up = absurd up
ahead_below (Some offer) n m ahead up = let a : n < offer.row.job = ahead in let u : offer.row.job ≤ m = up in omega arith

-- ---- the first

module _ (k : Kept) (asks : Asks) (jobs : List ℕ) (first : ℕ) (before : Option Offer) (least : (job : ℕ) → Contains jobs job → first ≤ job) where
  -- none of them is ahead where the first isn't
  pub none_ahead : UpTo before first → IsFirst k asks jobs before None
  none_ahead up = λ job has. up_to_more before first job (least job has) up

  pub first_is : (found : Option Offer) → true ≡ is_some found → IsAhead before first → IsOfferAt k asks first found → IsFirst k asks jobs before found
  first_is None is ahead at = absurd (cc)
  first_is (Some offer) is ahead at =
      let e : offer.row.job ≡ first = at.0 in
      (at.1, (λ job has. let l : first ≤ job = least job has in omega arith), (λ job up. let l : first ≤ job = ahead_below before first job ahead up in omega arith))

-- ---- one job of a pipeline

module _ (k : Kept) (asks : Asks) (j : Job) (before : Option Offer) where
  -- one that asks for something else
  pub asks_other : job_at k.state j.id ≡ Some j → ((p : Pipeline) → asks ≡ asked_by j p → ⊥) → IsOfferAhead k asks j.id before None
  asks_other there differs = λ wanted.
      let own = maker asked_by (job_at k.state j.id) (pipeline_at k.state) asks wanted.1 in
      absurd (differs own.2 (sym own.4 ∙ ap (λ (x : Job). asked_by x own.2) (same_Some own.0 j (sym own.1 ∙ there))))

  -- one that was looked up
  pub offer_ahead : (found : Option Offer) → IsAhead before j.id → IsOfferAt k asks j.id found → IsOfferAhead k asks j.id before found
  offer_ahead None ahead at = λ wanted. absurd (at wanted.0 wanted.1)
  offer_ahead (Some offer) ahead at = (at.0, at.1, ahead)

-- ---- the jobs of a pipeline

-- those so far that are pending and ask this aren't ahead
abbrev pub NoneAhead : Kept → Asks → Option Offer → List Job → Type 0
NoneAhead k asks before jobs = (j : Job) → Has j jobs → IsWanted k asks j.id → UpTo before j.id

module _ (k : Kept) (kept : IsKept k) (asks : Asks) (pipeline : ℕ) (jobs : List Job) (are : jobs ≡ jobs_of k.state pipeline) (before : Option Offer) where
  rise : Rising (λ (j : Job). j.id) 0 k.state.jobs
  rise = (sound k.state kept.sound).jobs

  own : (j : Job) → Has j jobs → Has j k.state.jobs × ((j.pipeline == pipeline) ≡ true)
  own j h = has_filter (λ (x : Job). x.pipeline == pipeline) j k.state.jobs (subst (Has j) are h)

  -- each is found by its number
  pub job_there : (j : Job) → Has j jobs → job_at k.state j.id ≡ Some j
  job_there j h = find_has (λ (x : Job). x.id) j 0 k.state.jobs rise (own j h).0

  its_pipeline : (j : Job) → Has j jobs → pipeline_for k.state j.id ≡ pipeline
  its_pipeline j h = ap pipeline_or_none (job_there j h) ∙ eqb-true j.pipeline pipeline (own j h).1

  -- one that asks this is among them, if its pipeline is this one
  one_of : (n : ℕ) → IsWanted k asks n → pipeline_for k.state n ≡ pipeline → (j : Job) × (Has j jobs × (j.id ≡ n))
  one_of n wanted is =
      let found = maker asked_by (job_at k.state n) (pipeline_at k.state) asks wanted.1 in
      let j : Job = found.0 in
      let there = has_find (λ (x : Job). x.id == n) j k.state.jobs found.1 in
      let same : j.pipeline ≡ pipeline = sym (ap pipeline_or_none found.1) ∙ is in
      (j, (subst (Has j) (sym are) (filter_has (λ (x : Job). x.pipeline == pipeline) j k.state.jobs there.0 (eq-eqb j.pipeline pipeline same)), eqb-true j.id n there.1))

  pub none_of_them : NoneAhead k asks before jobs → IsFirstOf k asks pipeline before None
  none_of_them none = λ n wanted is.
      let w = one_of n wanted is in
      subst (UpTo before) w.1.1 (none w.0 w.1.0 (subst (IsWanted k asks) (sym w.1.1) wanted))

  pub there_at : (i : ℕ) (job : Job) → i < length jobs → job ≡ slice_index_or jobs i job → job_at k.state job.id ≡ Some job
  there_at i job within at = job_there job (has_from_contains job jobs (i, within, sym at))

  module _ (i : ℕ) (job : Job) (within : i < length jobs) (at : job ≡ slice_index_or jobs i job) (none : NoneAhead k asks before (take i jobs)) where
    -- one more isn't ahead
    pub more_behind : (found : Option Offer) → false ≡ is_some found → IsOfferAhead k asks job.id before found → NoneAhead k asks before (take (i + 1) jobs)
    more_behind None _ is = λ j h wanted.
        ⊎_elim
        (λ m. none j m wanted)
        (λ m. ⊎_elim
        (λ e. let same : j ≡ job = e ∙ sym at in subst (λ (x : Job). UpTo before x.id) (sym same) (is (subst (λ (x : Job). IsWanted k asks x.id) same wanted)))
        (λ no. absurd no) m)
        (in_either j (take i jobs) (slice_index_or jobs i job ∷ []) (subst (Has j) (take_more jobs i job within) h))
    more_behind (Some offer) some is = absurd (cc)

    -- this one is, so it is the first
    pub first_here : (found : Option Offer) → true ≡ is_some found → IsOfferAhead k asks job.id before found → IsFirstOf k asks pipeline before found
    first_here None some is = absurd (cc)
    first_here (Some offer) _ is =
        let number : offer.row.job ≡ job.id = is.0 in (
          is.1,
          ap (pipeline_for k.state) number ∙ its_pipeline job (has_from_contains job jobs (i, within, sym at)),
          (λ n wanted same.
              let w = one_of n wanted same in
              let j : Job = w.0 in
              let its : j.id ≡ n = w.1.1 in
              ⊎_elim
              (λ m. let l : job.id ≤ j.id = ahead_below before job.id j.id is.2 (none j m (subst (IsWanted k asks) (sym its) wanted)) in omega arith)
              (λ (l : (slice_index_or jobs i job).id ≤ j.id). let place : job.id ≡ (slice_index_or jobs i job).id = ap (λ (x : Job). x.id) at in omega arith)
              (least_from (λ (x : Job). x.id) 0 jobs i job j (subst (Rising (λ (x : Job). x.id) 0) (sym are) (rising_filter (λ (x : Job). x.id) (λ (x : Job). x.pipeline == pipeline) 0 k.state.jobs rise)) within w.1.0)),
          (λ n up. let l : job.id ≤ n = ahead_below before job.id n is.2 up in omega arith),
        )

-- ---- whose turn it is

module _ (k : Kept) (asks : Asks) (jobs : List ℕ) (before : Option Offer) where
  -- none need wait: the first is the first of all
  pub first_of_all : IsTurnOf k asks Turn.Anyone → (found : Option Offer) → IsFirst k asks jobs before found → IsFirstFree k asks jobs before found
  first_of_all free None first = λ job has wanted is. first job has
  first_of_all free (Some offer) first = (first.0, free offer.row.job, (λ job has wanted is. first.1 job has), first.2)

  -- each must
  pub first_of_none : IsTurnOf k asks Turn.Nobody → IsFirstFree k asks jobs before None
  first_of_none held = λ job has wanted is. absurd (both_ways (is_free_at k asks job) (held job) is)

  -- all but those of a pipeline must
  pub first_of_newest : (n : ℕ) → IsTurnOf k asks (Turn.Newest n) → (found : Option Offer) → IsFirstOf k asks n before found → IsFirstFree k asks jobs before found
  first_of_newest n its None first = λ job has wanted is. first job wanted (eqb-true (pipeline_for k.state job) n (sym (its job wanted) ∙ is))
  first_of_newest n its (Some offer) first = (
    first.0,
    its offer.row.job (first.0.pending, first.0.asked) ∙ eq-eqb (pipeline_for k.state offer.row.job) n first.1,
    (λ job has wanted is. first.2 job wanted (eqb-true (pipeline_for k.state job) n (sym (its job wanted) ∙ is))),
    first.3,
  )

  -- the first of all is of the pipeline whose turn it is, or none behind it is
  pub first_of_oldest : IsKept k → (n : ℕ) → IsTurnOf k asks (Turn.Oldest n) → (offer : Offer) → IsFirst k asks jobs before (Some offer)
      → IsFirstFree k asks jobs before (if offer.queued.job.pipeline == n then Some offer else None)
  first_of_oldest kept n its offer first = by (offer.queued.job.pipeline == n) refl
    where
      of : IsPendingOf k asks offer
      of = first.0

      pipeline_is : pipeline_for k.state offer.row.job ≡ offer.queued.job.pipeline
      pipeline_is =
          let found = mapped_from (queued k.state) (job_at k.state offer.row.job) offer.queued of.queued in
          ap pipeline_or_none found.1.0 ∙ ap (λ (q : QueuedJob). q.job.pipeline) found.1.1

      -- jobs of newer pipelines have greater numbers
      older : (job : ℕ) → IsWanted k asks job → pipeline_for k.state job < pipeline_for k.state offer.row.job → job < offer.row.job
      older job wanted l =
          let mine = maker asked_by (job_at k.state job) (pipeline_at k.state) asks wanted.1 in
          let theirs = maker asked_by (job_at k.state offer.row.job) (pipeline_at k.state) asks of.asked in
          let a : Job = mine.0 in
          let b : Job = theirs.0 in
          let one = has_find (λ (x : Job). x.id == job) a k.state.jobs mine.1 in
          let two = has_find (λ (x : Job). x.id == offer.row.job) b k.state.jobs theirs.1 in
          let first_number : a.id ≡ job = eqb-true a.id job one.1 in
          let second_number : b.id ≡ offer.row.job = eqb-true b.id offer.row.job two.1 in
          let first_pipeline : pipeline_for k.state job ≡ a.pipeline = ap pipeline_or_none mine.1 in
          let second_pipeline : pipeline_for k.state offer.row.job ≡ b.pipeline = ap pipeline_or_none theirs.1 in
          let less : a.pipeline < b.pipeline = omega arith in
          let turn : a.id < b.id = (sound k.state kept.sound).in_turn a b one.0 two.0 less in
          omega arith

      by : (b : Bool) → (offer.queued.job.pipeline == n) ≡ b → IsFirstFree k asks jobs before (if b then Some offer else None)
      by true e = (
        of,
        (its offer.row.job (of.pending, of.asked)).1 ∙ (ap (λ m. m == n) pipeline_is ∙ e),
        (λ job has wanted is. first.1 job has),
        first.2,
      )
      by false e = λ job has wanted is.
          let same : pipeline_for k.state job ≡ n = eqb-true (pipeline_for k.state job) n (sym (its job wanted).1 ∙ is) in
          let least : offer.row.job ≤ job = first.1 job has in
          let low : n ≤ pipeline_for k.state offer.row.job = (its offer.row.job (of.pending, of.asked)).0 in
          let other : offer.queued.job.pipeline ≡ n → ⊥ = eqb-false offer.queued.job.pipeline n e in
          let another : pipeline_for k.state offer.row.job ≡ n → ⊥ = λ q. other (sym pipeline_is ∙ q) in
          let less : pipeline_for k.state job < pipeline_for k.state offer.row.job = omega arith in
          let ahead : job < offer.row.job = older job wanted less in
          absurd (omega arith)
