-- The least of the pending jobs that a runner may be given, by classes, is the first of the queue that it may be given.
use Rattle.std.proofs.Common.{◌≡◌, ℕ, ◌+◌, ◌≤◌, Bool, true, ◌&&◌, ◌==◌, List, [], ◌∷◌, map, filter, find, Option, Some, None, IfSome, option_map, option_and_then, refl, sym, ap, subst}
use Rattle.std.proofs.Common.{◌∙◌, inl, inr, ⊎_elim, arith, eqb-true}
use Rattle.std.proofs.lemmas.Bool.{and_parts, and_from, cases_Bool}
use Rattle.ci_machine_steps.specs.Prelude.{Job, Pipeline, BoardRow, QueuedJob, Runner, may_run, is_free, is_eligible, chosen, groups_in, claims_in, State, Kept, row_for}
use Rattle.ci_machine_steps.specs.Prelude.{row_or_none, job_at, pipeline_at, is_pending, queued, queue, project_or_none, pipeline_or_none}
use Rattle.ci_machine.proofs.Keyed.{Has, Rising, rising_filter, has_filter, filter_has, has_find, find_has, rising_from}
use Rattle.ci_machine_steps.proofs.Sound.{sound}
use Rattle.ci_server_lookups.specs.Prelude.{IsKept, IsOffered}
use Rattle.ci_server_lookups.specs.declared.search.Offer.{Offer}
use Rattle.ci_memory_queue.specs.declared.queue.Asks.{Asks}
use Rattle.ci_memory_queue.specs.declared.queue.Class.{Class}
use Rattle.ci_memory_queue.specs.Covers.{asked_by, asks_at, is_pending_at, IsAmong, IsSorted, Covers}
use Rattle.ci_memory_queue.specs.Offers.{UpTo, IsPendingOf, IsBest}
use Rattle.ci_memory_queue.specs.Turns.{is_free_at}
use Rattle.ci_memory_queue.specs.Notes.{Noted}
use Rattle.ci_machine.proofs.Found.{find_none}
use Rattle.ci_memory_queue.proofs.Sorts.{all_sorted}
use Rattle.ci_memory_queue.proofs.Waits.{mapped_from}

-- ---- the first of a list that rises is its least

find_least : {A : Type 0} (id : A → ℕ) (p : A → Bool) (x : A) (low : ℕ) (xs : List A) → Rising id low xs → Has x xs → p x ≡ true → ((y : A) → Has y xs → p y ≡ true → id x ≤ id y) → find p xs ≡ Some x
find_least id p x low [] rise h e least = absurd h
find_least id p x low (y ∷ ys) rise h e least =
    grind (arith, least y (inl refl), rising_from id x (id y + 1) ys rise.1, λ (m : Has x ys). find_least id p x (id y + 1) ys rise.1 m e (λ z k q. least z (inr k) q))

find_mapped : {A B : Type 0} (f : A → B) (p : B → Bool) (xs : List A) → find p (map f xs) ≡ option_map f (find (λ x. p (f x)) xs)
find_mapped f p [] = refl
find_mapped f p (x ∷ xs) = grind (arith, find_mapped f p xs)

-- ---- what a job asks

-- the runner may be given the job where it may run those that ask the same, and the job need not wait for its group
eligible_is_open : (s : State) (board : List BoardRow) (runner : Runner) (j : Job) (asks : Asks) → option_map (asked_by j) (pipeline_at s j.pipeline) ≡ Some asks
    → is_eligible runner (groups_in s board) (queued s j) ≡ (may_run runner asks.project asks.tags && is_free (claims_in s board j.pipeline) asks.project asks.group)
eligible_is_open s board runner j asks e =
    let own = mapped_from (asked_by j) (pipeline_at s j.pipeline) asks e in
    ap (λ (o : Option Pipeline). is_eligible runner (groups_in s board) (record { job = j; project = project_or_none o })) own.1.0
    ∙ ap (λ (a : Asks). may_run runner a.project a.tags && is_free (claims_in s board j.pipeline) a.project a.group) own.1.1

-- what a job that was found asks
asks_found : (s : State) (n : ℕ) (j : Job) (asks : Asks) → job_at s n ≡ Some j → asks_at s n ≡ Some asks → option_map (asked_by j) (pipeline_at s j.pipeline) ≡ Some asks
asks_found s n j asks found asked = sym (ap (option_and_then (λ (x : Job). option_map (asked_by x) (pipeline_at s x.pipeline))) found) ∙ asked

-- ---- the offer

module _ (k : Kept) (kept : IsKept k) (runner : Runner) (classes : List Class) (newest_pipeline : ℕ) (all : (job : ℕ) → is_pending_at k.board job ≡ true → IsSorted k.state classes newest_pipeline job) where
  abbrev pending : List Job
  pending = filter (is_pending k.board) k.state.jobs

  abbrev may : Job → Bool
  may j = is_eligible runner (groups_in k.state k.board) (queued k.state j)

  rise : Rising (λ (j : Job). j.id) 0 k.state.jobs
  rise = (sound k.state kept.sound).jobs

  -- by the pipeline of the job that is found
  free_by : (asks : Asks) (n : ℕ) (j : Job) → job_at k.state n ≡ Some j → is_free_at k asks n ≡ is_free (claims_in k.state k.board j.pipeline) asks.project asks.group
  free_by asks n j found = ap (λ (o : Option Job). is_free (claims_in k.state k.board (pipeline_or_none o)) asks.project asks.group) found

  up_to : (best : Option Offer) → IsBest k runner classes best → (j : Job) → Has j pending → may j ≡ true → UpTo best j.id
  up_to best is j h e =
      let own = has_filter (is_pending k.board) j k.state.jobs h in
      let w = all j.id own.1 in
      let found = find_has (λ (x : Job). x.id) j 0 k.state.jobs rise own.0 in
      let asks = asks_found k.state j.id j w.asks found w.asked in
      let parts = and_parts (may_run runner w.asks.project w.asks.tags) (is_free (claims_in k.state k.board j.pipeline) w.asks.project w.asks.group)
      (sym (eligible_is_open k.state k.board runner j w.asks asks) ∙ e) in
      is.least w.asks j.id w.among (record { may = parts.0; wanted = (own.1, w.asked); free = free_by w.asks j.id j found ∙ parts.1 })

  as_found : chosen (queue k.state k.board) (groups_in k.state k.board) runner ≡ option_map (queued k.state) (find may pending)
  as_found = find_mapped (queued k.state) (is_eligible runner (groups_in k.state k.board)) pending

  none_offered : IsBest k runner classes None → IsOffered k runner None
  none_offered is =
      as_found
      ∙ ap (option_map (queued k.state))
      (find_none may pending (λ j h. ⊎_elim (λ e. absurd (up_to None is j h e)) (λ e. e) (cases_Bool (may j))))

  one_offered : (offer : Offer) → IsBest k runner classes (Some offer) → IsOffered k runner (Some offer)
  one_offered offer is =
      let asks = is.may.0 in
      let of : IsPendingOf k asks offer = is.may.1.0 in
      let own = mapped_from (queued k.state) (job_at k.state offer.row.job) offer.queued of.queued in
      let j : Job = own.0 in
      let there = has_find (λ (x : Job). x.id == offer.row.job) j k.state.jobs own.1.0 in
      let number : j.id ≡ offer.row.job = eqb-true j.id offer.row.job there.1 in
      let its : Has j pending = filter_has (is_pending k.board) j k.state.jobs there.0 (subst (λ n. is_pending_at k.board n ≡ true) (sym number) of.pending) in
      let eligible : may j ≡ true =
      eligible_is_open k.state k.board runner j asks (asks_found k.state offer.row.job j asks own.1.0 of.asked)
      ∙ and_from (may_run runner asks.project asks.tags) (is_free (claims_in k.state k.board j.pipeline) asks.project asks.group) is.may.1.1.may
      (sym (free_by asks offer.row.job j own.1.0) ∙ is.may.1.1.free) in
      let found : find may pending ≡ Some j = find_least (λ (x : Job). x.id) may j 0 pending (rising_filter (λ (x : Job). x.id) (is_pending k.board) 0 k.state.jobs rise) its eligible
      (λ y h e. let l : offer.row.job ≤ y.id = up_to (Some offer) is y h e in omega arith) in
      let queued_number : offer.queued.job.id ≡ j.id = ap (λ (q : QueuedJob). q.job.id) (sym own.1.1) in (
        as_found ∙ (ap (option_map (queued k.state)) found ∙ ap (λ (q : QueuedJob). Some q) own.1.1),
        sym (queued_number ∙ number),
        sym (ap row_or_none of.row) ∙ ap (row_for k.board) (sym (queued_number ∙ number)),
      )

  pub is_offered : (best : Option Offer) → IsBest k runner classes best → IsOffered k runner best
  is_offered None is = none_offered is
  is_offered (Some offer) is = one_offered offer is

-- ---- what is covered

-- what is in a class stays so where no class that has it loses it
pub sorted_raised : (s : State) (classes more : List Class) (low high job : ℕ) → low ≤ high → ((asks : Asks) → asks_at s job ≡ Some asks → IsAmong classes asks job → IsAmong more asks job)
    → IsSorted s classes low job → IsSorted s more high job
sorted_raised s classes more low high job raised keeps w = record { asks = w.asks; asked = w.asked; among = keeps w.asks w.asked w.among; pipeline = raise (job_at s job) w.pipeline }
  where
    raise : (o : Option Job) → IfSome o (λ j. j.pipeline ≤ low) → IfSome o (λ j. j.pipeline ≤ high)
    raise None h = tt
    raise (Some j) h = let l : j.pipeline ≤ low = h in omega arith

module _ (k : Kept) (classes given new : List Class) (notes : Noted) (same : given ≡ classes) (none : notes.fresh ≡ []) (covers : Covers classes notes k.state k.board)
    (keeps : (asks : Asks) (job : ℕ) → is_pending_at k.board job ≡ true → asks_at k.state job ≡ Some asks → IsAmong given asks job → IsAmong new asks job) where
  -- so they are once others are taken out
  still_sorted : (job : ℕ) → is_pending_at k.board job ≡ true → IsSorted k.state new notes.newest_pipeline job
  still_sorted job pending =
      sorted_raised k.state classes new notes.newest_pipeline notes.newest_pipeline job (omega arith) (λ asks asked w. keeps asks job pending asked (subst (λ (cs : List Class). IsAmong cs asks job) (sym same) w))
      (all_sorted (is_pending_at k.board) (IsSorted k.state classes) notes none covers job pending)

  pub still_covers : Covers new notes k.state k.board
  still_covers job pending = ((covers job pending).0, inr (still_sorted job pending))

  -- and the best of the classes is the offer
  pub best_offered : IsKept k → (runner : Runner) (best : Option Offer) → IsBest k runner new best → IsOffered k runner best
  best_offered kept runner = is_offered k kept runner new notes.newest_pipeline still_sorted
