-- The least pending job of some classes that a runner may be given, class by class.
use Rattle.std.proofs.Common.{◌≡◌, ℕ, ◌+◌, ◌<◌, true, List, [], ◌∷◌, ◌++◌, length, take, Contains, Option, Some, None, slice_index_or, slice_set, sym, ap, subst, ◌∙◌, ⊎_elim}
use Rattle.std.proofs.lemmas.List.{take_more_set}
use Rattle.ci_machine_steps.specs.Prelude.{Runner, may_run, Kept}
use Rattle.ci_machine.proofs.Keyed.{has_from_contains}
use Rattle.ci_machine_steps.proofs.Behind.{in_either}
use Rattle.ci_server_lookups.specs.declared.search.Offer.{Offer}
use Rattle.ci_memory_queue.specs.declared.queue.Asks.{Asks}
use Rattle.ci_memory_queue.specs.declared.queue.Class.{Class}
use Rattle.ci_memory_queue.specs.Covers.{asks_at, is_pending_at, IsAmong}
use Rattle.ci_memory_queue.specs.Offers.{IsFirstFree, IsOpen, IsBetter, IsBest}
use Rattle.ci_memory_queue.proofs.Sets.{among_one, among_set}

-- ---- one class

module _ (k : Kept) (runner : Runner) (class : Class) (before : Option Offer) where
  -- the first job of the class that need not wait is ahead of what was found before
  pub better_found : (offer : Offer) → may_run runner class.asks.project class.asks.tags ≡ true → IsFirstFree k class.asks class.jobs.keys before (Some offer) → IsBetter k runner class before (Some offer)
  better_found offer may first = record {
    may = λ _. (class.asks, (first.0, record { may = may; wanted = (first.0.pending, first.0.asked); free = first.1 }));
    earlier = first.3;
    least = λ job has ready. first.2 job has ready.wanted ready.free;
  }

  -- none of them is
  pub better_as_before : IsFirstFree k class.asks class.jobs.keys before None → IsBetter k runner class before before
  better_as_before first = record { may = λ w. w; earlier = λ job up. up; least = λ job has ready. first job has ready.wanted ready.free }

-- ---- all classes so far

module _ (k : Kept) (runner : Runner) where
  best_append : (classes : List Class) (class : Class) (before after : Option Offer) → IsBest k runner classes before → IsBetter k runner class before after → IsBest k runner (classes ++ class ∷ []) after
  best_append classes class before after best better = record {
    may = better.may best.may;
    least = λ asks job w ready.
        ⊎_elim
        (λ h. better.earlier job (best.least asks job (among_one classes asks job w.of h w.same w.has) ready))
        (λ h. ⊎_elim
        (λ (e : w.of ≡ class). better.least job (subst (λ (c : Class). Contains c.jobs.keys job) e w.has) (subst (λ (a : Asks). IsOpen k runner a job) (sym w.same ∙ ap (λ (c : Class). c.asks) e) ready))
        (λ m. absurd m) h)
        (in_either w.of classes (class ∷ []) (has_from_contains w.of (classes ++ class ∷ []) w.there));
  }

  -- with one more class, in its place
  pub best_more : (classes : List Class) (i : ℕ) (class : Class) (before after : Option Offer) → i < length classes → IsBest k runner (take i classes) before → IsBetter k runner class before after
      → IsBest k runner (take (i + 1) (slice_set classes i class)) after
  best_more classes i class before after within best better =
      subst (λ (cs : List Class). IsBest k runner cs after) (sym (take_more_set classes i class within)) (best_append (take i classes) class before after best better)

-- the others, and those of its own that are pending and ask this, are left where a class is replaced
pub keeps_more : (k : Kept) (classes : List Class) (i : ℕ) (old new : Class) → i < length classes → old ≡ slice_index_or classes i old → new.asks ≡ old.asks
    → ((job : ℕ) → is_pending_at k.board job ≡ true → asks_at k.state job ≡ Some old.asks → Contains old.jobs.keys job → Contains new.jobs.keys job)
    → (asks : Asks) (job : ℕ) → is_pending_at k.board job ≡ true → asks_at k.state job ≡ Some asks → IsAmong classes asks job → IsAmong (slice_set classes i new) asks job
keeps_more k classes i old new within at same keeps asks job pending asked =
    among_set classes i old new asks job within (same ∙ ap (λ (c : Class). c.asks) at)
    (λ its has. keeps job pending (asked ∙ ap (λ (a : Asks). Some a) (sym its ∙ ap (λ (c : Class). c.asks) (sym at))) (subst (λ (c : Class). Contains c.jobs.keys job) (sym at) has))
