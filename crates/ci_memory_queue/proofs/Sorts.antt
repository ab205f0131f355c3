-- Jobs that are noted are put where they belong, and then what is known of all is asked.
use Rattle.std.proofs.Common.{◌≡◌, ℕ, ◌+◌, ◌<◌, Bool, true, List, [], length, drop, slice_index_or, Option, IfSome, Result, Ok, sym, subst, inl, inr, ⊎_elim}
use Rattle.std.proofs.lemmas.List.{drop_more}
use Rattle.ci_machine_steps.specs.Prelude.{Kept}
use Rattle.ci_machine.proofs.Keyed.{Has, has_from_contains, contains_from_has}
use Rattle.ci_store.specs.Prelude.{LoadsBy}
use Rattle.ci_server_lookups.specs.Prelude.{StoreFault}
use Rattle.ci_server_lookups.proofs.Loading.{so}
use Rattle.ci_memory_queue.specs.Notes.{AreKnown, Noted}

-- one more of the fresh jobs is where it belongs, if it counts
pub sort_more : (counts : ℕ → Bool) (Before After : ℕ → ℕ → Type 0) (xs : List ℕ) (i d newest low high : ℕ) → i < length xs
    → ((n : ℕ) → Before low n → After high n)
    → (counts (slice_index_or xs i d) ≡ true → After high (slice_index_or xs i d))
    → AreKnown counts Before (record { fresh = drop i xs; newest = newest; newest_pipeline = low })
    → AreKnown counts After (record { fresh = drop (i + 1) xs; newest = newest; newest_pipeline = high })
sort_more counts Before After xs i d newest low high within keeps sorted known = λ job counted.
    let was = known job counted in (
      was.0,
      ⊎_elim
          (λ c. ⊎_elim
          (λ e. inr (subst (After high) (sym e) (sorted (subst (λ n. counts n ≡ true) e counted))))
          (λ h. inl (contains_from_has job (drop (i + 1) xs) h))
          (subst (Has job) (drop_more xs i d within) (has_from_contains job (drop i xs) c)))
          (λ w. inr (keeps job w))
          was.1,
    )

-- where no job is fresh, all that count are where they belong
pub all_sorted : (counts : ℕ → Bool) (IsPlaced : ℕ → ℕ → Type 0) (q : Noted) → q.fresh ≡ [] → AreKnown counts IsPlaced q → (job : ℕ) → counts job ≡ true → IsPlaced q.newest_pipeline job
all_sorted counts IsPlaced q none known job counted = ⊎_elim (λ c. absurd (subst (Has job) none (has_from_contains job q.fresh c))) (λ w. w) (known job counted).1

-- what is remembered or filled, and sorted, is what is known then
module _ {T : Type 0} (honest : T → Type 0) (holds : T → Kept → Type 0) (leaves : T → Kept → Kept → Type 0) where
  pub sorted_then : {Q N : Type 0} (Covers : Kept → Q → Type 0) (Before : Kept → Type 0) (After : Kept → N → Type 0) (old given : Option Q) (a b c : T) (filling : Result Q StoreFault) (filled : Q) (sorting : Result N StoreFault) (sorted : N)
      → given ≡ old → filling ≡ Ok filled → sorting ≡ Ok sorted
      → LoadsBy honest holds leaves a b filling (λ k q. IfSome given (Covers k) → Covers k q)
      → ((k : Kept) → Covers k filled → Before k)
      → LoadsBy honest holds leaves b c sorting (λ k q. Before k → After k q)
      → LoadsBy honest holds leaves a c (Ok tt) (λ k (u : Unit {0}). IfSome old (Covers k) → After k sorted)
  sorted_then Covers Before After old given a b c filling filled sorting sorted same is was fill opens sort =
      so honest holds leaves (λ k (u : Unit {0}). IfSome old (Covers k) → After k sorted) a b c filling filled sorting sorted tt is was fill sort
      (λ k of sorts right. sorts (opens k (of (subst (λ (o : Option _). IfSome o (Covers k)) (sym same) right))))
