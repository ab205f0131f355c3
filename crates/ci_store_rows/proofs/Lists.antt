-- A list of records after a change, and the list of their rows.
use Rattle.ci_store.specs.Prelude.{Row, has_key, without, placed, others, put}
use Rattle.ci_store_rows.specs.Prelude.{Rises}
use Rattle.std.proofs.lemmas.List.Sorted.{IsPermutation-map, IsPermutation-refl, IsPermutation-cons, IsPermutation-trans, IsPermutation-middle, IsPermutation-sym}
use Rattle.ci_store_rows.proofs.Words.{◌≡◌, ℕ, List, [], ◌∷◌, map, filter, Bool, true, false, not, cond, Ordering, Less, Equal, Greater, refl, sym, ap, subst, ◌∙◌}
use Rattle.ci_store_rows.proofs.Words.{IsPermutation, is_eq, is_lt, nat_cmp, AllByRecursion, ordering_then, ordering_reverse, IsTotalOrder, slice_cmp, on_total, then_total}
use Rattle.ci_store_rows.proofs.Words.{nat_list_cmp_total, nat_cmp_total, filter-map, filter_same, IsPermutation-same, ascending-filter, all_weaker, all-filter, all_from}
use Rattle.ci_store_rows.proofs.Words.{has_filtered, not-true, all-permutation}

pub inserted : {X : Type 0} (cmp : X → X → Ordering) (x : X) (xs : List X) → IsPermutation (x ∷ xs) (placed cmp x xs)
inserted cmp x [] = IsPermutation-refl _
inserted cmp x (y ∷ xs) =
    elim (is_lt (cmp y x)) as (λ b. IsPermutation (x ∷ y ∷ xs) (cond b (y ∷ placed cmp x xs) (x ∷ y ∷ xs)))
    [ true ↦ IsPermutation-trans _ _ _ (IsPermutation-sym _ _ (IsPermutation-middle (y ∷ []) x xs)) (IsPermutation-cons y _ _ (inserted cmp x xs)) | false ↦ IsPermutation-refl _ ]

module _ {X : Type 0} (values : X → Row) (key : Row) where
  pub without_is : (test : X → Bool) → ((y : X) → has_key key (values y) ≡ test y) → (xs : List X) → without key (map values xs) ≡ map values (filter (λ y. not (test y)) xs)
  without_is test same xs = filter-map (λ r. not (has_key key r)) values xs ∙ ap (map values) (filter_same _ _ (λ y. ap not (same y)) xs)

  pub removed_from : (test : X → Bool) → ((y : X) → has_key key (values y) ≡ test y) → (xs : List X) → IsPermutation (without key (map values xs)) (map values (filter (λ y. not (test y)) xs))
  removed_from test same xs = IsPermutation-same _ _ (without_is test same xs)

  pub put_among : (cmp : X → X → Ordering) (x : X) → ((y : X) → has_key key (values y) ≡ is_eq (cmp y x)) → (xs : List X) → IsPermutation (values x ∷ without key (map values xs)) (map values (put cmp x xs))
  put_among cmp x same xs =
      subst (λ l. IsPermutation (values x ∷ l) (map values (put cmp x xs))) (sym (without_is (λ y. is_eq (cmp y x)) same xs))
      (IsPermutation-map values _ _ (inserted cmp x (others cmp x xs)))

module _ {X : Type 0} (cmp : X → X → Ordering) (total : IsTotalOrder cmp) (x : X) where
  placed_rises : (xs : List X) → Rises cmp xs → AllByRecursion (λ y. is_eq (cmp y x) ≡ false) xs → Rises cmp (placed cmp x xs)
  placed_rises [] up apart = (tt, tt)
  placed_rises (y ∷ xs) up apart = go (cmp y x) refl apart.0 (placed_rises xs up.1 apart.1)
    where
      go : (o : Ordering) → cmp y x ≡ o → is_eq o ≡ false → Rises cmp (placed cmp x xs) → Rises cmp (cond (is_lt o) (y ∷ placed cmp x xs) (x ∷ y ∷ xs))
      go Less is h more = (all-permutation (λ z. cmp y z ≡ Less) (x ∷ xs) (placed cmp x xs) (inserted cmp x xs) (is, up.0), more)
      go Equal is h more = absurd cc
      go Greater is h more =
          let low : cmp x y ≡ Less = total.antisymm x y ∙ ap ordering_reverse is in
          ((low, all_weaker _ (λ z. cmp x z ≡ Less) (λ z h. total.trans x y z low h) xs up.0), up)

  pub put_rises : (xs : List X) → Rises cmp xs → Rises cmp (put cmp x xs)
  put_rises xs up = placed_rises (others cmp x xs) (ascending-filter _ _ xs up)
      (all_from _ (others cmp x xs) (λ y h. not-true _ (has_filtered (λ y. not (is_eq (cmp y x))) xs y h).1))

pub all_put : {X : Type 0} (cmp : X → X → Ordering) (P : X → Type 0) (x : X) (xs : List X) → P x → AllByRecursion P xs → AllByRecursion P (put cmp x xs)
all_put cmp P x xs h all = all-permutation P (x ∷ others cmp x xs) _ (inserted cmp x (others cmp x xs)) (h, all-filter P _ xs all)

pub by_number : {X : Type 0} (id : X → ℕ) → IsTotalOrder (λ a b. nat_cmp (id a) (id b))
by_number id = on_total id nat_cmp_total

pub by_both : {X : Type 0} (id : X → ℕ) (name : X → List ℕ) → IsTotalOrder (λ a b. ordering_then (nat_cmp (id a) (id b)) (slice_cmp nat_cmp (name a) (name b)))
by_both id name = then_total (on_total id nat_cmp_total) (on_total name nat_list_cmp_total)

pub by_two : {X : Type 0} (first second : X → ℕ) → IsTotalOrder (λ a b. ordering_then (nat_cmp (first a) (first b)) (nat_cmp (second a) (second b)))
by_two first second = then_total (on_total first nat_cmp_total) (on_total second nat_cmp_total)
