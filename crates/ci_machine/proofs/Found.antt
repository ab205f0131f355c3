-- What is found in a list of records, and in one that is changed.
use Rattle.std.proofs.Common.{◌≡◌, ℕ, Bool, true, false, not, ◌==◌, List, [], ◌∷◌, filter, find, Some, None, Ordering, nat_cmp, is_eq, refl, sym, ◌∙◌, inl, inr, arith, eqb-true, eq-eqb, ne_eqb}
use Rattle.std.specs.List.{list_any}
use Rattle.ci_machine.specs.Prelude.{placed, others, put, without}
use Rattle.ci_machine.proofs.Keyed.{Has, has_filter, different, unequal}
use Rattle.ci_machine.proofs.Filters.{find_implied}

module _ {A : Type 0} where
  -- a record that doesn't pass may stand anywhere among those of which one is found, or which pass
  pub find_placed : (cmp : A → A → Ordering) (p : A → Bool) (x : A) (xs : List A) → p x ≡ false → find p (placed cmp x xs) ≡ find p xs
  find_placed cmp p x [] e = grind arith
  find_placed cmp p x (y ∷ ys) e = grind (arith, find_placed cmp p x ys e)

  pub filter_placed : (cmp : A → A → Ordering) (p : A → Bool) (x : A) (xs : List A) → p x ≡ false → filter p (placed cmp x xs) ≡ filter p xs
  filter_placed cmp p x [] e = grind arith
  filter_placed cmp p x (y ∷ ys) e = grind (arith, filter_placed cmp p x ys e)

  -- and so may one that passes, where no other does
  pub find_placed_one : (cmp : A → A → Ordering) (p : A → Bool) (x : A) (xs : List A) → p x ≡ true → ((y : A) → Has y xs → p y ≡ false) → find p (placed cmp x xs) ≡ Some x
  find_placed_one cmp p x [] e none = grind arith
  find_placed_one cmp p x (y ∷ ys) e none = grind (arith, none y (inl refl), find_placed_one cmp p x ys e (λ z k. none z (inr k)))

  -- nothing is found where nothing passes, and nowhere else
  pub find_none : (p : A → Bool) (xs : List A) → ((y : A) → Has y xs → p y ≡ false) → find p xs ≡ None
  find_none p [] none = refl
  find_none p (y ∷ ys) none = grind (arith, none y (inl refl), find_none p ys (λ z k. none z (inr k)))

  pub found_none : (p : A → Bool) (x : A) (xs : List A) → find p xs ≡ None → Has x xs → p x ≡ false
  found_none p x [] none h = absurd h
  found_none p x (y ∷ ys) none h = grind (arith, found_none p x ys)

  pub any_none : (p : A → Bool) (x : A) (xs : List A) → list_any p xs ≡ false → Has x xs → p x ≡ false
  any_none p x [] none h = absurd h
  any_none p x (y ∷ ys) none h = grind (arith, any_none p x ys)

  -- what no record of x's key passes is found as before, where x doesn't pass
  pub find_put : (p : A → Bool) (cmp : A → A → Ordering) (x : A) (xs : List A) → p x ≡ false → ((y : A) → p y ≡ true → not (is_eq (cmp y x)) ≡ true) → find p (put cmp x xs) ≡ find p xs
  find_put p cmp x xs e other = find_placed cmp p x (others cmp x xs) e ∙ find_implied p (λ y. not (is_eq (cmp y x))) xs (λ y k. other y)

  pub placed_here : (cmp : A → A → Ordering) (x : A) (xs : List A) → Has x (placed cmp x xs)
  placed_here cmp x [] = grind arith
  placed_here cmp x (y ∷ ys) = grind (arith, placed_here cmp x ys)

  pub put_here : (cmp : A → A → Ordering) (x : A) (xs : List A) → Has x (put cmp x xs)
  put_here cmp x xs = placed_here cmp x (others cmp x xs)

-- records that go by a number
module _ {A : Type 0} (id : A → ℕ) where
  abbrev by_id : A → A → Ordering
  by_id a b = nat_cmp (id a) (id b)

  pub without_other : (m n : ℕ) (xs : List A) → (n ≡ m → ⊥) → find (λ y. id y == n) (without id m xs) ≡ find (λ y. id y == n) xs
  without_other m n xs other =
      find_implied (λ y. id y == n) (λ y. not (is_eq (nat_cmp (id y) m))) xs (λ y k e. unequal (id y) m (λ f. other (sym (eqb-true (id y) n e) ∙ f)))

  pub without_same : (m n : ℕ) (xs : List A) → n ≡ m → find (λ y. id y == n) (without id m xs) ≡ None
  without_same m n xs same =
      find_none (λ y. id y == n) (without id m xs)
      (λ y k. ne_eqb (id y) n (λ e. different (id y) m (has_filter (λ z. not (is_eq (nat_cmp (id z) m))) y xs k).1 (e ∙ same)))

  pub put_other : (x : A) (n : ℕ) (xs : List A) → (n ≡ id x → ⊥) → find (λ y. id y == n) (put by_id x xs) ≡ find (λ y. id y == n) xs
  put_other x n xs other = find_placed by_id (λ y. id y == n) x (others by_id x xs) (ne_eqb (id x) n (λ e. other (sym e))) ∙ without_other (id x) n xs other

  pub put_same : (x : A) (n : ℕ) (xs : List A) → n ≡ id x → find (λ y. id y == n) (put by_id x xs) ≡ Some x
  put_same x n xs same =
      find_placed_one by_id (λ y. id y == n) x (others by_id x xs) (eq-eqb (id x) n (sym same))
      (λ y k. ne_eqb (id y) n (λ e. different (id y) (id x) (has_filter (λ z. not (is_eq (nat_cmp (id z) (id x)))) y xs k).1 (e ∙ same)))
