-- Records put among others by their numbers, and what passes a test of them.
use Rattle.std.proofs.Common.{◌≡◌, ℕ, suc, ◌+◌, ◌≤◌, nat_lt, ◌==◌, ◌&&◌, Bool, true, false, cond, not, List, [], ◌∷◌, insert, filter, Ordering, nat_cmp, is_eq, is_lt, refl, sym}
use Rattle.std.proofs.Common.{ap, ◌∙◌, inl, arith}
use Rattle.std.specs.List.{prefix_len}
use Rattle.std.proofs.lemmas.Bool.Decides.{nat_tests}
use Rattle.ci_machine_steps.specs.Prelude.{placed, others, put}
use Rattle.ci_machine.proofs.Filters.{filter_both, unlike}
use Rattle.ci_machine.proofs.Keyed.{Has, Rising, rising_from, rising_filter, has_filter, less, not_less, filter_same}

not_lt : (a b : ℕ) → b ≤ a → is_lt (nat_cmp a b) ≡ false
not_lt a b h = grind (arith, less a b)

lt_test : (a b : ℕ) → nat_lt a b ≡ is_lt (nat_cmp a b)
lt_test a b = grind (arith, nat_tests, less a b, not_less a b)

module _ {A : Type 0} (id : A → ℕ) where
  abbrev by : A → A → Ordering
  by a b = nat_cmp (id a) (id b)

  abbrev lesser : A → A → Bool
  lesser x y = nat_lt (id y) (id x)

  -- a record that is put in behind those that are lesser, from the first on, is at its place
  put_in : (x : A) (xs : List A) → insert xs (prefix_len (lesser x) xs) x ≡ placed by x xs
  put_in x [] = refl
  put_in x (z ∷ zs) = either (is_lt (by z x)) (lt_test (id z) (id x)) (put_in x zs)
    where
      either : (b : Bool) → lesser x z ≡ b → insert zs (prefix_len (lesser x) zs) x ≡ placed by x zs → insert (z ∷ zs) (cond (lesser x z) (1 + prefix_len (lesser x) zs) 0) x ≡ cond b (z ∷ placed by x zs) (x ∷ z ∷ zs)
      either true e more =
          let one : 1 + prefix_len (lesser x) zs ≡ suc (prefix_len (lesser x) zs) = omega arith in
          ap (λ b. insert (z ∷ zs) (cond b (1 + prefix_len (lesser x) zs) 0) x) e ∙ ap (λ n. insert (z ∷ zs) n x) one ∙ ap (λ l. z ∷ l) more
      either false e more = ap (λ b. insert (z ∷ zs) (cond b (1 + prefix_len (lesser x) zs) 0) x) e

  -- so it is put, where the one that had its number was taken out
  pub put_back : (x : A) (n : ℕ) (xs left : List A) → left ≡ filter (λ y. not (id x == id y)) xs → n ≡ prefix_len (lesser x) left → insert left n x ≡ put by x xs
  put_back x n xs left is at =
      ap (λ m. insert left m x) at ∙ put_in x left
      ∙ ap (placed by x) (is ∙ filter_same (λ y. not (id x == id y)) (λ y. not (is_eq (by y x))) xs (λ y _. sym (unlike (id y) (id x))))

  placed_first : (x : A) (xs : List A) → ((y : A) → Has y xs → id x ≤ id y) → placed by x xs ≡ x ∷ xs
  placed_first x [] low = refl
  placed_first x (z ∷ zs) low = grind (arith, not_lt (id z) (id x) (low z (inl refl)))

  filter_placed : (test : A → Bool) (x : A) (low : ℕ) (xs : List A) → Rising id low xs → test x ≡ true → filter test (placed by x xs) ≡ placed by x (filter test xs)
  filter_placed test x low [] r t = grind arith
  filter_placed test x low (z ∷ zs) r t =
      grind (
        arith,
        filter_placed test x (id z + 1) zs r.1 t,
        λ (e : is_lt (by z x) ≡ false). placed_first x (filter test (z ∷ zs))
            (λ y h. let from = rising_from id y (id z) (z ∷ zs) (omega arith, r.1) (has_filter test y (z ∷ zs) h).0 in omega (arith, from, not_less (id z) (id x) e)),
      )

  filter_others : (test : A → Bool) (x : A) (xs : List A) → filter test (others by x xs) ≡ others by x (filter test xs)
  filter_others test x xs =
      filter_both (λ y. not (is_eq (by y x))) test (λ y. not (is_eq (by y x)) && test y) xs (λ y. refl)
      ∙ sym (filter_both test (λ y. not (is_eq (by y x))) (λ y. not (is_eq (by y x)) && test y) xs (λ y. grind arith))

  -- what passes where a record that passes is put, in a list in order: it is put among those that passed
  pub filter_put : (test : A → Bool) (x : A) (xs : List A) → Rising id 0 xs → test x ≡ true → filter test (put by x xs) ≡ put by x (filter test xs)
  filter_put test x xs r t =
      filter_placed test x 0 (others by x xs) (rising_filter id (λ y. not (is_eq (by y x))) 0 xs r) t ∙ ap (placed by x) (filter_others test x xs)
