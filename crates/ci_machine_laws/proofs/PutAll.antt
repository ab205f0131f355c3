-- Many records put into a list in the order of its numbers.
use Rattle.ci_machine_laws.proofs.Prelude.{◌≡◌, ◌⊎◌, ℕ, ◌+◌, ◌<◌, ◌≤◌, true, false, not, ◌==◌, if◌then◌else◌, List, [], ◌∷◌, map, nat_cmp, is_eq, is_lt, Ordering, refl, sym, ap}
use Rattle.ci_machine_laws.proofs.Prelude.{subst, ◌∙◌, inl, inr, ⊎_elim, arith, eqb-true, eq-eqb, ne_eqb, map-id, cond_both, cond-true, cond-false, both_ways, cases_Bool}
use Rattle.ci_machine_laws.proofs.Prelude.{false_from_ne_true, Has, Rising, Named, less, equal, unequal, rising_from, rising_put, put_has, has_map, map_has, one_at, filter_all}
use Rattle.ci_machine_laws.proofs.Prelude.{nat_less, put_all}
use Rattle.ci_machine_steps.specs.Prelude.{placed, others, put}

pub map_twice : {A B C : Type 0} (g : B → C) (f : A → B) (xs : List A) → map (λ x. g (f x)) xs ≡ map g (map f xs)
map_twice g f [] = refl
map_twice g f (x ∷ xs) = ap (λ l. g (f x) ∷ l) (map_twice g f xs)

module _ {A : Type 0} (id : A → ℕ) where
  abbrev by_id : A → A → Ordering
  by_id a b = nat_cmp (id a) (id b)

  -- it rises
  pub rising_all : (rs xs : List A) → Rising id 0 xs → Rising id 0 (put_all (λ a b. nat_cmp (id a) (id b)) rs xs)
  rising_all [] xs r = r
  rising_all (x ∷ rs) xs r = rising_all rs (put by_id x xs) (rising_put id x 0 xs r (omega arith))

  -- it has each record in whose place none of them comes
  pub has_still : (rs xs : List A) (y : A) → Has y xs → ((r : A) → Has r rs → id y ≡ id r → ⊥) → Has y (put_all (λ a b. nat_cmp (id a) (id b)) rs xs)
  has_still [] xs y k d = k
  has_still (r ∷ rs) xs y k d = has_still rs (put by_id r xs) y (put_has by_id r y xs k (unequal (id y) (id r) (d r (inl refl)))) (λ q m. d q (inr m))

  -- ---- in the places of those that are there

  -- x, where y has its number
  abbrev pub at : A → A → A
  at x y = if id y == id x then x else y

  abbrev pub all_at : List A → A → A
  all_at [] y = y
  all_at (r ∷ rs) y = all_at rs (at r y)

  at_id : (x y : A) → id (at x y) ≡ id y
  at_id x y = cond_both (id y == id x) x y (λ w. id w ≡ id y) (λ e. sym (eqb-true (id y) (id x) e)) (λ _. refl)

  pub all_at_id : (rs : List A) (y : A) → id (all_at rs y) ≡ id y
  all_at_id [] y = refl
  all_at_id (r ∷ rs) y = all_at_id rs (at r y) ∙ at_id r y

  none_at : (x : A) (low : ℕ) (xs : List A) → Rising id low xs → id x < low → map (at x) xs ≡ xs
  none_at x low [] r l = refl
  none_at x low (y ∷ ys) r l =
      let m : low ≤ id y = r.0 in
      let other : (id y == id x) ≡ false = ne_eqb (id y) (id x) (λ e. absurd (omega arith)) in
      let rest : map (at x) ys ≡ ys = none_at x (id y + 1) ys r.1 (omega arith) in
      λ i. cond-false (id y == id x) x y other i ∷ rest i

  placed_first : (x : A) (low : ℕ) (ys : List A) → Rising id low ys → id x < low → placed by_id x ys ≡ x ∷ ys
  placed_first x low [] r l = refl
  placed_first x low (y ∷ ys) r l =
      let m : low ≤ id y = r.0 in
      cond-false (is_lt (by_id y x)) (y ∷ placed by_id x ys) (x ∷ y ∷ ys) (false_from_ne_true (is_lt (by_id y x)) (λ t. let b : id y < id x = less (id y) (id x) t in absurd (omega arith)))

  put_in_place : (x a : A) (low : ℕ) (xs : List A) → Rising id low xs → Has a xs → id a ≡ id x → put by_id x xs ≡ map (at x) xs
  put_in_place x a low [] r k e = absurd k
  put_in_place x a low (z ∷ zs) r k e =
      ⊎_elim
      (λ q.
      let same : id z ≡ id x = ap id (sym q) ∙ e in
      let gone : not (is_eq (by_id z x)) ≡ false = ap not (equal (id z) (id x) same) in
      let all : others by_id x zs ≡ zs = filter_all (λ y. not (is_eq (by_id y x))) zs (λ y m. unequal (id y) (id x) (λ f. let b : id z + 1 ≤ id y = rising_from id y (id z + 1) zs r.1 m in absurd (omega arith))) in
      let none : map (at x) zs ≡ zs = none_at x (id z + 1) zs r.1 (omega arith) in
      let here : at x z ≡ x = cond-true (id z == id x) x z (eq-eqb (id z) (id x) same) in
      ap (placed by_id x) (cond-false (not (is_eq (by_id z x))) (z ∷ others by_id x zs) (others by_id x zs) gone ∙ all)
      ∙ (placed_first x (id z + 1) zs r.1 (omega arith)
      ∙ sym (λ i. here i ∷ none i)))
      (λ m.
      let b : id z + 1 ≤ id a = rising_from id a (id z + 1) zs r.1 m in
      let stays : not (is_eq (by_id z x)) ≡ true = unequal (id z) (id x) (λ f. absurd (omega arith)) in
      let there : at x z ≡ z = cond-false (id z == id x) x z (ne_eqb (id z) (id x) (λ f. absurd (omega arith))) in
      let more : put by_id x zs ≡ map (at x) zs = put_in_place x a (id z + 1) zs r.1 m e in
      ap (placed by_id x) (cond-true (not (is_eq (by_id z x))) (z ∷ others by_id x zs) (others by_id x zs) stays)
      ∙ (cond-true (is_lt (by_id z x)) (z ∷ placed by_id x (others by_id x zs)) (x ∷ z ∷ others by_id x zs) (ap is_lt (nat_less (id z) (id x) (omega arith)))
      ∙ (λ i. sym there i ∷ more i)))
      k

  pub rising_mapped : (f : A → A) (low : ℕ) (xs : List A) → ((x : A) → id (f x) ≡ id x) → Rising id low xs → Rising id low (map f xs)
  rising_mapped f low [] e r = tt
  rising_mapped f low (x ∷ xs) e r = (subst (λ n. low ≤ n) (sym (e x)) r.0, subst (λ n. Rising id (n + 1) (map f xs)) (sym (e x)) (rising_mapped f (id x + 1) xs e r.1))

  -- records that are put in the places of others
  pub all_in_place : (rs xs : List A) → Rising id 0 xs → ((r : A) → Has r rs → Named id (id r) xs) → put_all (λ a b. nat_cmp (id a) (id b)) rs xs ≡ map (all_at rs) xs
  all_in_place [] xs rise named = sym (map-id xs)
  all_in_place (r ∷ rs) xs rise named =
      let w = named r (inl refl) in
      ap (put_all by_id rs) (put_in_place r w.0 0 xs rise w.1.0 w.1.1)
      ∙ (all_in_place rs (map (at r) xs) (rising_mapped (at r) 0 xs (at_id r) rise)
      (λ q m. let v = named q (inr m) in (at r v.0, (has_map (at r) v.0 xs v.1.0, at_id r v.0 ∙ v.1.1)))
      ∙ sym (map_twice (all_at rs) (at r) xs))

  -- what stands in y's place is one of the records, or y, whose number none of them has
  pub at_or : (rs : List A) (y : A) → Has (all_at rs y) rs ⊎ ((all_at rs y ≡ y) × ((r : A) → Has r rs → id r ≡ id y → ⊥))
  at_or [] y = inr (refl, λ r k. absurd k)
  at_or (r ∷ rs) y =
      ⊎_elim
      (λ m. inl (inr m))
      (λ w. ⊎_elim
      (λ t. inl (inl (w.0 ∙ cond-true (id y == id r) r y t)))
      (λ f. inr (w.0 ∙ cond-false (id y == id r) r y f, λ q k e. ⊎_elim (λ s. both_ways (id y == id r) f (eq-eqb (id y) (id r) (sym e ∙ ap id s))) (λ m. w.1 q m (e ∙ sym (at_id r y))) k))
      (cases_Bool (id y == id r)))
      (at_or rs (at r y))

  -- what is put is made of some of those that are there
  module _ (g : A → A) (same : (y : A) → id (g y) ≡ id y) (ms xs : List A) (rise : Rising id 0 xs) (within : (m : A) → Has m ms → Has m xs) where
    made_of : (r y : A) → Has r (map g ms) → Has y xs → id r ≡ id y → Has y ms × (g y ≡ r)
    made_of r y k m e =
        let w = map_has g r ms k in
        let is : w.0 ≡ y = one_at id w.0 y 0 xs rise (within w.0 w.1.0) m (sym (same w.0) ∙ (ap id w.1.1 ∙ e)) in
        (subst (λ (v : A). Has v ms) is w.1.0, ap g (sym is) ∙ w.1.1)

    pub changed_at : (y : A) → Has y ms → all_at (map g ms) y ≡ g y
    changed_at y k = ⊎_elim (λ m. sym (made_of _ y m (within y k) (all_at_id (map g ms) y)).1) (λ w. absurd (w.1 (g y) (has_map g y ms k) (same y))) (at_or (map g ms) y)

    pub left_at : (y : A) → Has y xs → (Has y ms → ⊥) → all_at (map g ms) y ≡ y
    left_at y k out = ⊎_elim (λ m. absurd (out (made_of _ y m k (all_at_id (map g ms) y)).0)) (λ w. w.0) (at_or (map g ms) y)

    pub made_in_place : put_all (λ a b. nat_cmp (id a) (id b)) (map g ms) xs ≡ map (all_at (map g ms)) xs
    made_in_place = all_in_place (map g ms) xs rise (λ r k. let w = map_has g r ms k in (w.0, (within w.0 w.1.0, sym (same w.0) ∙ ap id w.1.1)))
