-- What a put makes of a list of records in the order of their numbers.
use Rattle.std.proofs.Common.{◌≡◌, ℕ, ◌+◌, ◌<◌, ◌≤◌, Bool, true, false, cond, not, ◌==◌, List, [], ◌∷◌, ◌++◌, map, filter, if◌then◌else◌, refl, sym, ap, subst}
use Rattle.std.proofs.Common.{◌∙◌, inl, inr, ⊎_elim, arith, eq-eqb, ne_eqb, nat_cmp, is_eq, is_lt, Ordering}
use Rattle.std.proofs.lemmas.Bool.{cond_both, cond-true, cond-false}
use Rattle.std.proofs.lemmas.List.{append-nil, map-id}
use Rattle.std.proofs.lemmas.List.Elements.{filter-append}
use Rattle.ci_machine_steps.specs.Prelude.{Job, Attempt, BoardRow, placed, others, put, row_cmp, row_for, row_or_none}
use Rattle.ci_machine.proofs.Keyed.{Has, Rising, rising_from, unequal, equal, less, has_filter, map_has}
use Rattle.ci_machine.proofs.Filters.{filter_all}
use Rattle.ci_machine.proofs.Found.{put_other, put_same}
use Rattle.ci_machine_steps.proofs.Behind.{put_all, put_behind, nat_less}

-- by which numbers records stand
abbrev pub number : Job → ℕ
number j = j.id

abbrev pub attempt_id : Attempt → ℕ
attempt_id a = a.id

abbrev pub job_of : BoardRow → ℕ
job_of r = r.job

-- ---- lists

pub cons_same : {A : Type 0} {x y : A} {xs ys : List A} → x ≡ y → xs ≡ ys → x ∷ xs ≡ y ∷ ys
cons_same e h = λ i. (e i) ∷ (h i)

pub map_same : {A B : Type 0} (f g : A → B) (xs : List A) → ((x : A) → Has x xs → f x ≡ g x) → map f xs ≡ map g xs
map_same f g [] h = refl
map_same f g (x ∷ xs) h = cons_same (h x (inl refl)) (map_same f g xs (λ y k. h y (inr k)))

pub map_twice : {A B C : Type 0} (g : B → C) (h : A → B) (xs : List A) → map g (map h xs) ≡ map (λ x. g (h x)) xs
map_twice g h [] = refl
map_twice g h (x ∷ xs) = cons_same refl (map_twice g h xs)

-- one more at the end of a list passes, or doesn't
pub more_in : {A : Type 0} (p : A → Bool) (xs : List A) (x : A) → p x ≡ true → filter p (xs ++ x ∷ []) ≡ filter p xs ++ x ∷ []
more_in p xs x e = filter-append p xs (x ∷ []) ∙ ap (λ l. filter p xs ++ l) (cond-true (p x) (x ∷ []) [] e)

pub more_out : {A : Type 0} (p : A → Bool) (xs : List A) (x : A) → p x ≡ false → filter p (xs ++ x ∷ []) ≡ filter p xs
more_out p xs x e = filter-append p xs (x ∷ []) ∙ (ap (λ l. filter p xs ++ l) (cond-false (p x) (x ∷ []) [] e) ∙ append-nil (filter p xs))

-- ---- puts

-- x in place of the record with its number
abbrev pub swap : {A : Type 0} → (A → ℕ) → A → A → A
swap id x y = if id y == id x then x else y

-- f of the records that pass a test
abbrev pub change_where : {A : Type 0} → (A → Bool) → (A → A) → A → A
change_where test f y = if test y then f y else y

module _ {A : Type 0} (id : A → ℕ) where
  abbrev cmp : A → A → Ordering
  cmp a b = nat_cmp (id a) (id b)

  -- before records of greater numbers it is the first
  placed_first : (x : A) (low : ℕ) (xs : List A) → id x < low → Rising id low xs → placed cmp x xs ≡ x ∷ xs
  placed_first x low [] l r = refl
  placed_first x low (z ∷ zs) l r =
      cond_both (is_lt (nat_cmp (id z) (id x))) (z ∷ placed cmp x zs) (x ∷ z ∷ zs) (λ k. k ≡ x ∷ z ∷ zs)
      (λ e. absurd (let m : id z < id x = less (id z) (id x) e in omega (arith, r.0))) (λ e. refl)

  pub put_first : (x : A) (low : ℕ) (xs : List A) → id x < low → Rising id low xs → put (λ a b. nat_cmp (id a) (id b)) x xs ≡ x ∷ xs
  put_first x low xs l r =
      ap (placed cmp x) (filter_all (λ y. not (is_eq (nat_cmp (id y) (id x)))) xs (λ y h. unequal (id y) (id x) (λ e. absurd (omega (arith, rising_from id y low xs r h)))))
      ∙ placed_first x low xs l r

  -- it takes the place of a first of its number
  pub put_over : (x z : A) (zs : List A) → id z ≡ id x → Rising id (id z + 1) zs → put (λ a b. nat_cmp (id a) (id b)) x (z ∷ zs) ≡ x ∷ zs
  put_over x z zs e r =
      ap (placed cmp x) (cond-false (not (is_eq (nat_cmp (id z) (id x)))) (z ∷ others cmp x zs) (others cmp x zs) (ap not (equal (id z) (id x) e)))
      ∙ put_first x (id z + 1) zs (omega arith) r

  -- and stands behind a first of a lesser one
  pub put_after : (x z : A) (zs : List A) → id z < id x → put (λ a b. nat_cmp (id a) (id b)) x (z ∷ zs) ≡ z ∷ put (λ a b. nat_cmp (id a) (id b)) x zs
  put_after x z zs l =
      ap (placed cmp x) (cond-true (not (is_eq (nat_cmp (id z) (id x)))) (z ∷ others cmp x zs) (others cmp x zs) (unequal (id z) (id x) (λ e. absurd (omega arith))))
      ∙ cond-true (is_lt (nat_cmp (id z) (id x))) (z ∷ put cmp x zs) (x ∷ z ∷ others cmp x zs) (ap is_lt (nat_less (id z) (id x) l))

  -- a record put in place of one of its number stands where that one stood
  pub put_replace : (a x : A) (low : ℕ) (xs : List A) → Rising id low xs → Has a xs → id a ≡ id x → put (λ a b. nat_cmp (id a) (id b)) x xs ≡ map (swap id x) xs
  put_replace a x low [] r h e = absurd h
  put_replace a x low (z ∷ zs) r h e =
      ⊎_elim
      (λ is. let at : id z ≡ id x = ap id (sym is) ∙ e in
      put_over x z zs at r.1
      ∙ sym (cons_same (cond-true (id z == id x) x z (eq-eqb (id z) (id x) at)) (map_same (swap id x) (λ y. y) zs
      (λ y k. cond-false (id y == id x) x y (ne_eqb (id y) (id x) (λ q. absurd (omega (arith, rising_from id y (id z + 1) zs r.1 k))))) ∙ map-id zs)))
      (λ m. let after : id z + 1 ≤ id a = rising_from id a (id z + 1) zs r.1 m in
      put_after x z zs (omega arith)
      ∙ cons_same (sym (cond-false (id z == id x) x z (ne_eqb (id z) (id x) (λ q. absurd (omega arith))))) (put_replace a x (id z + 1) zs r.1 m e))
      h

  -- a record put whose number is greater than all stands last
  pub put_last : (x : A) (xs : List A) → ((y : A) → Has y xs → id y < id x) → put (λ a b. nat_cmp (id a) (id b)) x xs ≡ xs ++ x ∷ []
  put_last x xs all = put_behind cmp x xs (λ y h. nat_less (id y) (id x) (all y h))

  all_after : (z : A) (rs zs : List A) → ((r : A) → Has r rs → id z < id r) → put_all cmp rs (z ∷ zs) ≡ z ∷ put_all cmp rs zs
  all_after z [] zs h = refl
  all_after z (r ∷ rs) zs h = ap (put_all cmp rs) (put_after r z zs (h r (inl refl))) ∙ all_after z rs (put cmp r zs) (λ q k. h q (inr k))

  -- those that pass a test, each put as f of itself: the list is f of these, and the rest
  pub puts_where : (f : A → A) (test : A → Bool) → ((x : A) → id (f x) ≡ id x) → (low : ℕ) (xs : List A) → Rising id low xs
      → put_all (λ a b. nat_cmp (id a) (id b)) (map f (filter test xs)) xs ≡ map (change_where test f) xs
  puts_where f test keeps low [] r = refl
  puts_where f test keeps low (z ∷ zs) r = by (test z) (puts_where f test keeps (id z + 1) zs r.1)
    where
      above : (y : A) → Has y (map f (filter test zs)) → id z < id y
      above y k =
          let w = map_has f y (filter test zs) k in
          let l : id z + 1 ≤ id w.0 = rising_from id w.0 (id z + 1) zs r.1 (has_filter test w.0 zs w.1.0).0 in
          let same : id y ≡ id w.0 = ap id (sym w.1.1) ∙ keeps w.0 in omega arith

      by : (b : Bool) → put_all cmp (map f (filter test zs)) zs ≡ map (change_where test f) zs
          → put_all cmp (map f (cond b (z ∷ filter test zs) (filter test zs))) (z ∷ zs) ≡ cond b (f z) z ∷ map (change_where test f) zs
      by true rest =
          ap (put_all cmp (map f (filter test zs))) (put_over (f z) z zs (sym (keeps z)) r.1)
          ∙ (all_after (f z) (map f (filter test zs)) zs (λ y k. subst (λ n. n < id y) (sym (keeps z)) (above y k)) ∙ cons_same refl rest)
      by false rest = all_after z (map f (filter test zs)) zs above ∙ cons_same refl rest

-- ---- rows

-- a put row is found at its job, and the others where they were
pub row_put : (r : BoardRow) (b : List BoardRow) → row_for (put row_cmp r b) r.job ≡ r.row
row_put r b = ap row_or_none (put_same job_of r r.job b refl)

pub row_other : (r : BoardRow) (n : ℕ) (b : List BoardRow) → (n ≡ r.job → ⊥) → row_for (put row_cmp r b) n ≡ row_for b n
row_other r n b d = ap row_or_none (put_other job_of r n b d)
