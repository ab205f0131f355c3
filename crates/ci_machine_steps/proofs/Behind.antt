-- Records that are put behind all others of their list.
use Rattle.std.proofs.Common.{◌≡◌, ℕ, ◌+◌, ◌<◌, ◌≤◌, not, List, [], ◌∷◌, ◌++◌, ◌⊎◌, nat_cmp, is_eq, is_lt, Ordering, Less, refl, sym, ap, subst, ◌∙◌, inl, inr, ⊎_elim, arith}
use Rattle.std.proofs.Common.{lt-ltb, flat_map}
use Rattle.std.proofs.lemmas.Bool.{cond-true}
use Rattle.std.proofs.lemmas.List.{append-nil, append_assoc}
use Rattle.ci_machine_steps.specs.Prelude.{placed, others, put}
use Rattle.ci_machine.proofs.Keyed.{Has, Rising, rising_from, has_put}
use Rattle.ci_machine_steps.proofs.Variables.{Ordered}

pub nat_less : (a b : ℕ) → a < b → nat_cmp a b ≡ Less
nat_less a b l = cond-true _ _ _ (lt-ltb a b l)

pub in_either : {A : Type 0} (x : A) (xs ys : List A) → Has x (xs ++ ys) → Has x xs ⊎ Has x ys
in_either x [] ys h = inr h
in_either x (z ∷ zs) ys h = ⊎_elim (λ e. inl (inl e)) (λ m. ⊎_elim (λ k. inl (inr k)) (λ k. inr k) (in_either x zs ys m)) h

pub has_left : {A : Type 0} (x : A) (xs ys : List A) → Has x xs → Has x (xs ++ ys)
has_left x [] ys h = absurd h
has_left x (z ∷ zs) ys h = ⊎_elim (λ e. inl e) (λ m. inr (has_left x zs ys m)) h

pub has_right : {A : Type 0} (x : A) (xs ys : List A) → Has x ys → Has x (xs ++ ys)
has_right x [] ys h = h
has_right x (z ∷ zs) ys h = inr (has_right x zs ys h)

pub flat_has : {A B : Type 0} (f : A → List B) (y : B) (x : A) (xs : List A) → Has x xs → Has y (f x) → Has y (flat_map f xs)
flat_has f y x [] h k = absurd h
flat_has f y x (z ∷ zs) h k =
    ⊎_elim
    (λ e. has_left y (f z) (flat_map f zs) (subst (λ (w : _). Has y (f w)) e k))
    (λ m. has_right y (f z) (flat_map f zs) (flat_has f y x zs m k))
    h

pub has_flat : {A B : Type 0} (f : A → List B) (y : B) (xs : List A) → Has y (flat_map f xs) → (x : A) × (Has x xs × Has y (f x))
has_flat f y [] h = absurd h
has_flat f y (z ∷ zs) h =
    ⊎_elim (λ m. (z, (inl refl, m))) (λ m. let w = has_flat f y zs m in (w.0, (inr w.1.0, w.1.1))) (in_either y (f z) (flat_map f zs) h)

pub flat_same : {A B : Type 0} (f g : A → List B) (xs : List A) → ((x : A) → Has x xs → f x ≡ g x) → flat_map f xs ≡ flat_map g xs
flat_same f g [] h = refl
flat_same f g (x ∷ xs) h = λ i. h x (inl refl) i ++ flat_same f g xs (λ y k. h y (inr k)) i

module _ {A : Type 0} (cmp : A → A → Ordering) where
  -- every record of the list is less than x
  abbrev pub AreBefore : List A → A → Type 0
  AreBefore xs x = (y : A) → Has y xs → cmp y x ≡ Less

  none_gone : (x : A) (xs : List A) → AreBefore xs x → others cmp x xs ≡ xs
  none_gone x [] h = refl
  none_gone x (z ∷ zs) h =
      cond-true (not (is_eq (cmp z x))) (z ∷ others cmp x zs) (others cmp x zs) (ap (λ o. not (is_eq o)) (h z (inl refl)))
      ∙ ap (λ l. z ∷ l) (none_gone x zs (λ y k. h y (inr k)))

  goes_last : (x : A) (xs : List A) → AreBefore xs x → placed cmp x xs ≡ xs ++ x ∷ []
  goes_last x [] h = refl
  goes_last x (z ∷ zs) h =
      cond-true (is_lt (cmp z x)) (z ∷ placed cmp x zs) (x ∷ z ∷ zs) (ap is_lt (h z (inl refl)))
      ∙ ap (λ l. z ∷ l) (goes_last x zs (λ y k. h y (inr k)))

  pub put_behind : (x : A) (xs : List A) → AreBefore xs x → put cmp x xs ≡ xs ++ x ∷ []
  put_behind x xs h = ap (placed cmp x) (none_gone x xs h) ∙ goes_last x xs h

  -- these records put, the first of them first
  abbrev pub put_all : List A → List A → List A
  put_all [] xs = xs
  put_all (r ∷ rs) xs = put_all rs (put cmp r xs)

  pub all_behind : (rs xs : List A) → Ordered cmp rs → ((r : A) → Has r rs → AreBefore xs r) → put_all rs xs ≡ xs ++ rs
  all_behind [] xs o h = sym (append-nil xs)
  all_behind (r ∷ rs) xs o h =
      ap (put_all rs) (put_behind r xs (h r (inl refl)))
      ∙ (all_behind rs (xs ++ r ∷ []) o.1 (λ q k y m. ends q k y (split y xs m)) ∙ append_assoc xs (r ∷ []) rs)
    where
      split : (y : A) (l : List A) → Has y (l ++ r ∷ []) → Has y l ⊎ (y ≡ r)
      split y [] m = ⊎_elim (λ e. inr e) (λ k. absurd k) m
      split y (z ∷ l) m = ⊎_elim (λ e. inl (inl e)) (λ k. ⊎_elim (λ q. inl (inr q)) (λ q. inr q) (split y l k)) m

      ends : (q : A) → Has q rs → (y : A) → Has y xs ⊎ (y ≡ r) → cmp y q ≡ Less
      ends q k y m = ⊎_elim (λ n. h q (inr k) y n) (λ e. subst (λ (w : A). cmp w q ≡ Less) (sym e) (o.0 q k)) m

  -- what the list has then
  pub has_all : (rs xs : List A) (y : A) → Has y (put_all rs xs) → Has y xs ⊎ Has y rs
  has_all [] xs y h = inl h
  has_all (r ∷ rs) xs y h =
      ⊎_elim (λ m. ⊎_elim (λ e. inr (inl e)) (λ k. inl k) (has_put cmp r y xs m)) (λ m. inr (inr m)) (has_all rs (put cmp r xs) y h)

-- numbers that rise are in their order
pub rising_ordered : {A : Type 0} (id : A → ℕ) (low : ℕ) (xs : List A) → Rising id low xs → Ordered (λ a b. nat_cmp (id a) (id b)) xs
rising_ordered id low [] r = tt
rising_ordered id low (x ∷ xs) r = (λ y k. nat_less (id x) (id y) (let l : id x + 1 ≤ id y = rising_from id y (id x + 1) xs r.1 k in omega arith), rising_ordered id (id x + 1) xs r.1)
