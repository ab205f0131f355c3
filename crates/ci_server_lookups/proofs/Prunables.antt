-- The finished pipeline of least number that is old enough is the first such one of those that were looked up.
use Rattle.std.proofs.Common.{◌≡◌, ℕ, zero, suc, ◌<◌, ◌==◌, ◌&&◌, nat_lt, not, cond, Bool, true, List, [], ◌∷◌, length, filter, find, take, Contains, Option, Some, None}
use Rattle.std.proofs.Common.{is_some, refl, sym, ap, subst, ◌∙◌, inl, inr, eqb-true, eq-eqb}
use Rattle.std.specs.List.{list_any}
use Rattle.std.proofs.lemmas.Bool.{cond_both, cond-true, cond-false, false≢true}
use Rattle.ci_machine_steps.specs.Prelude.{Pipeline, Unfinished, is_open_in, unfinished_in, Kept, prunable_in}
use Rattle.ci_machine.proofs.Keyed.{Has, Rising, one_at, has_filter, filter_has, has_from_all, has_from_contains}
use Rattle.ci_machine.proofs.Found.{find_none, found_none}
use Rattle.ci_machine.proofs.Tests.{any_mapped, any_has, has_any}
use Rattle.ci_store.specs.Prelude.{made_before, AreSome}
use Rattle.ci_server_lookups.specs.Prelude.{AreOpen}
use Rattle.ci_server_lookups.proofs.OpenRows.{same_test}

-- ---- lists

find_both : {A : Type 0} (p q : A → Bool) (xs : List A) → find (λ x. p x && q x) xs ≡ find q (filter p xs)
find_both p q [] = refl
find_both p q (x ∷ xs) =
    cond_both (p x) (x ∷ filter p xs) (filter p xs) (λ l. cond (p x && q x) (Some x) (find (λ y. p y && q y) xs) ≡ find q l)
    (λ e. (λ i. cond (e i && q x) (Some x) (find_both p q xs i)))
    (λ e. (λ i. cond (e i && q x) (Some x) (find_both p q xs i)))

find_alike : {A : Type 0} (p q : A → Bool) (xs : List A) → ((x : A) → Has x xs → p x ≡ q x) → find p xs ≡ find q xs
find_alike p q [] same = refl
find_alike p q (x ∷ xs) same = λ i. cond (same x (inl refl) i) (Some x) (find_alike p q xs (λ y k. same y (inr k)) i)

-- what is found among the first of a list is found in the list
found_first : {A : Type 0} (q : A → Bool) (x : A) (n : ℕ) (xs : List A) → find q (take n xs) ≡ Some x → find q xs ≡ Some x
found_first q x zero xs e = absurd (cc)
found_first q x (suc n) [] e = absurd (cc)
found_first q x (suc n) (y ∷ ys) e =
    cond_both (q y) (Some y) (find q (take n ys)) (λ o. o ≡ Some x → find q (y ∷ ys) ≡ Some x)
    (λ t k. cond-true (q y) (Some y) (find q ys) t ∙ k)
    (λ f k. cond-false (q y) (Some y) (find q ys) f ∙ found_first q x n ys k) e

pub not_some : {A : Type 0} (o : Option A) → not (is_some o) ≡ true → o ≡ None
not_some None e = refl
not_some (Some x) e = absurd (false≢true e)

-- ---- the pipelines

module _ (k : Kept) (rise : Rising (λ (p : Pipeline). p.id) 0 k.state.pipelines) (unfinished : k.unfinished ≡ unfinished_in k.state k.board) (numbers : List ℕ) (are_open : AreOpen k numbers) (before : ℕ) where
  abbrev is_open : Pipeline → Bool
  is_open p = is_open_in k.state k.board p

  abbrev is_listed : Pipeline → Bool
  is_listed p = list_any (λ n. n == p.id) numbers

  -- a pipeline is one of those that are listed if it isn't finished
  listed : (p : Pipeline) → Has p k.state.pipelines → is_listed p ≡ is_open p
  listed p h =
      let is_p : Pipeline → Bool = λ q. q.id == p.id in
      are_open p.id
      ∙ ap (list_any (λ u. u.pipeline == p.id)) unfinished
      ∙ sym (any_mapped (λ (u : Unfinished). u.pipeline == p.id) (λ (q : Pipeline). record { pipeline = q.id }) (filter is_open k.state.pipelines))
      ∙ same_test (list_any is_p (filter is_open k.state.pipelines)) (is_open p)
      (λ t.
      let w = any_has is_p (filter is_open k.state.pipelines) t in
      let of = has_filter is_open w.0 k.state.pipelines w.1.0 in
      subst (λ (q : Pipeline). is_open q ≡ true) (one_at (λ (q : Pipeline). q.id) w.0 p 0 k.state.pipelines rise of.0 h (eqb-true w.0.id p.id w.1.1)) of.1)
      (λ e. has_any is_p p (filter is_open k.state.pipelines) (filter_has is_open p k.state.pipelines h e) (eq-eqb p.id p.id refl))

  as_found : prunable_in k.state k.board before ≡ find (λ p. not (is_listed p)) (made_before before k.state.pipelines)
  as_found =
      find_both (λ (p : Pipeline). nat_lt p.created before) (λ p. not (is_open p)) k.state.pipelines
      ∙ find_alike (λ (p : Pipeline). not (is_open p)) (λ p. not (is_listed p)) (made_before before k.state.pipelines)
      (λ p h. ap not (sym (listed p (has_filter (λ (q : Pipeline). nat_lt q.created before) p k.state.pipelines h).0)))

  -- one was found among those that were looked up
  pub one_is_prunable : (count : ℕ) (old : List Pipeline) (p : Pipeline) → old ≡ take count (made_before before k.state.pipelines) → find (λ q. not (list_any (λ n. n == q.id) numbers)) old ≡ Some p
      → Some p ≡ prunable_in k.state k.board before
  one_is_prunable count old p is found =
      sym (as_found ∙ found_first (λ q. not (is_listed q)) p count (made_before before k.state.pipelines) (ap (find (λ q. not (is_listed q))) (sym is) ∙ found))

  -- none was, and they are all
  pub none_is_prunable : (count : ℕ) (some : List Pipeline) → AreSome count (made_before before k.state.pipelines) some → length some < count → find (λ q. not (list_any (λ n. n == q.id) numbers)) some ≡ None
      → None ≡ prunable_in k.state k.board before
  none_is_prunable count some are few found =
      let all = made_before before k.state.pipelines in
      sym (as_found ∙ find_none (λ q. not (is_listed q)) all
      (λ p h. found_none (λ q. not (is_listed q)) p some found (has_from_contains p some (has_from_all (Contains some) p all (are.whole few) h))))
