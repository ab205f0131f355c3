-- The newest pipelines of a project stay where a change isn't of them.
use Rattle.std.proofs.Common.{◌≡◌, ◌==◌, ◌&&◌, ℕ, zero, suc, Bool, true, false, not, List, [], ◌∷◌, filter, find, reverse, take, All, Some, nat_cmp, is_eq, refl, sym, ap, subst, ◌∙◌}
use Rattle.std.proofs.Common.{inl, inr, arith, eqb-true, eq-eqb}
use Rattle.std.specs.List.{list_any}
use Rattle.std.proofs.lemmas.Bool.{and_parts, both_ways, not-true, or_parts}
use Rattle.std.proofs.lemmas.Grind.{common_steps}
use Rattle.ci_machine_steps.specs.Prelude.{Key, Record, RowChange, Put, Remove, Pipeline, State, others, pipeline_cmp, changed, newest_of}
use Rattle.ci_machine.proofs.Keyed.{Has, has_filter, has_from_all, All-from_has, unequal}
use Rattle.ci_memory_boards.proofs.Lists.{all_found}
use Rattle.ci_memory.specs.declared.newest.NewestList.{NewestList}
use Rattle.ci_memory.specs.Newest.{IsList, is_of_list}
use Rattle.ci_machine.proofs.Found.{any_none, filter_placed}
use Rattle.ci_machine.proofs.Filters.{filter_both}

-- the first of a list stay where only others go
take_kept : {A : Type 0} (n : ℕ) (p : A → Bool) (xs : List A) → ((x : A) → Has x (take n xs) → p x ≡ true) → take n (filter p xs) ≡ take n xs
take_kept zero p xs h = refl
take_kept (suc n) p [] h = refl
take_kept (suc n) p (x ∷ xs) h = grind (arith, h x (inl refl), take_kept n p xs (λ y k. h y (inr k)))

filter-reverse : {A : Type 0} (p : A → Bool) (xs : List A) → filter p (reverse xs) ≡ reverse (filter p xs)
filter-reverse p [] = refl
filter-reverse p (x ∷ xs) = grind (arith, common_steps, filter-reverse p xs)

either_first : {A : Type 0} (p q : A → Bool) (xs : List A) → filter p (filter q xs) ≡ filter q (filter p xs)
either_first p q xs = filter_both q p (λ x. q x && p x) xs (λ x. refl) ∙ sym (filter_both p q (λ x. q x && p x) xs (λ x. grind arith))

module _ (l : NewestList) where
  abbrev own : Pipeline → Bool
  own p = p.project == l.project

  -- where those of the list are left
  left_list : (left : Pipeline → Bool) (ps : List Pipeline) → l.pipelines.items ≡ take l.count (reverse (filter own ps)) → ((p : Pipeline) → Has p l.pipelines.items → left p ≡ true) → l.pipelines.items ≡ take l.count (reverse (filter own (filter left ps)))
  left_list left ps is stay =
      is
      ∙ sym (take_kept l.count left (reverse (filter own ps)) (λ p has. stay p (subst (λ (xs : List Pipeline). Has p xs) (sym is) has)))
      ∙ ap (take l.count) (filter-reverse left (filter own ps) ∙ ap reverse (either_first left own ps))

  -- none of the list has this number
  none_with : (n : ℕ) → list_any (λ p. p.id == n) l.pipelines.items ≡ false → (p : Pipeline) → Has p l.pipelines.items → not (is_eq (nat_cmp p.id n)) ≡ true
  none_with n none p has = unequal p.id n (λ same. both_ways (p.id == n) (any_none (λ (q : Pipeline). q.id == n) p l.pipelines.items none has) (eq-eqb p.id n same))

  stays_list : (c : RowChange) (s : State) → is_of_list l c ≡ false → IsList s l → IsList (changed c s) l
  stays_list (Put (Record.Pipeline x)) s e is =
      left_list (λ y. not (is_eq (nat_cmp y.id x.id))) s.pipelines is (none_with x.id (or_parts (x.project == l.project) (list_any (λ p. p.id == x.id) l.pipelines.items) e).1)
      ∙ ap (λ ps. take l.count (reverse ps)) (sym (filter_placed pipeline_cmp own x (others pipeline_cmp x s.pipelines) (or_parts (x.project == l.project) (list_any (λ p. p.id == x.id) l.pipelines.items) e).0))
  stays_list (Remove (Key.Pipeline n)) s e is = left_list (λ y. not (is_eq (nat_cmp y.id n))) s.pipelines is (none_with n e)
  stays_list _ s e is = is

-- so those are right still that the change isn't of
pub left_lists : (c : RowChange) (s : State) (ls : List NewestList) → All (IsList s) ls → All (IsList (changed c s)) (filter (λ l. not (is_of_list l c)) ls)
left_lists c s ls all =
    All-from_has (IsList (changed c s)) (filter (λ l. not (is_of_list l c)) ls)
    (λ l has. let its = has_filter (λ m. not (is_of_list m c)) l ls has in stays_list l c s (not-true (is_of_list l c) its.1) (has_from_all (IsList s) l ls all its.0))

-- one that is found has the newest of the project that is asked for
pub list_found : (s : State) (project count : ℕ) (l : NewestList) (ls : List NewestList) → find (λ m. (m.project == project) && (m.count == count)) ls ≡ Some l → All (IsList s) ls → l.pipelines.items ≡ take count (newest_of s project)
list_found s project count l ls is all =
    let it = all_found (IsList s) (λ m. (m.project == project) && (m.count == count)) l ls is all in
    let its = and_parts (l.project == project) (l.count == count) it.1 in
    it.0 ∙ (λ i. take (eqb-true l.count count its.1 i) (newest_of s (eqb-true l.project project its.0 i)))
