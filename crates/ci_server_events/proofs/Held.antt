-- Who holds the resource groups of a pipeline's jobs after an act: those that were looked up, but for what it frees.
use Rattle.std.proofs.Common.{◌≡◌, ℕ, Bool, true, false, ◌&&◌, ◌||◌, not, ◌==◌, List, [], ◌∷◌, ◌++◌, map, filter, Option, Some, None, option_to_list, refl, sym, ap, ◌∙◌, ⊎_elim}
use Rattle.std.proofs.Common.{eqb-true}
use Rattle.std.specs.List.{list_any, AllByRecursion}
use Rattle.std.specs.Str.{bytes_eq}
use Rattle.std.proofs.lemmas.Bool.{cond_both, cases_Bool, and_parts, and_right}
use Rattle.std.proofs.lemmas.Slice.Eq.{bytes_eq-Decides}
use Rattle.ci_machine_steps.specs.Prelude.{Status, Attempt, Holder, Job, Pipeline, IndexChange, Hold, Free, State, Kept, indexed, indexed_all, holds, AreHolders}
use Rattle.ci_machine_steps.specs.Prelude.{is_unfinished}
use Rattle.ci_machine.specs.Holders as holders
use Rattle.ci_machine.proofs.Keyed.{has_from_all, All-from_has}
use Rattle.ci_server_lookups.specs.Prelude.{turned_by, of_pipeline, is_unheld, HoldAlike, frees, still_held}
use Rattle.ci_server_lookups.proofs.Holds.{kept_alike}

-- ---- tests

and_true : (b : Bool) → b ≡ (b && true)
and_true true = refl
and_true false = refl

and_neither : (a b c : Bool) → ((a && not b) && not c) ≡ (a && not (b || c))
and_neither true true c = refl
and_neither true false c = refl
and_neither false b c = refl

same_by_not : (a b : Bool) → not a ≡ not b → a ≡ b
same_by_not true true e = refl
same_by_not true false e = absurd (cc)
same_by_not false true e = absurd (cc)
same_by_not false false e = refl

-- some element passes both tests, where the second says the same of all that pass the first
any_filter : {A : Type 0} (q t : A → Bool) (b : Bool) (xs : List A) → ((x : A) → q x ≡ true → t x ≡ b) → list_any q (filter t xs) ≡ (list_any q xs && b)
any_filter q t b [] same = refl
any_filter q t b (x ∷ xs) same =
    cond_both (t x) (x ∷ filter t xs) (filter t xs) (λ l. list_any q l ≡ ((q x || list_any q xs) && b))
    (λ yes. ⊎_elim
    (λ p. let is : b ≡ true = sym (same x p) ∙ yes in ap (λ v. v || list_any q (filter t xs)) p ∙ sym (λ i. (p i || list_any q xs) && is i))
    (λ n. ap (λ v. v || list_any q (filter t xs)) n ∙ (any_filter q t b xs same ∙ sym (ap (λ v. (v || list_any q xs) && b) n)))
    (cases_Bool (q x)))
    (λ no. ⊎_elim
    (λ p. let is : b ≡ false = sym (same x p) ∙ no in any_filter q t b xs same ∙ (ap (λ v. list_any q xs && v) is ∙ (and_right (list_any q xs) false refl ∙ sym (λ i. (p i || list_any q xs) && is i))))
    (λ n. any_filter q t b xs same ∙ sym (ap (λ v. (v || list_any q xs) && b) n))
    (cases_Bool (q x)))

-- ---- what is free

-- the change holds no group
abbrev pub HoldsNone : IndexChange → Type 0
HoldsNone (Hold h) = ⊥
HoldsNone _ = Unit {0}

frees_alike : (g h : Holder) → g.project ≡ h.project → g.group ≡ h.group → (c : IndexChange) → frees g c ≡ frees h c
frees_alike g h p q (Free project group) = λ i. (p i == project) && bytes_eq (q i) group
frees_alike g h p q _ = refl

freed_alike : (g h : Holder) → g.project ≡ h.project → g.group ≡ h.group → (changes : List IndexChange) → list_any (frees g) changes ≡ list_any (frees h) changes
freed_alike g h p q [] = refl
freed_alike g h p q (c ∷ cs) = λ i. frees_alike g h p q c i || freed_alike g h p q cs i

module _ (project : ℕ) (group : List ℕ) where
  -- some attempt holds the group
  abbrev its : Holder → Bool
  its = holds project group

  abbrev holder : Holder
  holder = record { project = project; group = group; attempt = 0 }

  -- the changes free it
  abbrev is_freed : List IndexChange → Bool
  is_freed changes = list_any (frees holder) changes

  its_project : (h : Holder) → its h ≡ true → h.project ≡ project
  its_project h e = eqb-true h.project project (and_parts (h.project == project) (bytes_eq h.group group) e).0

  its_group : (h : Holder) → its h ≡ true → h.group ≡ group
  its_group h e = (bytes_eq-Decides h.group group).0 (and_parts (h.project == project) (bytes_eq h.group group) e).1

  found_after : (changes : List IndexChange) (found : List Holder) → list_any its (still_held changes found) ≡ (list_any its found && not (is_freed changes))
  found_after changes found =
      any_filter its (λ h. not (list_any (frees h) changes)) (not (is_freed changes)) found (λ h e. ap not (freed_alike h holder (its_project h e) (its_group h e) changes))

  kept_after : (changes : List IndexChange) (k : Kept) → AllByRecursion HoldsNone changes → list_any its (indexed_all changes k).holders ≡ (list_any its k.holders && not (is_freed changes))
  kept_after [] k none = and_true (list_any its k.holders)
  kept_after (Hold h ∷ cs) k none = absurd none.0
  kept_after (Free p g ∷ cs) k none =
      kept_after cs (indexed (Free p g) k) none.1
      ∙ (ap (λ b. b && not (is_freed cs))
      (any_filter its (λ h. not (holds p g h)) (not (holds p g holder)) k.holders (λ h e. ap not (frees_alike h holder (its_project h e) (its_group h e) (Free p g))))
      ∙ and_neither (list_any its k.holders) (holds p g holder) (is_freed cs))
  kept_after (c ∷ cs) k none = kept_after cs (indexed c k) none.1

module _ (s t : State) (k : Kept) (changes : List IndexChange) (none : AllByRecursion HoldsNone changes) (before : AreHolders s k.holders) (after : AreHolders t (indexed_all changes k).holders)
    (project : ℕ) (found : List Holder) where
  unheld_after : (group : Option (List ℕ)) → is_unheld found project group ≡ is_unheld (holders.holders s) project group → is_unheld (still_held changes found) project group ≡ is_unheld (holders.holders t) project group
  unheld_after None same = refl
  unheld_after (Some group) same =
      let held : list_any (holds project group) found ≡ list_any (holds project group) k.holders
      = same_by_not _ _ (same ∙ sym (kept_alike s k.holders before project (Some group))) in
      ap not (found_after project group changes found ∙ (ap (λ b. b && not (is_freed project group changes)) held ∙ sym (kept_after project group changes k none)))
      ∙ kept_alike t (indexed_all changes k).holders after project (Some group)

  -- by those that still hold what they held, the same groups of the jobs are held as by all
  pub still_alike : (jobs : List Job) → HoldAlike found (holders.holders s) project jobs → HoldAlike (still_held changes found) (holders.holders t) project jobs
  still_alike jobs same =
      All-from_has (λ j. is_unheld (still_held changes found) project j.options.resource_group ≡ is_unheld (holders.holders t) project j.options.resource_group) jobs
      (λ j h. unheld_after j.options.resource_group (has_from_all (λ i. is_unheld found project i.options.resource_group ≡ is_unheld (holders.holders s) project i.options.resource_group) j jobs same h))

-- ---- the changes of an act

both_hold_none : (xs ys : List IndexChange) → AllByRecursion HoldsNone xs → AllByRecursion HoldsNone ys → AllByRecursion HoldsNone (xs ++ ys)
both_hold_none [] ys a b = b
both_hold_none (x ∷ xs) ys a b = (a.0, both_hold_none xs ys a.1 b)

freed_hold_none : (hs : List Holder) → AllByRecursion HoldsNone (map holders.freed hs)
freed_hold_none [] = tt
freed_hold_none (h ∷ hs) = (tt, freed_hold_none hs)

turned_holds_none : (n : ℕ) (before after : Bool) → AllByRecursion HoldsNone (option_to_list (turned_by n before after))
turned_holds_none n true true = tt
turned_holds_none n true false = (tt, tt)
turned_holds_none n false true = (tt, tt)
turned_holds_none n false false = tt

pub acts_hold_none : (p : Pipeline) (jobs : List Job) (attempts : List Attempt) (before after : Status) → AllByRecursion HoldsNone (of_pipeline p jobs attempts before after)
acts_hold_none p jobs attempts before after = both_hold_none _ _ (freed_hold_none _) (turned_holds_none p.id (is_unfinished before) (is_unfinished after))
