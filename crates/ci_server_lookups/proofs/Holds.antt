-- Resource groups, by the holders that are looked up and by those of the state.
use Rattle.std.proofs.Common.{◌≡◌, ℕ, ◌+◌, ◌<◌, ◌||◌, cond, not, Bool, true, false, List, [], ◌∷◌, ◌++◌, length, take, find, flat_map, Contains, Option, Some, None, is_some}
use Rattle.std.proofs.Common.{option_to_list, slice_index_or, refl, sym, ap, subst, ◌∙◌, inl, ⊎_elim}
use Rattle.std.specs.List.{list_any}
use Rattle.std.proofs.lemmas.Bool.{cond_both, both_ways}
use Rattle.std.proofs.lemmas.List.{append-nil}
use Rattle.std.proofs.lemmas.List.Elements.{filter_more}
use Rattle.ci_machine_steps.specs.Prelude.{Holder, Job, State, holds, holders, holder_at, AreHolders, IndexChange}
use Rattle.ci_machine.proofs.Keyed.{Has, has_find, has_from_all, has_from_contains, All-from_has}
use Rattle.ci_machine.proofs.Tests.{any_has, has_any, any_joined}
use Rattle.ci_machine_steps.proofs.Behind.{flat_has}
use Rattle.ci_server_lookups.specs.Prelude.{is_unheld, HoldAlike, holder_for, frees, still_held}
use Rattle.ci_server_lookups.proofs.OpenRows.{same_test}

-- ---- lists

one_way : {A : Type 0} (p : A → Bool) (xs ys : List A) → ((x : A) → Has x xs → p x ≡ true → Has x ys) → list_any p xs ≡ true → list_any p ys ≡ true
one_way p xs ys f e = let w = any_has p xs e in has_any p w.0 ys (f w.0 w.1.0 w.1.1) w.1.1

-- ---- the rows, and the holders of the state

-- the rows that are kept hold the same groups as the state's live attempts
rows_alike : (s : State) (rows : List Holder) → AreHolders s rows → (p : Holder → Bool) → list_any p rows ≡ list_any p (holders s)
rows_alike s rows are p =
    same_test (list_any p rows) (list_any p (holders s))
    (one_way p rows (holders s) (λ h k _. has_from_contains h (holders s) (has_from_all (Contains (holders s)) h rows are.held k)))
    (one_way p (holders s) rows (λ h k _. has_from_contains h rows (has_from_all (Contains rows) h (holders s) are.all k)))

pub kept_alike : (s : State) (rows : List Holder) → AreHolders s rows → (project : ℕ) (group : Option (List ℕ)) → is_unheld rows project group ≡ is_unheld (holders s) project group
kept_alike s rows are project None = refl
kept_alike s rows are project (Some group) = ap not (rows_alike s rows are (holds project group))

is_found : {A : Type 0} (p : A → Bool) (xs : List A) → is_some (find p xs) ≡ list_any p xs
is_found p [] = refl
is_found p (x ∷ xs) =
    cond_both (p x) (Some x) (find p xs) (λ o. is_some o ≡ (p x || list_any p xs))
    (λ t. sym (ap (λ b. b || list_any p xs) t))
    (λ f. is_found p xs ∙ sym (ap (λ b. b || list_any p xs) f))

-- what is looked up is there where one passes
pub any_if_some : {A : Type 0} (p : A → Bool) (xs : List A) (o : Option A) → o ≡ find p xs → is_some o ≡ list_any p xs
any_if_some p xs o e = ap is_some e ∙ is_found p xs

-- a group is held where there is a row of it
pub held_by_row : (s : State) (rows : List Holder) → AreHolders s rows → (project : ℕ) (group : List ℕ) (o : Option Holder) → o ≡ holder_at project group rows
    → is_some o ≡ list_any (holds project group) (holders s)
held_by_row s rows are project group o its = any_if_some (holds project group) rows o its ∙ rows_alike s rows are (holds project group)

-- ---- the holders of jobs' groups

listed_has : (o : Option Holder) (h : Holder) → o ≡ Some h → Has h (option_to_list o)
listed_has None h e = absurd (cc)
listed_has (Some g) h e = let same : g ≡ h = cc in inl (sym same)

has_listed : (o : Option Holder) (h : Holder) → Has h (option_to_list o) → o ≡ Some h
has_listed None h k = absurd k
has_listed (Some g) h k = ⊎_elim (λ e. ap Some (sym e)) (λ m. absurd m) k

-- what is found for a group is one of those that there are
found_there : (project : ℕ) (rows : List Holder) (group : Option (List ℕ)) (h : Holder) → Has h (holder_for project rows group) → Has h rows
found_there project rows None h k = absurd k
found_there project rows (Some group) h k = (has_find (holds project group) h rows (has_listed (holder_at project group rows) h k)).0

module _ (project : ℕ) (rows : List Holder) (jobs : List Job) where
  abbrev for_job : Job → List Holder
  for_job j = holder_for project rows j.options.resource_group

  abbrev gathered : List Holder
  gathered = flat_map for_job jobs

  back : (j : Job) (group : List ℕ) → Has j jobs → j.options.resource_group ≡ Some group → list_any (holds project group) rows ≡ true → list_any (holds project group) gathered ≡ true
  back j group k its e = go (holder_at project group rows) refl
    where
      go : (o : Option Holder) → holder_at project group rows ≡ o → list_any (holds project group) gathered ≡ true
      go None is = absurd (both_ways (list_any (holds project group) rows) (sym (any_if_some (holds project group) rows None (sym is))) e)
      go (Some h) is =
          let there = has_find (holds project group) h rows is in
          has_any (holds project group) h gathered
          (flat_has for_job h j jobs k (subst (λ (o : Option (List ℕ)). Has h (holder_for project rows o)) (sym its) (listed_has (holder_at project group rows) h is)))
          there.1

  alike_for : (j : Job) (group : Option (List ℕ)) → Has j jobs → j.options.resource_group ≡ group → is_unheld gathered project group ≡ is_unheld rows project group
  alike_for j None k its = refl
  alike_for j (Some group) k its =
      let its_group = holds project group in
      ap not (same_test (list_any its_group gathered) (list_any its_group rows)
      (λ e.
      let from = any_has (λ i. list_any its_group (for_job i)) jobs (any_joined its_group for_job jobs ∙ e) in
      let w = any_has its_group (for_job from.0) from.1.1 in
      has_any its_group w.0 rows (found_there project rows from.0.options.resource_group w.0 w.1.0) w.1.1)
      (back j group k its))

-- the holders that are found for jobs, one after the other
abbrev pub gathered_in : ℕ → List Holder → List Job → List Holder
gathered_in project rows jobs = flat_map (λ j. holder_for project rows j.options.resource_group) jobs

-- by them the same groups of the jobs are free as by the state's
pub found_alike : (s : State) (rows : List Holder) → AreHolders s rows → (project : ℕ) (jobs : List Job) (found : List Holder) → found ≡ gathered_in project rows jobs → HoldAlike found (holders s) project jobs
found_alike s rows are project jobs found same =
    All-from_has _ jobs
    (λ j k. ap (λ (hs : List Holder). is_unheld hs project j.options.resource_group) same
    ∙ (alike_for project rows jobs j j.options.resource_group k refl ∙ kept_alike s rows are project j.options.resource_group))

-- ---- those that still hold what they held

module _ (changes : List IndexChange) (held : List Holder) (i : ℕ) (h : Holder) (within : i < length held) (at : h ≡ slice_index_or held i h) where
  abbrev one_more : Bool → List Holder
  one_more still = cond still (h ∷ []) []

  next_is : still_held changes (take (i + 1) held) ≡ still_held changes (take i held) ++ one_more (not (list_any (frees h) changes))
  next_is =
      filter_more (λ g. not (list_any (frees g) changes)) held i h within
      ∙ ap (λ (g : Holder). still_held changes (take i held) ++ cond (not (list_any (frees g) changes)) (g ∷ []) []) (sym at)

  -- the next one still holds what it held
  pub still_with : (still next : List Holder) (copy : Holder) → list_any (frees h) changes ≡ false → copy ≡ h → still ≡ still_held changes (take i held) → next ≡ still ++ copy ∷ [] → next ≡ still_held changes (take (i + 1) held)
  still_with still next copy keeps same before pushed =
      pushed ∙ ((λ k. before k ++ same k ∷ []) ∙ sym (next_is ∙ ap (λ b. still_held changes (take i held) ++ one_more (not b)) keeps))

  -- it is freed
  pub still_without : (still : List Holder) → list_any (frees h) changes ≡ true → still ≡ still_held changes (take i held) → still ≡ still_held changes (take (i + 1) held)
  still_without still gone before =
      before ∙ sym (next_is ∙ (ap (λ b. still_held changes (take i held) ++ one_more (not b)) gone ∙ append-nil (still_held changes (take i held))))
