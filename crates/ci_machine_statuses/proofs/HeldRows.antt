-- The rows of held groups, where some are free or one more is held.
use Rattle.std.proofs.Common.{◌≡◌, ◌⊎◌, ℕ, true, false, ◌==◌, not, List, [], ◌∷◌, map, Contains, Option, Some, None, nat_cmp, is_eq, Ordering, Less, Equal, Greater}
use Rattle.std.proofs.Common.{refl, sym, ap, subst, ◌∙◌, inl, inr, ⊎_elim, eqb-true, eq-eqb}
use Rattle.std.specs.List.{list_any}
use Rattle.std.specs.Str.{bytes_eq}
use Rattle.std.specs.Ordering.{ordering_then}
use Rattle.std.specs.Cmp.{IsTotalOrder, Equal-is}
use Rattle.std.specs.Cmp.Lexicographic.{slice_cmp}
use Rattle.std.proofs.lemmas.Cmp.{nat_cmp_total, on_total, then_total, nat_list_cmp_total}
use Rattle.std.proofs.lemmas.Bool.{cases_Bool, both_ways, false≢true, and_from, and_parts}
use Rattle.std.proofs.lemmas.Slice.Eq.{bytes_eq-Decides}
use Rattle.std.proofs.lemmas.Map.Text.{is_eq-slice_cmp}
use Rattle.ci_machine_steps.specs.Prelude.{Holder, Hold, State, put, Kept, indexed, indexed_all, holds, is_free, held_claim, group_held, holders, holder_cmp, AreHolders}
use Rattle.ci_machine_steps.specs.Prelude.{without_holder, freed}
use Rattle.ci_machine.proofs.Claims.{free_held}
use Rattle.ci_machine.proofs.Keyed.{Has, has_filter, filter_has, has_put, put_has, equal, same, has_from_all, All-from_has, has_from_contains, contains_from_has, not_true}
use Rattle.ci_machine_steps.proofs.Variables.{Ordered, filter_ordered, put_ordered}
use Rattle.ci_machine_statuses.proofs.HeldLists.{none_any, ordered, ascends, one_of}
use Rattle.ci_machine.proofs.Found.{put_here}

-- ---- keys

-- one has the key of another
pub record IsAlike (g h : Holder) : Type 0 where
  pub project : h.project ≡ g.project
  pub group : h.group ≡ g.group

pub alike : (g h : Holder) → holds g.project g.group h ≡ true → IsAlike g h
alike g h e =
    let w = and_parts (h.project == g.project) (bytes_eq h.group g.group) e in
    record { project = eqb-true h.project g.project w.0; group = (bytes_eq-Decides h.group g.group).0 w.1 }

pub holds_alike : (g h : Holder) → IsAlike g h → holds g.project g.group h ≡ true
holds_alike g h w = and_from (h.project == g.project) (bytes_eq h.group g.group) (eq-eqb h.project g.project w.project) ((bytes_eq-Decides h.group g.group).1 w.group)

pub holds_own : (h : Holder) → holds h.project h.group h ≡ true
holds_own h = holds_alike h h (record { project = refl; group = refl })

tied : (g h : Holder) → IsAlike g h → holder_cmp h g ≡ Equal
tied g h w =
    let projects : nat_cmp h.project g.project ≡ Equal = (Equal-is (nat_cmp h.project g.project)).0 (equal h.project g.project w.project) in
    let groups : slice_cmp nat_cmp h.group g.group ≡ Equal
    = (Equal-is (slice_cmp nat_cmp h.group g.group)).0 (is_eq-slice_cmp h.group g.group ∙ (bytes_eq-Decides h.group g.group).1 w.group) in
    λ i. ordering_then (projects i) (groups i)

then_parts : (a b : Ordering) → is_eq (ordering_then a b) ≡ true → (is_eq a ≡ true) × (is_eq b ≡ true)
then_parts Less b e = absurd (false≢true e)
then_parts Equal b e = (refl, e)
then_parts Greater b e = absurd (false≢true e)

untied : (g h : Holder) → is_eq (holder_cmp h g) ≡ true → holds g.project g.group h ≡ true
untied g h e =
    let w = then_parts (nat_cmp h.project g.project) (slice_cmp nat_cmp h.group g.group) e in
    and_from (h.project == g.project) (bytes_eq h.group g.group) (eq-eqb h.project g.project (same h.project g.project w.0)) (sym (is_eq-slice_cmp h.group g.group) ∙ w.1)

apart : (g h : Holder) → holds g.project g.group h ≡ false → not (is_eq (holder_cmp h g)) ≡ true
apart g h e = ⊎_elim (λ q. absurd (both_ways (holds g.project g.group h) e (untied g h q))) (λ q. ap not q) (cases_Bool (is_eq (holder_cmp h g)))

-- rows in their order have one of each key
pub one_row : (g h : Holder) (rows : List Holder) → Ordered holder_cmp rows → Has g rows → Has h rows → holds g.project g.group h ≡ true → h ≡ g
one_row g h rows o k l e =
    let w = alike g h e in
    one_of holder_cmp h g rows o l k (tied g h w) (tied h g (record { project = sym w.project; group = sym w.group }))

holder_total : IsTotalOrder holder_cmp
holder_total = then_total (on_total (λ (h : Holder). h.project) nat_cmp_total) (on_total (λ (h : Holder). h.group) nat_list_cmp_total)

-- ---- some are free

-- the rows without those of these keys
abbrev pub without_all : List Holder → List Holder → List Holder
without_all [] rows = rows
without_all (g ∷ gs) rows = without_all gs (without_holder g.project g.group rows)

pub all_freed : (gs : List Holder) (k : Kept) → indexed_all (map freed gs) k ≡ record k { holders = without_all gs k.holders }
all_freed [] k = refl
all_freed (g ∷ gs) k = all_freed gs (indexed (freed g) k)

pub without_ordered : (gs rows : List Holder) → Ordered holder_cmp rows → Ordered holder_cmp (without_all gs rows)
without_ordered [] rows o = o
without_ordered (g ∷ gs) rows o = without_ordered gs (without_holder g.project g.group rows) (filter_ordered holder_cmp (λ h. not (holds g.project g.group h)) rows o)

pub in_without : (gs rows : List Holder) (h : Holder) → Has h (without_all gs rows) → Has h rows × ((g : Holder) → Has g gs → holds g.project g.group h ≡ false)
in_without [] rows h k = (k, λ g l. absurd l)
in_without (g ∷ gs) rows h k =
    let w = in_without gs (without_holder g.project g.group rows) h k in
    let v = has_filter (λ x. not (holds g.project g.group x)) h rows w.0 in
    (v.0, λ f l. ⊎_elim (λ e. subst (λ (x : Holder). holds x.project x.group h ≡ false) (sym e) (not_true (holds g.project g.group h) v.1)) (λ m. w.1 f m) l)

pub has_without : (gs rows : List Holder) (h : Holder) → Has h rows → ((g : Holder) → Has g gs → holds g.project g.group h ≡ false) → Has h (without_all gs rows)
has_without [] rows h k d = k
has_without (g ∷ gs) rows h k d =
    has_without gs (without_holder g.project g.group rows) h (filter_has (λ x. not (holds g.project g.group x)) h rows k (ap not (d g (inl refl)))) (λ f l. d f (inr l))

-- ---- one more is held

-- the state t has what s has, and what an attempt of this number and group holds
pub record HoldsMore (s t : State) (n project : ℕ) (group : Option (List ℕ)) : Type 0 where
  pub stays : (h : Holder) → Has h (holders s) → Has h (holders t)
  pub comes : (h : Holder) → Has h (group_held n project group) → Has h (holders t)
  pub no_other : (h : Holder) → Has h (holders t) → Has h (holders s) ⊎ Has h (group_held n project group)

pub more_rows : (s t : State) (n project : ℕ) (group : Option (List ℕ)) (k : Kept) → is_free (map held_claim (holders s)) project group ≡ true → HoldsMore s t n project group → AreHolders s k.holders
    → AreHolders t (indexed_all (map Hold (group_held n project group)) k).holders
more_rows s t n project None k free more are = record {
  ascend = are.ascend;
  held = All-from_has (Contains (holders t)) k.holders (λ h l. contains_from_has h (holders t) (more.stays h (has_from_contains h (holders s) (has_from_all (Contains (holders s)) h k.holders are.held l))));
  all = All-from_has (Contains k.holders) (holders t) (λ h l. ⊎_elim (λ m. has_from_all (Contains k.holders) h (holders s) are.all m) (λ m. absurd m) (more.no_other h l));
}
more_rows s t n project (Some group) k free more are =
    let x : Holder = record { project = project; group = group; attempt = n } in
    let rows : List Holder = put holder_cmp x k.holders in
    let was : (h : Holder) → Has h k.holders → Has h (holders s) = λ h l. has_from_contains h (holders s) (has_from_all (Contains (holders s)) h k.holders are.held l) in
    let none : (h : Holder) → Has h (holders s) → holds project group h ≡ false = λ h l. none_any (holds project group) h (holders s) (not_true (list_any (holds project group) (holders s)) (sym (free_held (holders s) project group) ∙ free)) l in
    record {
      ascend = ascends holder_cmp rows (put_ordered holder_cmp holder_total x k.holders (ordered holder_cmp k.holders are.ascend));
      held = All-from_has (Contains (holders t)) rows (λ h l. contains_from_has h (holders t)
          (⊎_elim (λ e. more.comes h (inl e)) (λ m. more.stays h (was h m)) (has_put holder_cmp x h k.holders l)));
      all = All-from_has (Contains rows) (holders t) (λ h l. contains_from_has h rows
          (⊎_elim
          (λ m. put_has holder_cmp x h k.holders (has_from_contains h k.holders (has_from_all (Contains k.holders) h (holders s) are.all m)) (apart x h (none h m)))
          (λ m. ⊎_elim (λ e. subst (λ (y : Holder). Has y rows) (sym e) (put_here holder_cmp x k.holders)) (λ f. absurd f) m)
          (more.no_other h l)));
    }
