-- The resource groups that are told of a project are those that have a process mode or are held.
use Rattle.ci_machine_laws.proofs.Prelude.{◌≡◌, ◌⊎◌, ℕ, true, not, ◌==◌, ◌&&◌, List, [], ◌∷◌, map, find, Option, Some, None, option_map, option_and_then, nat_cmp}
use Rattle.ci_machine_laws.proofs.Prelude.{is_eq, Ordering, Less, refl, sym, ap, subst, ◌∙◌, inl, inr, ⊎_elim, eqb-true, eq-eqb, bytes_eq, slice_cmp, Equal-is, cases_Bool}
use Rattle.ci_machine_laws.proofs.Prelude.{both_ways, and_parts, nat_list_cmp_total, bytes_eq-Decides, Has, Rising, has_put, put_has, has_filter, filter_has, has_map, map_has}
use Rattle.ci_machine_laws.proofs.Prelude.{has_find, find_has, All-from_has, contains_from_has, has_from_contains, equal, any_has, has_any}
use Rattle.ci_machine_laws.proofs.Prelude.{Ordered, filter_ordered, put_ordered, rising_from_ascend, ordering_then, is_eq-slice_cmp}
use Rattle.ci_machine_steps.specs.Prelude.{Attempt, GroupMode, Holder, QueuedJob, Event, Read, ReadQuery, Subject, Seed, Reply, Answer, State, mode_cmp, put, attempt_at}
use Rattle.ci_machine_steps.specs.Prelude.{live_attempts, is_live, holds, group_held, held_by, held_of, queued_at, holders, holders_in, modes_in, with_names, group_names, Step}
use Rattle.ci_machine_steps.specs.Prelude.{IsReached}
use Rattle.ci_machine_laws.specs.Reads.{IsHeldBy, IsModeOf, AreGroups, IsHolder, TellsGroups}
use Rattle.ci_machine_laws.proofs.EachPlan.{read_told}
use Rattle.ci_machine_laws.proofs.Numbers.{sound_reached, in_order, ascend}
use Rattle.ci_machine.proofs.Found.{found_none, placed_here}
use Rattle.ci_machine_steps.proofs.Behind.{flat_has, has_flat}

-- ---- names, each once

abbrev text_cmp : List ℕ → List ℕ → Ordering
text_cmp a b = slice_cmp nat_cmp a b

put_still : (x y : List ℕ) (names : List (List ℕ)) → Has y names → Has y (put text_cmp x names)
put_still x y names k =
    ⊎_elim
    (λ t. subst (λ w. Has w (put text_cmp x names)) (sym ((bytes_eq-Decides y x).0 (sym (is_eq-slice_cmp y x) ∙ t))) (placed_here text_cmp x _))
    (λ f. put_has text_cmp x y names k (ap not f))
    (cases_Bool (is_eq (text_cmp y x)))

with_ordered : (xs names : List (List ℕ)) → Ordered text_cmp names → Ordered text_cmp (with_names xs names)
with_ordered [] names o = o
with_ordered (x ∷ xs) names o = with_ordered xs (put text_cmp x names) (put_ordered text_cmp nat_list_cmp_total x names o)

in_names : (y : List ℕ) (xs names : List (List ℕ)) → Has y (with_names xs names) → Has y xs ⊎ Has y names
in_names y [] names k = inr k
in_names y (x ∷ xs) names k =
    ⊎_elim (λ m. inl (inr m)) (λ m. ⊎_elim (λ e. inl (inl e)) (λ n. inr n) (has_put text_cmp x y names m)) (in_names y xs (put text_cmp x names) k)

names_still : (y : List ℕ) (xs names : List (List ℕ)) → Has y names → Has y (with_names xs names)
names_still y [] names k = k
names_still y (x ∷ xs) names k = names_still y xs (put text_cmp x names) (put_still x y names k)

names_come : (y : List ℕ) (xs names : List (List ℕ)) → Has y xs → Has y (with_names xs names)
names_come y [] names k = absurd k
names_come y (x ∷ xs) names k =
    ⊎_elim
    (λ e. names_still y xs (put text_cmp x names) (subst (λ w. Has w (put text_cmp x names)) (sym e) (placed_here text_cmp x _)))
    (λ m. names_come y xs (put text_cmp x names) m) k

-- ---- the names of modes

group_less : (m w : GroupMode) → m.project ≡ w.project → mode_cmp m w ≡ Less → text_cmp m.group w.group ≡ Less
group_less m w e less =
    let tied = (Equal-is (nat_cmp m.project w.project)).0 (equal m.project w.project e) in
    sym (ap (λ r. ordering_then r (text_cmp m.group w.group)) tied) ∙ less

names_ordered : (project : ℕ) (ms : List GroupMode) → ((m : GroupMode) → Has m ms → m.project ≡ project) → Ordered mode_cmp ms → Ordered text_cmp (map (λ m. m.group) ms)
names_ordered project [] same r = tt
names_ordered project (z ∷ zs) same r = (
  (λ y k. let at = map_has (λ (m : GroupMode). m.group) y zs k in
      subst (λ w. text_cmp z.group w ≡ Less) at.1.1 (group_less z at.0 (same z (inl refl) ∙ sym (same at.0 (inr at.1.0))) (r.0 at.0 at.1.0))),
  names_ordered project zs (λ m k. same m (inr k)) r.1,
)

-- ---- what live attempts hold

by_group : (n project : ℕ) (group : Option (List ℕ)) (h : Holder) → Has h (group_held n project group) → h.attempt ≡ n
by_group n project None h k = absurd k
by_group n project (Some group) h k = ⊎_elim (λ e. ap (λ (w : Holder). w.attempt) e) (λ m. absurd m) k

by_attempt : (n : ℕ) (q : Option QueuedJob) (h : Holder) → Has h (held_by n q) → h.attempt ≡ n
by_attempt n None h k = absurd k
by_attempt n (Some q) h k = by_group n q.project q.job.options.resource_group h k

module _ (s : State) (project : ℕ) where
  -- a holder of a group of the project
  abbrev Holds : List ℕ → Holder → Type 0
  Holds g h = (h.project ≡ project) × (h.group ≡ g)

  holds_so : (g : List ℕ) (h : Holder) → holds project g h ≡ true → Holds g h
  holds_so g h e = let both = and_parts (h.project == project) (bytes_eq h.group g) e in (eqb-true h.project project both.0, (bytes_eq-Decides h.group g).0 both.1)

  so_holds : (g : List ℕ) (h : Holder) → Holds g h → holds project g h ≡ true
  so_holds g h w = (λ i. eq-eqb h.project project w.0 i && (bytes_eq-Decides h.group g).1 w.1 i)

  -- it is a live attempt's
  attempt_is : (g : List ℕ) (h : Holder) → Has h (holders s) → Holds g h → (a : Attempt) × (IsHeldBy s project g a × (Has a s.attempts × (h.attempt ≡ a.id)))
  attempt_is g h k w =
      let at = has_flat (held_of s) h (live_attempts s) k in
      let a = at.0 in
      let live = has_filter is_live a s.attempts at.1.0 in
      (a, ((contains_from_has a s.attempts live.0, live.1, has_any (holds project g) h (held_of s a) at.1.1 (so_holds g h w)), (live.0, by_attempt a.id (queued_at s a.job) h at.1.1)))

  -- and a live attempt has one
  holder_is : (g : List ℕ) (a : Attempt) → IsHeldBy s project g a → (h : Holder) × (Has h (holders s) × Holds g h)
  holder_is g a w =
      let at = any_has (holds project g) (held_of s a) w.2 in
      let k = filter_has is_live a s.attempts (has_from_contains a s.attempts w.0) w.1 in
      (at.0, (flat_has (held_of s) at.0 a (live_attempts s) k at.1.0, holds_so g at.0 at.1.1))

  abbrev held_names : List (List ℕ)
  held_names = map (λ h. h.group) (holders_in project (holders s))

  abbrev mode_names : List (List ℕ)
  mode_names = map (λ m. m.group) (modes_in project s.modes)

  abbrev IsOne : List ℕ → Type 0
  IsOne g = ((m : GroupMode) × IsModeOf s project g m) ⊎ ((a : Attempt) × IsHeldBy s project g a)

  is_one : (g : List ℕ) → Has g (group_names s project) → IsOne g
  is_one g k =
      ⊎_elim
      (λ m. let at = map_has (λ (h : Holder). h.group) g (holders_in project (holders s)) m in
      let of = has_filter (λ (h : Holder). h.project == project) at.0 (holders s) at.1.0 in
      let a = attempt_is g at.0 of.0 (eqb-true at.0.project project of.1, at.1.1) in
      inr (a.0, a.1.0))
      (λ m. let at = map_has (λ (w : GroupMode). w.group) g (modes_in project s.modes) m in
      let of = has_filter (λ (w : GroupMode). w.project == project) at.0 s.modes at.1.0 in
      inl (at.0, (contains_from_has at.0 s.modes of.0, eqb-true at.0.project project of.1, at.1.1)))
      (in_names g held_names mode_names k)

  moded : (g : List ℕ) (m : GroupMode) → IsModeOf s project g m → Has g (group_names s project)
  moded g m w =
      let k = filter_has (λ (x : GroupMode). x.project == project) m s.modes (has_from_contains m s.modes w.0) (eq-eqb m.project project w.1) in
      names_still g held_names mode_names (subst (λ n. Has n mode_names) w.2 (has_map (λ (x : GroupMode). x.group) m (modes_in project s.modes) k))

  held : (g : List ℕ) (a : Attempt) → IsHeldBy s project g a → Has g (group_names s project)
  held g a w =
      let at = holder_is g a w in
      let k = filter_has (λ (h : Holder). h.project == project) at.0 (holders s) at.1.0 (eq-eqb at.0.project project at.1.1.0) in
      names_come g held_names mode_names (subst (λ n. Has n held_names) at.1.1.1 (has_map (λ (h : Holder). h.group) at.0 (holders_in project (holders s)) k))

  are_groups : Ordered mode_cmp s.modes → AreGroups s project (group_names s project)
  are_groups o = record {
    ascend = ascend text_cmp (group_names s project) (with_ordered held_names mode_names (names_ordered project (modes_in project s.modes)
        (λ m k. eqb-true m.project project (has_filter (λ (w : GroupMode). w.project == project) m s.modes k).1)
        (filter_ordered mode_cmp (λ (w : GroupMode). w.project == project) s.modes o)));
    no_others = All-from_has IsOne (group_names s project) is_one;
    with_mode = λ g m w. contains_from_has g (group_names s project) (moded g m w);
    held = λ g a w. contains_from_has g (group_names s project) (held g a w);
  }

  -- the job that holds a group
  by_holder : Rising (λ (a : Attempt). a.id) 0 s.attempts → (g : List ℕ) (found : Option Holder) → find (holds project g) (holders s) ≡ found
      → IsHolder s project g (option_map (λ (a : Attempt). a.job) (option_and_then (λ (h : Holder). attempt_at s h.attempt) found))
  by_holder rise g None none = λ a w.
      let at = holder_is g a w in both_ways (holds project g at.0) (found_none (holds project g) at.0 (holders s) none at.1.0) (so_holds g at.0 at.1.1)
  by_holder rise g (Some h) found =
      let its = has_find (holds project g) h (holders s) found in
      let at = attempt_is g h its.0 (holds_so g h its.1) in
      let there : attempt_at s h.attempt ≡ Some at.0 = subst (λ n. attempt_at s n ≡ Some at.0) (sym at.1.1.1) (find_has (λ (a : Attempt). a.id) at.0 0 s.attempts rise at.1.1.0) in
      subst (λ (o : Option Attempt). IsHolder s project g (option_map (λ (a : Attempt). a.job) o)) (sym there) (at.0, at.1.0, refl)

-- ---- what is told of them

pub groups_told : (s t : State) (query : ReadQuery) (now : ℕ) (seed : Seed) (reply : Reply) → IsReached s → query.subject ≡ Subject.ResourceGroups
    → Step s (Event.Request (Read query)) now seed (Answer.Reply reply) t → reply.code ≡ None → TellsGroups s query.project reply
groups_told s t query now seed reply reaches is step none =
    let rise = rising_from_ascend (λ (a : Attempt). a.id) s.attempts (sound_reached s reaches).attempts_ascend in
    let ordered = (in_order reaches.0 s reaches.1).1 in
    read_told s t query Subject.ResourceGroups now seed reply is step none (TellsGroups s)
    (λ p. record { groups = group_names s p.id; are_groups = are_groups s p.id ordered; holders = λ g. by_holder s p.id rise g (find (holds p.id g) (holders s)) refl; told = refl })
