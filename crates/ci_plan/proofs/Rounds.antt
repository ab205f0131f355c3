-- Circles: which positions are in one, and how one is walked.
use Rattle.std.proofs.Common.{◌≡◌, ◌⊎◌, inl, inr, ℕ, zero, suc, ◌-◌, ◌<◌, Bool, true, false, List, [], ◌∷◌, ◌++◌, length, drop, refl, sym, ap, subst, ◌∙◌, arith, Contains}
use Rattle.std.proofs.Common.{slice_index_or, slice_set as set, replicate, take, Result, Ok, Err, IfOk}
use Rattle.std.proofs.lemmas.Bool.{cases_eq, false≢true}
use Rattle.std.proofs.lemmas.List.{get_or-set_other, get_or-replicate, take_all, length-drop}
use Rattle.std.proofs.lemmas.List.Elements.{All-contains, Contains-push, Contains-append_left}
use Rattle.ci_machine.specs.Prelude.{AreWithin, IsWalk, HasWalk}
use Rattle.ci_plan.specs.Circles.{WaitInTurn, IsCircle, is_left, KeepsCycles}

-- each of these waits for the next one, and the last one for this
abbrev pub Leads : List (ℕ × ℕ) → List ℕ → ℕ → Type 0
Leads pairs [] place = Unit {0}
Leads pairs (i ∷ is) place = WaitInTurn pairs i is place

module _ (pairs : List (ℕ × ℕ)) where
  leads_tail : (i : ℕ) (is : List ℕ) (place : ℕ) → Leads pairs (i ∷ is) place → Leads pairs is place
  leads_tail i [] place h = tt
  leads_tail i (j ∷ js) place h = h.1

  leads_drop : (k : ℕ) (is : List ℕ) (place : ℕ) → Leads pairs is place → Leads pairs (drop k is) place
  leads_drop zero is place h = h
  leads_drop (suc k) [] place h = tt
  leads_drop (suc k) (i ∷ is) place h = leads_drop k is place (leads_tail i is place h)

  turn_push : (i : ℕ) (js : List ℕ) (p q : ℕ) → WaitInTurn pairs i js p → Contains pairs (q, p) → WaitInTurn pairs i (js ++ p ∷ []) q
  turn_push i [] p q h c = (h, c)
  turn_push i (j ∷ js) p q h c = (h.0, turn_push j js p q h.1 c)

  pub leads_push : (is : List ℕ) (p q : ℕ) → Leads pairs is p → Contains pairs (q, p) → Leads pairs (is ++ p ∷ []) q
  leads_push [] p q h c = c
  leads_push (i ∷ is) p q h c = turn_push i is p q h c

  -- from a position on to which it leads
  closes : (k : ℕ) (is : List ℕ) (place : ℕ) → k < length is → slice_index_or is k place ≡ place → Leads pairs (drop k is) place → IsCircle pairs (drop k is)
  closes k [] place lt e h = absurd (omega arith)
  closes zero (i ∷ is) place lt e h = subst (λ (p : ℕ). WaitInTurn pairs i is p) (sym e) h
  closes (suc k) (i ∷ is) place lt e h = closes k is place (omega arith) e h

  pub circle_from : (k : ℕ) (is : List ℕ) (place : ℕ) → k < length is → slice_index_or is k place ≡ place → Leads pairs is place → IsCircle pairs (drop k is)
  circle_from k is place lt e h = closes k is place lt e (leads_drop k is place h)

  -- ---- walks that return

  last_step : (i : ℕ) (ks : List ℕ) (j : ℕ) → IsWalk pairs i ks j → (p : ℕ) × Contains pairs (p, j) × (HasWalk pairs i p ⊎ (p ≡ i))
  last_step i [] j w = (i, w, inr refl)
  last_step i (k ∷ ks) j w =
      let (p, last, way) = last_step k ks j w.1 in
      elim way [
        | inl walk ↦ (p, last, inl (k ∷ walk.0, (w.0, walk.1)))
        | inr e ↦ (p, last, inl ([], subst (λ (q : ℕ). Contains pairs (i, q)) (sym e) w.0))
      ]

  -- what it waits for in its circle is in a circle too
  pub before : (i : ℕ) → HasWalk pairs i i → (p : ℕ) × Contains pairs (p, i) × HasWalk pairs p p
  before i walk =
      let (p, last, way) = last_step i walk.0 i walk.1 in
      elim way [
        | inl back ↦ (p, last, (i ∷ back.0, (last, back.1)))
        | inr e ↦ (p, last, subst (λ (q : ℕ). HasWalk pairs q q) (sym e) walk)
      ]

-- ---- positions that are left

pub left_below : (left : List Bool) (i : ℕ) → is_left left i ≡ true → i < length left
left_below [] i e = absurd (false≢true e)
left_below (b ∷ bs) zero e = omega arith
left_below (b ∷ bs) (suc i) e = let more : i < length bs = left_below bs i e in omega arith

-- how many are left
abbrev pub remaining : List Bool → ℕ
remaining [] = 0
remaining (true ∷ bs) = suc (remaining bs)
remaining (false ∷ bs) = remaining bs

pub one_less : (left : List Bool) (i : ℕ) → is_left left i ≡ true → remaining (set left i false) < remaining left
one_less [] i e = absurd (false≢true e)
one_less (true ∷ bs) zero e = omega arith
one_less (false ∷ bs) zero e = absurd (false≢true e)
one_less (true ∷ bs) (suc i) e = let less : remaining (set bs i false) < remaining bs = one_less bs i e in omega arith
one_less (false ∷ bs) (suc i) e = one_less bs i e

module _ (pairs : List (ℕ × ℕ)) where
  -- those of circles stay where one goes that waits for none that is left
  pub still_kept : (left : List Bool) (j : ℕ) → KeepsCycles pairs left → ((p : ℕ) → Contains pairs (p, j) → is_left left p ≡ false) → KeepsCycles pairs (set left j false)
  still_kept left j keeps none i walk = elim (cases_eq i j) [
    | inl e ↦
        let (p, last, circle) = before pairs i walk in
        absurd (false≢true (sym (none p (subst (λ (k : ℕ). Contains pairs (p, k)) e last)) ∙ keeps p circle))
    | inr other ↦ get_or-set_other left j i false false other ∙ keeps i walk
  ]

  pub all_kept : (n : ℕ) → AreWithin n pairs → KeepsCycles pairs (replicate n true)
  all_kept n within i walk =
      let (p, last, circle) = before pairs i walk in
      let bound : (p < n) × (i < n) = All-contains (λ (q : ℕ × ℕ). (q.0 < n) × (q.1 < n)) pairs (p, i) within last in
      get_or-replicate n i true false bound.1

-- ---- those that were passed

-- all that is behind the first k
pub tail_of : (now xs : List ℕ) (k : ℕ) → now ≡ xs → take (length now - k) (drop k now) ≡ drop k xs
tail_of now xs k e = take_all (length now - k) (drop k now) (simp length-drop (omega arith)) ∙ ap (λ (ys : List ℕ). drop k ys) e

pub made : {V E : Type 0} (view : V → List ℕ) (P : List ℕ → Type 0) (r : Result V E) (got : List ℕ) → IfOk r (λ v. view v ≡ got) → P got → IfOk r (λ v. P (view v))
made view P (Ok v) got is p = subst P (sym is) p
made view P (Err e) got is p = tt

-- each that is left was passed, or is fresh still
abbrev pub ArePassed : List Bool → List Bool → List ℕ → Type 0
ArePassed left fresh passed = (p : ℕ) → is_left left p ≡ true → (is_left fresh p ≡ true) ⊎ Contains passed p

pub pass_one : (left fresh : List Bool) (passed : List ℕ) (place : ℕ) → ArePassed left fresh passed → ArePassed left (set fresh place false) (passed ++ place ∷ [])
pass_one left fresh passed place are p is = elim (cases_eq p place) [
  | inl e ↦ inr (subst (λ (q : ℕ). Contains (passed ++ place ∷ []) q) (sym e) (Contains-push passed place))
  | inr other ↦ elim (are p is) [
    | inl still ↦ inl (get_or-set_other fresh place p false false other ∙ still)
    | inr was ↦ inr (Contains-append_left passed (place ∷ []) p was)
  ]
]

pub still_fresh : (left fresh : List Bool) (passed : List ℕ) (place : ℕ) → ArePassed left fresh passed → is_left left place ≡ true → (Contains passed place → ⊥) → is_left fresh place ≡ true
still_fresh left fresh passed place are is none = elim (are place is) [
  | inl still ↦ still
  | inr was ↦ absurd (none was)
]
