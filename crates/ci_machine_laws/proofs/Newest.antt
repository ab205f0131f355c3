-- The pipelines that are listed of a project are its newest.
use Rattle.ci_machine_laws.proofs.Prelude.{Ordered, map_has, ◌≡◌, ◌⊎◌, ◌<◌, ℕ, zero, suc, ◌+◌, Bool, ◌==◌, List, [], ◌∷◌, ◌++◌, length, map, filter, take, reverse, All, Contains}
use Rattle.ci_machine_laws.proofs.Prelude.{None, nat_cmp, is_lt, Less, refl, sym, ap, subst, ◌∙◌, inl, inr, ⊎_elim, arith, eqb-true, eq-eqb, Has, Rising, rising_from}
use Rattle.ci_machine_laws.proofs.Prelude.{rising_filter, has_filter, filter_has, All-from_has, contains_from_has, less, nat_less, in_either, has_left, has_right}
use Rattle.ci_machine_laws.proofs.Prelude.{rising_from_ascend}
use Rattle.std.proofs.lemmas.Grind.{reverse_onto}
use Rattle.ci_machine_steps.specs.Prelude.{LISTED_PIPELINES, Pipeline, BoardRow, Event, Read, ReadQuery, Subject, Seed, Reply, Answer, RowChange, State, applied, Plan}
use Rattle.ci_machine_steps.specs.Prelude.{listed_pipelines, Step, Happens, IsReached}
use Rattle.ci_machine_laws.specs.Reads.{AreNewest, TellsNewest}
use Rattle.ci_machine_laws.proofs.EachPlan.{of_read, read_told}
use Rattle.ci_machine_laws.proofs.Numbers.{ascend, sound_reached}

-- ---- lists whose numbers fall

module _ {A : Type 0} (id : A → ℕ) where
  -- each number is greater than those after it
  abbrev Falls : List A → Type 0
  Falls xs = Ordered (λ a b. nat_cmp (id b) (id a)) xs

  -- each number is greater than x's
  abbrev Above : A → List A → Type 0
  Above x ys = (y : A) → Has y ys → id x < id y

  falls_last : (x : A) (ys : List A) → Falls ys → Above x ys → Falls (ys ++ x ∷ [])
  falls_last x [] f h = (λ y k. absurd k, tt)
  falls_last x (y ∷ ys) f h = (
    (λ z k. ⊎_elim (f.0 z) (λ m. ⊎_elim (λ e. nat_less (id z) (id y) (subst (λ (w : A). id w < id y) (sym e) (h y (inl refl)))) (λ n. absurd n) m) (in_either z ys (x ∷ []) k)),
    falls_last x ys f.1 (λ z k. h z (inr k)),
  )

  turned : (x : A) (xs : List A) → reverse (x ∷ xs) ≡ reverse xs ++ x ∷ []
  turned x xs = reverse_onto xs x []

  has_reverse : (y : A) (xs : List A) → Has y (reverse xs) → Has y xs
  has_reverse y [] h = h
  has_reverse y (x ∷ xs) h =
      ⊎_elim (λ k. inr (has_reverse y xs k)) (λ k. ⊎_elim (λ e. inl e) (λ m. absurd m) k) (in_either y (reverse xs) (x ∷ []) (subst (Has y) (turned x xs) h))

  reverse_has : (y : A) (xs : List A) → Has y xs → Has y (reverse xs)
  reverse_has y [] h = h
  reverse_has y (x ∷ xs) h =
      subst (Has y) (sym (turned x xs)) (⊎_elim (λ e. has_right y (reverse xs) (x ∷ []) (inl e)) (λ k. has_left y (reverse xs) (x ∷ []) (reverse_has y xs k)) h)

  -- a list whose numbers rise falls where it is turned
  falls_reverse : (low : ℕ) (xs : List A) → Rising id low xs → Falls (reverse xs)
  falls_reverse low [] r = tt
  falls_reverse low (x ∷ xs) r =
      subst Falls (sym (turned x xs)) (falls_last x (reverse xs) (falls_reverse (id x + 1) xs r.1)
      (λ y k. let z = rising_from id y (id x + 1) xs r.1 (has_reverse y xs k) in omega (arith, z)))

  take_has : (n : ℕ) (y : A) (xs : List A) → Has y (take n xs) → Has y xs
  take_has zero y xs h = absurd h
  take_has (suc n) y [] h = h
  take_has (suc n) y (x ∷ xs) h = ⊎_elim (λ e. inl e) (λ k. inr (take_has n y xs k)) h

  falls_take : (n : ℕ) (xs : List A) → Falls xs → Falls (take n xs)
  falls_take zero xs f = tt
  falls_take (suc n) [] f = tt
  falls_take (suc n) (x ∷ xs) f = (λ y k. f.0 y (take_has n y xs k), falls_take n xs f.1)

  numbers_fall : (xs : List A) → Falls xs → Ordered (λ a b. nat_cmp b a) (map id xs)
  numbers_fall [] f = tt
  numbers_fall (x ∷ xs) f = (λ n k. let w = map_has id n xs k in subst (λ m. nat_cmp m (id x) ≡ Less) w.1.1 (f.0 w.0 w.1.0), numbers_fall xs f.1)

  -- an element is among the first n, or these are n, and its number is less than theirs
  left_out : (n : ℕ) (p : A) (xs : List A) → Falls xs → Has p xs → Has p (take n xs) ⊎ ((length (take n xs) ≡ n) × Above p (take n xs))
  left_out zero p xs f k = inr (refl, λ y m. absurd m)
  left_out (suc n) p [] f k = absurd k
  left_out (suc n) p (x ∷ xs) f k =
      ⊎_elim (λ e. inl (inl e))
      (λ m. ⊎_elim (λ h. inl (inr h))
      (λ h. inr (ap suc h.0, λ y j. ⊎_elim (λ e. subst (λ (w : A). id p < id w) (sym e) (less (id p) (id x) (ap is_lt (f.0 p m)))) (λ i. h.1 y i) j))
      (left_out n p xs f.1 m)) k

-- ---- the pipelines of a project

-- the pipelines that are listed of a project are its newest, where the numbers of all rise
listed_newest : (s : State) (project : ℕ) → Rising (λ (p : Pipeline). p.id) 0 s.pipelines → AreNewest s project (listed_pipelines s project)
listed_newest s project rise =
    let id : Pipeline → ℕ = λ p. p.id in
    let is_its : Pipeline → Bool = λ p. p.project == project in
    let its = filter is_its s.pipelines in
    let shown = listed_pipelines s project in
    let falls = falls_reverse id 0 its (rising_filter id is_its 0 s.pipelines rise) in
    record {
      own = All-from_has (λ (p : Pipeline). Contains s.pipelines p × (p.project ≡ project)) shown (λ p k.
          let at = has_filter is_its p s.pipelines (has_reverse id p its (take_has id LISTED_PIPELINES p (reverse its) k)) in (contains_from_has p s.pipelines at.0, eqb-true p.project project at.1));
      fall = ascend (λ a b. nat_cmp b a) (map id shown) (numbers_fall id shown (falls_take id LISTED_PIPELINES (reverse its) falls));
      newest = All-from_has (λ (p : Pipeline). p.project ≡ project → Contains shown p ⊎ ((length shown ≡ LISTED_PIPELINES) × All (λ (q : Pipeline). p.id < q.id) shown)) s.pipelines (λ p k of. ⊎_elim
          (λ h. inl (contains_from_has p shown h))
          (λ h. inr (h.0, All-from_has (λ (q : Pipeline). p.id < q.id) shown h.1))
          (left_out id LISTED_PIPELINES p (reverse its) falls (reverse_has id p its (filter_has is_its p s.pipelines k (eq-eqb p.project project of)))));
    }

-- ---- what is told of them

pub newest_told : (s t : State) (query : ReadQuery) (now : ℕ) (seed : Seed) (reply : Reply) → IsReached s → query.subject ≡ Subject.Pipelines
    → Step s (Event.Request (Read query)) now seed (Answer.Reply reply) t → reply.code ≡ None → TellsNewest s query.project reply
newest_told s t query now seed reply reaches is step none =
    let rise = rising_from_ascend (λ (p : Pipeline). p.id) s.pipelines (sound_reached s reaches).pipelines_ascend in
    read_told s t query Subject.Pipelines now seed reply is step none (TellsNewest s)
    (λ p. record { board = step.before; are_board = step.are_before; pipelines = listed_pipelines s p.id; are_newest = listed_newest s p.id rise; told = refl })

-- ---- a read changes nothing

no_changes : (s : State) (board : List BoardRow) (query : ReadQuery) (now : ℕ) (seed : Seed) (a : Answer) (changes : List RowChange) → Happens s board (Event.Request (Read query)) now seed a changes → changes ≡ []
no_changes s board query now seed (Answer.Reply reply) changes is =
    let P : Plan → Type 0 = λ plan. plan.1 ≡ [] in
    subst P (sym is) (of_read P (λ c m. refl) (λ body. refl) s board query)
no_changes s board query now seed (Answer.Swept swept) changes is = absurd is

pub read_keeps : (s t : State) (query : ReadQuery) (now : ℕ) (seed : Seed) (a : Answer) → Step s (Event.Request (Read query)) now seed a t → t ≡ s
read_keeps s t query now seed a step = step.state ∙ ap (λ cs. applied cs s) (no_changes s step.before query now seed a step.changes step.happens)
