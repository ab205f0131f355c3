-- The redundant pipeline is the suspect of least number that is superseded: those that are alone aren't, and the rest are suspects.
use Rattle.std.proofs.Common.{◌≡◌, ◌⊎◌, ℕ, ◌+◌, ◌<◌, ◌≤◌, false, nat_lt, ◌==◌, List, [], ◌∷◌, ◌++◌, map, filter, find, Option, Some, None, refl, sym, ap, subst, ◌∙◌, inl, inr}
use Rattle.std.proofs.Common.{⊎_elim, arith, ltb-true, ltb-false, eqb-true}
use Rattle.std.proofs.lemmas.Bool.{cond_both}
use Rattle.std.proofs.lemmas.List.Folds.{list_any_none}
use Rattle.std.proofs.lemmas.Option.{cond_some}
use Rattle.ci_machine_steps.specs.Prelude.{BoardRow, Pipeline, Unfinished, State, is_open_in, unfinished_in, redundant_in, pipeline_at, is_newer_of}
use Rattle.ci_machine.proofs.Keyed.{Has, Rising, Named, rising_from, rising_filter, has_find, has_from_all, has_from_contains, contains_from_has, All-from_has}
use Rattle.ci_memory.specs.Redundant.{is_superseded, if_superseded, superseded_at, IsLeast, lesser}
use Rattle.ci_machine_steps.proofs.Behind.{in_either, has_left, has_right}
use Rattle.ci_memory.proofs.Covers.{Covers, number, id}
use Rattle.ci_machine.proofs.Found.{found_none}
use Rattle.ci_memory.proofs.Supersedes.{or_first, first_found, first_is_redundant, superseded_by}

-- ---- by membership

-- of these numbers, the superseded one of least number
abbrev pub Least : State → List ℕ → Option Pipeline → Type 0
Least s ns None = (n : ℕ) → Has n ns → superseded_at s n ≡ None
Least s ns (Some p) = Has p.id ns × (superseded_at s p.id ≡ Some p) × ((n : ℕ) → Has n ns → n < p.id → superseded_at s n ≡ None)

pub least_by : (s : State) (ns : List ℕ) (o : Option Pipeline) → IsLeast s ns o → Least s ns o
least_by s ns None l = λ n h. has_from_all (λ n. superseded_at s n ≡ None) n ns l h
least_by s ns (Some p) l = (has_from_contains p.id ns l.0, l.1, λ n h. has_from_all (λ n. n < p.id → superseded_at s n ≡ None) n ns l.2 h)

pub is_least : (s : State) (ns : List ℕ) (o : Option Pipeline) → Least s ns o → IsLeast s ns o
is_least s ns None l = All-from_has (λ n. superseded_at s n ≡ None) ns l
is_least s ns (Some p) l = (contains_from_has p.id ns l.0, l.1, All-from_has (λ n. n < p.id → superseded_at s n ≡ None) ns l.2)

-- ---- the one that is found

-- one that is found at a number has it
pub found_at : (s : State) (n : ℕ) (p : Pipeline) → superseded_at s n ≡ Some p → p.id ≡ n
found_at s n p e = go (pipeline_at s n) refl e
  where
    go : (o : Option Pipeline) → pipeline_at s n ≡ o → if_superseded s o ≡ Some p → p.id ≡ n
    go None at f = absurd (cc)
    go (Some q) at f = ap id (sym (cond_some (is_superseded s q) q p f).1) ∙ eqb-true q.id n (has_find (λ (r : Pipeline). r.id == n) q s.pipelines at).1

-- one without a newer one isn't superseded
pub alone_is_none : (s : State) (n : ℕ) (p : Pipeline) → pipeline_at s n ≡ Some p → find (is_newer_of p) s.pipelines ≡ None → superseded_at s n ≡ None
alone_is_none s n p at none = superseded_by s n p false _ (sym at) (list_any_none (is_newer_of p) s.pipelines (All-from_has (λ q. is_newer_of p q ≡ false) s.pipelines (λ q. found_none (is_newer_of p) q s.pipelines none))) refl

module _ (s : State) where
  none_in : (us : List Unfinished) → ((u : Unfinished) → Has u us → superseded_at s u.pipeline ≡ None) → first_found s us ≡ None
  none_in [] none = refl
  none_in (u ∷ us) none = ap (λ o. or_first o (first_found s us)) (none u (inl refl)) ∙ none_in us (λ v h. none v (inr h))

  -- in a list that rises, the first that is found is the one of least number
  first_in : (p : Pipeline) (low : ℕ) (us : List Unfinished) → Rising number low us → Named number p.id us → superseded_at s p.id ≡ Some p
      → ((u : Unfinished) → Has u us → u.pipeline < p.id → superseded_at s u.pipeline ≡ None) → first_found s us ≡ Some p
  first_in p low [] rise w its none = absurd w.1.0
  first_in p low (u ∷ us) rise w its none =
      ⊎_elim
      (λ e. ap (λ o. or_first o (first_found s us)) (ap (superseded_at s) (ap number (sym e) ∙ w.1.1) ∙ its))
      (λ m.
      let after : u.pipeline + 1 ≤ w.0.pipeline = rising_from number w.0 (u.pipeline + 1) us rise.1 m in
      let at = w.1.1 in
      ap (λ o. or_first o (first_found s us)) (none u (inl refl) (omega (arith, after, at)))
      ∙ first_in p (u.pipeline + 1) us rise.1 (w.0, (m, w.1.1)) its (λ v h. none v (inr h)))
      w.1.0

  module _ (us : List Unfinished) (alone : List Pipeline) (suspects : List ℕ) (c : Covers s.pipelines us alone suspects) where
    -- one that isn't finished and isn't a suspect isn't superseded
    or_suspect : (u : Unfinished) → Has u us → Has u.pipeline suspects ⊎ (superseded_at s u.pipeline ≡ None)
    or_suspect u h =
        ⊎_elim (λ m. inl m)
        (λ w. inr (subst (λ n. superseded_at s n ≡ None) w.1.1 (alone_is_none s w.0.id w.0 (c.there w.0 w.1.0) (c.newest w.0 w.1.0))))
        (c.covered u h)

    pub least_is_first : (o : Option Pipeline) (low : ℕ) → Rising number low us → Least s suspects o → o ≡ first_found s us
    least_is_first None low rise l = sym (none_in us (λ u h. ⊎_elim (l u.pipeline) (λ e. e) (or_suspect u h)))
    least_is_first (Some p) low rise l =
        sym (first_in p low us rise (c.suspects_open p.id l.0) l.1 (λ u h less. ⊎_elim (λ m. l.2 u.pipeline m less) (λ e. e) (or_suspect u h)))

-- those that aren't finished rise
rising_numbers : (low : ℕ) (ps : List Pipeline) → Rising id low ps → Rising number low (map (λ p. record { pipeline = p.id }) ps)
rising_numbers low [] r = tt
rising_numbers low (p ∷ ps) r = (r.0, rising_numbers (p.id + 1) ps r.1)

-- the least of the suspects is the redundant pipeline
pub least_is_redundant : (s : State) (board : List BoardRow) (us : List Unfinished) (alone : List Pipeline) (suspects : List ℕ) (o : Option Pipeline)
    → Rising id 0 s.pipelines → us ≡ unfinished_in s board → Covers s.pipelines us alone suspects → Least s suspects o → o ≡ redundant_in s board
least_is_redundant s board us alone suspects o rise are c l =
    least_is_first s us alone suspects c o 0 (subst (Rising number 0) (sym are) (rising_numbers 0 (filter (is_open_in s board) s.pipelines) (rising_filter id (is_open_in s board) 0 s.pipelines rise))) l
    ∙ (ap (first_found s) are ∙ first_is_redundant s board rise)

-- ---- one more

module _ (s : State) (ns : List ℕ) (m : ℕ) where
  abbrev more : List ℕ
  more = ns ++ m ∷ []

  either : (n : ℕ) → Has n more → Has n ns ⊎ (n ≡ m)
  either n h = ⊎_elim (λ k. inl k) (λ l. ⊎_elim (λ e. inr e) (λ k. absurd k) l) (in_either n ns (m ∷ []) h)

  has_it : Has m more
  has_it = has_right m ns (m ∷ []) (inl refl)

  -- it isn't superseded
  and_none : (o : Option Pipeline) → Least s ns o → superseded_at s m ≡ None → Least s more o
  and_none None l e = λ n h. ⊎_elim (l n) (λ same. ap (superseded_at s) same ∙ e) (either n h)
  and_none (Some p) l e = (has_left p.id ns (m ∷ []) l.0, l.1, λ n h less. ⊎_elim (λ k. l.2 n k less) (λ same. ap (superseded_at s) same ∙ e) (either n h))

  -- it is, and is the least
  and_least : (q : Pipeline) → superseded_at s m ≡ Some q → ((n : ℕ) → Has n ns → n < q.id → superseded_at s n ≡ None) → Least s more (Some q)
  and_least q e below =
      let its = found_at s m q e in (
        subst (λ n. Has n more) (sym its) has_it,
        subst (λ n. superseded_at s n ≡ Some q) (sym its) e,
        λ n h less. ⊎_elim (λ k. below n k less) (λ same. absurd (omega (arith, less, same, its))) (either n h),
      )

  pub least_more : (o q : Option Pipeline) → q ≡ superseded_at s m → Least s ns o → Least s more (lesser o q)
  least_more None None e l = and_none None l (sym e)
  least_more None (Some q) e l = and_least q (sym e) (λ n h _. l n h)
  least_more (Some p) None e l = and_none (Some p) l (sym e)
  least_more (Some p) (Some q) e l =
      cond_both (nat_lt q.id p.id) (Some q) (Some p) (λ o. Least s more o)
      (λ t. let first : q.id < p.id = ltb-true q.id p.id t in and_least q (sym e) (λ n h less. l.2 n h (omega (arith, less, first))))
      (λ f.
      let after : p.id ≤ q.id = ltb-false q.id p.id f in
      let its = found_at s m q (sym e) in (
        has_left p.id ns (m ∷ []) l.0,
        l.1,
        λ n h less. ⊎_elim (λ k. l.2 n k less) (λ same. absurd (omega (arith, less, same, its, after))) (either n h),
      ))
