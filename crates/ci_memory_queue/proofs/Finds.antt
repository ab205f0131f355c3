-- The line of a group in a list of lines, where one of them is replaced or one is added.
use Rattle.std.proofs.Common.{◌≡◌, ◌⊎◌, ℕ, zero, suc, ◌+◌, ◌<◌, Bool, true, ◌==◌, List, [], ◌∷◌, ◌++◌, length, find, Contains, Option, Some, None, IfSome, ◌&&◌}
use Rattle.std.proofs.Common.{slice_index_or, slice_set, refl, sym, ap, subst, ◌∙◌, ⊎_elim, arith, eqb-true, eq-eqb}
use Rattle.std.specs.List.{position}
use Rattle.std.specs.Option.{option_or}
use Rattle.std.specs.Str.{bytes_eq}
use Rattle.std.proofs.lemmas.Bool.{cond-true, and_parts, and_from}
use Rattle.std.proofs.lemmas.List.Folds.{find-append, find-set}
use Rattle.std.proofs.lemmas.List.Quantifiers.{position-Some}
use Rattle.std.proofs.lemmas.Option.{cond_some}
use Rattle.std.proofs.lemmas.Slice.Eq.{bytes_eq-Decides}
use Rattle.ci_machine_steps.specs.Prelude.{GroupOrder, OldestFirst, NewestReadyFirst, Kept}
use Rattle.ci_machine.proofs.Keyed.{has_find}
use Rattle.ci_memory_queue.specs.declared.lines.Line.{Line}
use Rattle.ci_memory_queue.specs.Places.{counts_at, place_at}
use Rattle.ci_memory_queue.specs.LineCovers.{is_line_of, line_of, IsIn, IsInLine, jobs_in, jobs_of, KeepsWaiting}
use Rattle.ci_memory_queue.specs.First.{IsInGroup, IsFirst}

-- ---- the first that passes

module _ {A : Type 0} (test : A → Bool) where
  -- what is put in its place is the first, if it passes too
  find_set_first : (xs : List A) (i : ℕ) (x : A) → position test xs ≡ Some i → test x ≡ true → find test (slice_set xs i x) ≡ Some x
  find_set_first xs i x at e = find-set test xs i x (sym (cond_some _ _ i at).1) (position-Some test xs i x at).0 e

  pub none_found : (xs : List A) → position test xs ≡ None → find test xs ≡ None
  none_found [] e = refl
  none_found (x ∷ xs) e = grind (arith, none_found xs)

  -- with one in the place of another that passes as it does, what is found is as before, or it was that other and is this one
  find_set : (xs : List A) (i : ℕ) (x d : A) → i < length xs → test x ≡ test (slice_index_or xs i d)
      → (find test (slice_set xs i x) ≡ find test xs) ⊎ ((find test xs ≡ Some (slice_index_or xs i d)) × (find test (slice_set xs i x) ≡ Some x))
  find_set [] i x d l same = grind arith
  find_set (y ∷ ys) zero x d l same = grind arith
  find_set (y ∷ ys) (suc i) x d l same = grind (arith, find_set ys i x d)

-- ---- lines

its_own : (l : Line) (p : ℕ) (g : List ℕ) → is_line_of p g l ≡ true → (l.project ≡ p) × (l.group ≡ g)
its_own l p g e = let both = and_parts (l.project == p) (bytes_eq l.group g) e in (eqb-true l.project p both.0, (bytes_eq-Decides l.group g).0 both.1)

module _ (lines : List Line) (i : ℕ) (new d : Line) (project : new.project ≡ (slice_index_or lines i d).project) (group : new.group ≡ (slice_index_or lines i d).group) where
  -- whose line it is follows from its project and its group
  same_key : (p : ℕ) (g : List ℕ) → is_line_of p g new ≡ is_line_of p g (slice_index_or lines i d)
  same_key p g = λ i. (project i == p) && bytes_eq (group i) g

  -- in the place of another of its group, which had the job only if it has it, a line leaves the job where it was
  set_in : (p : ℕ) (g : List ℕ) (ready : Bool) (n : ℕ) → i < length lines → (is_line_of p g (slice_index_or lines i d) ≡ true → IsIn ready n (slice_index_or lines i d) → IsIn ready n new)
      → IsInLine (line_of lines p g) ready n → IsInLine (line_of (slice_set lines i new) p g) ready n
  set_in p g ready n within keeps has =
      ⊎_elim
      (λ e. subst (λ (o : Option Line). IsInLine o ready n) (sym e) has)
      (λ e. subst (λ (o : Option Line). IsInLine o ready n) (sym e.1)
      (keeps (has_find (is_line_of p g) (slice_index_or lines i d) lines e.0).1 (subst (λ (o : Option Line). IsInLine o ready n) e.0 has)))
      (find_set (is_line_of p g) lines i new d within (same_key p g))

  pub set_keeps : i < length lines → ((ready : Bool) (n : ℕ) → IsIn ready n (slice_index_or lines i d) → IsIn ready n new)
      → (p : ℕ) (g : List ℕ) (ready : Bool) (n : ℕ) → IsInLine (line_of lines p g) ready n → IsInLine (line_of (slice_set lines i new) p g) ready n
  set_keeps within keeps p g ready n = set_in p g ready n within (λ _. keeps ready n)

  -- what is put in the place of the first of a group is that
  set_line : (p : ℕ) (g : List ℕ) → position (is_line_of p g) lines ≡ Some i → line_of (slice_set lines i new) p g ≡ Some new
  set_line p g at = find_set_first (is_line_of p g) lines i new at (same_key p g ∙ (position-Some (is_line_of p g) lines i d at).1)

  -- a job that it has is in the line of the group, where it is the first
  pub set_there : (p : ℕ) (g : List ℕ) (ready : Bool) (n : ℕ) → position (is_line_of p g) lines ≡ Some i → IsIn ready n new → IsInLine (line_of (slice_set lines i new) p g) ready n
  set_there p g ready n at has = subst (λ (o : Option Line). IsInLine o ready n) (sym (set_line p g at)) has

  -- the same of jobs that wait, where others may be gone
  module _ (k : Kept) (within : i < length lines)
      (keeps : (o : GroupOrder) (job pipeline : ℕ) → IsInGroup o k (slice_index_or lines i d).project (slice_index_or lines i d).group job pipeline → Contains (jobs_in o (slice_index_or lines i d)) job → Contains (jobs_in o new) job) where
    keeps_one : (job pipeline p : ℕ) (g : List ℕ) → counts_at OldestFirst k.board job ≡ true → place_at k.state job ≡ Some (record { pipeline = pipeline; project = p; group = Some g })
        → is_line_of p g (slice_index_or lines i d) ≡ true → IsIn (counts_at NewestReadyFirst k.board job) job (slice_index_or lines i d) → IsIn (counts_at NewestReadyFirst k.board job) job new
    keeps_one job pipeline p g waits placed its has =
        let own = its_own (slice_index_or lines i d) p g its in
        let here : place_at k.state job ≡ Some (record { pipeline = pipeline; project = (slice_index_or lines i d).project; group = Some (slice_index_or lines i d).group })
        = placed ∙ sym (λ j. Some (record { pipeline = pipeline; project = own.0 j; group = Some (own.1 j) })) in
        (keeps OldestFirst job pipeline (waits, here) has.0, λ ready. keeps NewestReadyFirst job pipeline (ready, here) (has.1 ready))

    pub set_waiting : KeepsWaiting k lines (slice_set lines i new)
    set_waiting job place waits placed = of place.group placed
      where
        of : (o : Option (List ℕ)) → place_at k.state job ≡ Some (record { pipeline = place.pipeline; project = place.project; group = o })
            → IfSome o (λ g. IsInLine (line_of lines place.project g) (counts_at NewestReadyFirst k.board job) job) → IfSome o (λ g. IsInLine (line_of (slice_set lines i new) place.project g) (counts_at NewestReadyFirst k.board job) job)
        of None is has = tt
        of (Some g) is has = set_in place.project g (counts_at NewestReadyFirst k.board job) job within (keeps_one job place.pipeline place.project g waits is) has

  -- what is first in it is first in the line of the group
  pub set_first : (k : Kept) (order : GroupOrder) (p : ℕ) (g : List ℕ) (found : Option ℕ) → position (is_line_of p g) lines ≡ Some i
      → IsFirst order k (slice_index_or lines i d).project (slice_index_or lines i d).group (jobs_in order new) found → IsFirst order k p g (jobs_of order (line_of (slice_set lines i new) p g)) found
  set_first k order p g found at is =
      let own = its_own (slice_index_or lines i d) p g (position-Some (is_line_of p g) lines i d at).1 in
      subst (λ (js : List ℕ). IsFirst order k p g js found) (ap (jobs_of order) (sym (set_line p g at)))
      (subst (λ (h : List ℕ). IsFirst order k p h (jobs_in order new) found) own.1
      (subst (λ (n : ℕ). IsFirst order k n (slice_index_or lines i d).group (jobs_in order new) found) own.0 is))

-- a line that is added leaves the others
pub append_keeps : (lines : List Line) (new : Line) (p : ℕ) (g : List ℕ) (ready : Bool) (n : ℕ) → IsInLine (line_of lines p g) ready n → IsInLine (line_of (lines ++ new ∷ []) p g) ready n
append_keeps lines new p g ready n has = rw (find-append (is_line_of p g) lines (new ∷ [])) (of (line_of lines p g) (line_of (new ∷ []) p g) has)
  where
    of : (o r : Option Line) → IsInLine o ready n → IsInLine (option_or o r) ready n
    of None r h = absurd h
    of (Some l) r h = h

-- and is that of its group, where there was none
pub append_there : (lines : List Line) (new : Line) (p : ℕ) (g : List ℕ) (ready : Bool) (n : ℕ) → new.project ≡ p → new.group ≡ g → line_of lines p g ≡ None → IsIn ready n new → IsInLine (line_of (lines ++ new ∷ []) p g) ready n
append_there lines new p g ready n project group none has =
    let own = and_from (new.project == p) (bytes_eq new.group g) (eq-eqb new.project p project) ((bytes_eq-Decides new.group g).1 group) in
    subst (λ (o : Option Line). IsInLine o ready n)
    (sym (find-append (is_line_of p g) lines (new ∷ []) ∙ ap (λ o. option_or o (line_of (new ∷ []) p g)) none ∙ cond-true (is_line_of p g new) (Some new) None own)) has
