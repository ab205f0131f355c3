-- What the whole pass gives.
use Rattle.std.proofs.Common.{◌≡◌, ◌⊎◌, ℕ, zero, suc, ◌+◌, ◌<◌, ◌==◌, Bool, true, false, List, [], ◌∷◌, length, refl, sym, ap, ◌∙◌, arith, eqb-true, slice_set, ⊎_elim, inr}
use Rattle.std.proofs.Math.ListN.{length-set}
use Rattle.std.proofs.lemmas.Bool.{cond_both, eqb-false, and_parts}
use Rattle.std.proofs.lemmas.List.{get_or-set_same, get_or-set_other, ext_get_or}
use Rattle.ci_board.specs.Prelude.{Facts, Row, is_open, is_fail, is_bar, status_of_row, Effect, times, JobGraph, IsJobGraph, part_at, predecessors_of, successors_of, facts_at}
use Rattle.ci_board.specs.Prelude.{row_at, no_row, no_facts, PassState, corrected, differs, same_test, same_effect, was, is, put, stepped, passed, next_status}
use Rattle.ci_board.proofs.Counted.{AreCounted, AreCountedRows}
use Rattle.ci_board.proofs.Orders.{ComeInOrder, HasCome, in_order, all_come}
use Rattle.ci_board.proofs.Corrects.{corrected_status, corrected_other}
use Rattle.ci_board.proofs.Steps.{stepped_number, stepped_rows_long, stepped_facts}

same_test_is : (x y : Bool) → same_test x y ≡ true → x ≡ y
same_test_is true true e = refl
same_test_is false false e = refl
same_test_is true false e = absurd (cc)
same_test_is false true e = absurd (cc)

same_open : (a b : Effect) → same_effect a b ≡ true → is_open a ≡ is_open b
same_open a b e = same_test_is (is_open a) (is_open b) (and_parts _ _ (and_parts _ _ e).0).0

same_fail : (a b : Effect) → same_effect a b ≡ true → is_fail a ≡ is_fail b
same_fail a b e = same_test_is (is_fail a) (is_fail b) (and_parts _ _ (and_parts _ _ e).0).1

same_bar : (a b : Effect) → same_effect a b ≡ true → is_bar a ≡ is_bar b
same_bar a b e = same_test_is (is_bar a) (is_bar b) (and_parts _ _ e).1

step_counted : (g : JobGraph) → IsJobGraph g → (fresh : List Facts) (j : ℕ) → j < length g.parts → (h : PassState) → length h.rows ≡ length g.parts → length h.facts ≡ length g.parts
    → AreCounted g h.facts h.rows → AreCounted g (stepped g fresh j h).facts (stepped g fresh j h).rows
step_counted g net fresh j lj h rl fl c i li = record {
  opens = stepped_number g net fresh j lj h rl fl is_open (λ r. r.opens) (λ w v r. refl) (λ r s. refl) same_open (λ k b. (c k b).opens) i li;
  failed = stepped_number g net fresh j lj h rl fl is_fail (λ r. r.failed) (λ w v r. refl) (λ r s. refl) same_fail (λ k b. (c k b).failed) i li;
  barred = stepped_number g net fresh j lj h rl fl is_bar (λ r. r.barred) (λ w v r. refl) (λ r s. refl) same_bar (λ k b. (c k b).barred) i li;
}

-- a row that isn't a successor's is as put
step_row : (g : JobGraph) (fresh : List Facts) (j : ℕ) (h : PassState) (i : ℕ) → times i (successors_of g j) ≡ 0 → row_at (stepped g fresh j h).rows i ≡ row_at (put g fresh j h).rows i
step_row g fresh j h i e =
    cond_both (differs (was g j h) (is g fresh j h))
    (record { facts = (put g fresh j h).facts; rows = corrected g.parts (was g j h) (is g fresh j h) (successors_of g j) (put g fresh j h).rows; meter = h.meter + length (successors_of g j) })
    (put g fresh j h) (λ (x : PassState). row_at x.rows i ≡ row_at (put g fresh j h).rows i)
    (λ _. corrected_other g.parts (was g j h) (is g fresh j h) (successors_of g j) (put g fresh j h).rows i e)
    (λ _. refl)

pub step_status : (g : JobGraph) → IsJobGraph g → (fresh : List Facts) (j : ℕ) → j < length g.parts → (h : PassState) → length h.rows ≡ length g.parts → (i : ℕ)
    → (row_at (stepped g fresh j h).rows i).status ≡ (row_at (put g fresh j h).rows i).status
step_status g net fresh j lj h rl i =
    cond_both (differs (was g j h) (is g fresh j h))
    (record { facts = (put g fresh j h).facts; rows = corrected g.parts (was g j h) (is g fresh j h) (successors_of g j) (put g fresh j h).rows; meter = h.meter + length (successors_of g j) })
    (put g fresh j h) (λ (x : PassState). (row_at x.rows i).status ≡ (row_at (put g fresh j h).rows i).status)
    (λ _. corrected_status g.parts (was g j h) (is g fresh j h) (successors_of g j) (length g.parts) (λ k b. net.inside j k lj b) (put g fresh j h).rows (length-set h.rows j _ ∙ rl) i)
    (λ _. refl)

pub record Sound (g : JobGraph) (fresh : List Facts) (done : ℕ → Type 0) (h : PassState) : Type 0 where
  pub rows_long : length h.rows ≡ length g.parts
  pub facts_long : length h.facts ≡ length g.parts
  pub counted : AreCounted g h.facts h.rows
  pub facts_done : (i : ℕ) → done i → facts_at h.facts i ≡ facts_at fresh i
  pub settled : (i : ℕ) → done i → (row_at h.rows i).status ≡ status_of_row (part_at g i) (facts_at fresh i) (row_at h.rows i)
  pub closed : (i k : ℕ) → done i → 0 < times k (predecessors_of g i) → done k
  pub inside : (i : ℕ) → done i → i < length g.parts

none : (n : ℕ) → (0 < n → ⊥) → n ≡ 0
none zero f = refl
none (suc n) f = absurd (f (omega arith))

step_sound : (g : JobGraph) → IsJobGraph g → (fresh : List Facts) (done : ℕ → Type 0) (h : PassState) → Sound g fresh done h → (j : ℕ)
    → ((i : ℕ) → 0 < times i (predecessors_of g j) → done i) → (done j → ⊥) → j < length g.parts → Sound g fresh (λ i. (i ≡ j) ⊎ done i) (stepped g fresh j h)
step_sound g net fresh done h s j before new lj =
    let rl : length h.rows ≡ length g.parts = s.rows_long in
    let fl : length h.facts ≡ length g.parts = s.facts_long in
    record {
      rows_long = stepped_rows_long g fresh j h ∙ s.rows_long;
      facts_long = ap length (stepped_facts g fresh j h) ∙ (length-set h.facts j _ ∙ s.facts_long);
      counted = step_counted g net fresh j lj h s.rows_long s.facts_long s.counted;
      facts_done = λ i d. ap (λ (fs : List Facts). facts_at fs i) (stepped_facts g fresh j h)
          ∙ cond_both (i == j) 0 0 (λ (_ : ℕ). facts_at (slice_set h.facts j (facts_at fresh j)) i ≡ facts_at fresh i)
          (λ e. let q : i ≡ j = eqb-true i j e in
          ap (λ (k : ℕ). facts_at (slice_set h.facts j (facts_at fresh j)) k) q ∙ (get_or-set_same h.facts j _ no_facts (omega arith) ∙ ap (λ (k : ℕ). facts_at fresh k) (sym q)))
          (λ e. get_or-set_other h.facts j i _ no_facts (eqb-false i j e) ∙ ⊎_elim (λ q. absurd (eqb-false i j e q)) (λ b. s.facts_done i b) d);
      settled = λ i d. ⊎_elim
          (λ q.
          let row : row_at (stepped g fresh j h).rows j ≡ record (row_at h.rows j) { status = next_status g fresh j h }
          = step_row g fresh j h j (sym (net.mirror j j lj lj) ∙ none _ (λ b. new (before j b))) ∙ get_or-set_same h.rows j _ no_row (omega arith) in
          let here : (row_at (stepped g fresh j h).rows j).status ≡ status_of_row (part_at g j) (facts_at fresh j) (row_at (stepped g fresh j h).rows j)
          = ap (λ (r : Row). r.status) row ∙ sym (ap (λ (r : Row). status_of_row (part_at g j) (facts_at fresh j) r) row) in
          ap (λ (k : ℕ). (row_at (stepped g fresh j h).rows k).status) q ∙ (here ∙ ap (λ (k : ℕ). status_of_row (part_at g k) (facts_at fresh k) (row_at (stepped g fresh j h).rows k)) (sym q)))
          (λ b.
          let without : ¬ (i ≡ j) = λ (q : i ≡ j). new (rw (← q) b) in
          let row : row_at (stepped g fresh j h).rows i ≡ row_at h.rows i
          = step_row g fresh j h i (sym (net.mirror i j (s.inside i b) lj) ∙ none _ (λ w. new (s.closed i j b w))) ∙ get_or-set_other h.rows j i _ no_row without in
          ap (λ (r : Row). r.status) row ∙ (s.settled i b ∙ sym (ap (λ (r : Row). status_of_row (part_at g i) (facts_at fresh i) r) row)))
          d;
      closed = λ i k d w. ⊎_elim (λ q. inr (before k (rw (← q) w))) (λ b. inr (s.closed i k b w)) d;
      inside = λ i d. ⊎_elim (λ q. omega arith) (λ b. s.inside i b) d;
    }

pub passed_sound : (g : JobGraph) → IsJobGraph g → (fresh : List Facts) (js : List ℕ) (done : ℕ → Type 0) (h : PassState) → ComeInOrder g done js → Sound g fresh done h → Sound g fresh (λ i. HasCome done js i) (passed g fresh js h)
passed_sound g net fresh [] done h o s = s
passed_sound g net fresh (j ∷ js) done h o s =
    passed_sound g net fresh js (λ i. (i ≡ j) ⊎ done i) (stepped g fresh j h) o.3 (step_sound g net fresh done h s j o.0 o.1 o.2)

-- from rows whose numbers are right, the pass gives the rows of the new facts
pub final_sound : (g : JobGraph) → IsJobGraph g → (fresh : List Facts) (h after : PassState) → length h.rows ≡ length g.parts → length h.facts ≡ length g.parts → AreCounted g h.facts h.rows
    → after ≡ passed g fresh g.order h → Sound g fresh (λ i. HasCome (λ _. ⊥) g.order i) after
final_sound g net fresh h after rl fl c e =
    rw e (passed_sound g net fresh g.order (λ _. ⊥) h (in_order g net) (record { rows_long = rl; facts_long = fl; counted = c; facts_done = λ i d. absurd d; settled = λ i d. absurd d; closed = λ i k d w. absurd d; inside = λ i d. absurd d }))

pub final_facts : (g : JobGraph) → IsJobGraph g → (fresh : List Facts) (h after : PassState) → length fresh ≡ length g.parts → length h.rows ≡ length g.parts → length h.facts ≡ length g.parts
    → after ≡ passed g fresh g.order h → AreCounted g h.facts h.rows → after.facts ≡ fresh
final_facts g net fresh h after ll rl fl e c =
    let s : Sound g fresh (λ (i : ℕ). HasCome (λ _. ⊥) g.order i) after = final_sound g net fresh h after rl fl c e in
    let long : length after.facts ≡ length g.parts = s.facts_long in
    ext_get_or no_facts after.facts fresh (omega arith) (λ i b. s.facts_done i (all_come g net i (omega arith)))

pub final_rows : (g : JobGraph) → IsJobGraph g → (fresh : List Facts) (h after : PassState) → length h.rows ≡ length g.parts → length h.facts ≡ length g.parts
    → after ≡ passed g fresh g.order h → AreCounted g h.facts h.rows → AreCountedRows g after.facts after.rows
final_rows g net fresh h after rl fl e c =
    let s : Sound g fresh (λ (i : ℕ). HasCome (λ _. ⊥) g.order i) after = final_sound g net fresh h after rl fl c e in
    record {
      counted = s.counted;
      settled = λ i b. s.settled i (all_come g net i b) ∙ ap (λ (f : Facts). status_of_row (part_at g i) f (row_at after.rows i)) (sym (s.facts_done i (all_come g net i b)));
    }
