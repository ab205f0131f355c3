-- A pending job that starts changes no other row: to others both of its statuses are open.
use Rattle.std.proofs.Common.{◌≡◌, ℕ, ◌<◌, ◌==◌, Bool, true, List, length, slice_set, sym, ap, subst, ◌∙◌, eqb-true, Some}
use Rattle.std.proofs.lemmas.Bool.{cond_both, eqb-false, cond-true}
use Rattle.std.proofs.lemmas.List.{get_or-set_same, get_or-set_other}
use Rattle.ci_board.specs.Prelude.{tally, JobGraph, part_at, predecessors_of, Effect, Facts, Row, Status, is_live, effect, is_open, is_fail, is_bar, status_by, status_of_row}
use Rattle.ci_board.specs.Prelude.{idle_by_counts, facts_at, row_at, no_facts, no_row, AreRows}
use Rattle.ci_board.proofs.Counted.{effect_at, AreCountedRows}
use Rattle.ci_board.proofs.Assignments.{assignment_of, counted_of}
use Rattle.ci_board.proofs.Unique.{tally_members}

abbrev running : Row → Row
running r = record r { status = Status.Running }

module _ (g : JobGraph) (facts : List Facts) (rows : List Row) (j : ℕ) (fresh : Facts) (facts_long : j < length facts) (rows_long : j < length rows)
    (pending : (row_at rows j).status ≡ Status.Pending) (live : is_live fresh.last ≡ true) (are : AreCountedRows g facts rows) where
  abbrev now_facts : List Facts
  now_facts = slice_set facts j fresh

  abbrev now_rows : List Row
  now_rows = slice_set rows j (running (row_at rows j))

  row_there : row_at now_rows j ≡ running (row_at rows j)
  row_there = get_or-set_same rows j (running (row_at rows j)) no_row rows_long

  row_elsewhere : (i : ℕ) → (i ≡ j → ⊥) → row_at now_rows i ≡ row_at rows i
  row_elsewhere i d = get_or-set_other rows j i (running (row_at rows j)) no_row d

  facts_elsewhere : (i : ℕ) → (i ≡ j → ⊥) → facts_at now_facts i ≡ facts_at facts i
  facts_elsewhere i d = get_or-set_other facts j i fresh no_facts d

  effects : (needs : Bool) (p : ℕ) → effect_at g now_facts now_rows needs p ≡ effect_at g facts rows needs p
  effects needs p =
      cond_both (p == j) 0 0 (λ (_ : ℕ). effect_at g now_facts now_rows needs p ≡ effect_at g facts rows needs p)
      (λ e. subst (λ (q : ℕ). effect_at g now_facts now_rows needs q ≡ effect_at g facts rows needs q) (sym (eqb-true p j e))
      (ap (λ (r : Row). effect (part_at g j) (facts_at now_facts j) needs r.status) row_there
      ∙ sym (ap (λ (s : Status). effect (part_at g j) (facts_at facts j) needs s) pending)))
      (λ e. ap (λ (r : Row). effect (part_at g p) (facts_at now_facts p) needs r.status) (row_elsewhere p (eqb-false p j e))
      ∙ ap (λ (f : Facts). effect (part_at g p) f needs (row_at rows p).status) (facts_elsewhere p (eqb-false p j e)))

  numbers : (i : ℕ) → ((row_at now_rows i).opens ≡ (row_at rows i).opens) × (((row_at now_rows i).failed ≡ (row_at rows i).failed) × ((row_at now_rows i).barred ≡ (row_at rows i).barred))
  numbers i =
      cond_both (i == j) 0 0 (λ (_ : ℕ). ((row_at now_rows i).opens ≡ (row_at rows i).opens) × (((row_at now_rows i).failed ≡ (row_at rows i).failed) × ((row_at now_rows i).barred ≡ (row_at rows i).barred)))
      (λ e. subst (λ (q : ℕ). ((row_at now_rows q).opens ≡ (row_at rows q).opens) × (((row_at now_rows q).failed ≡ (row_at rows q).failed) × ((row_at now_rows q).barred ≡ (row_at rows q).barred))) (sym (eqb-true i j e))
      (ap (λ (r : Row). r.opens) row_there, (ap (λ (r : Row). r.failed) row_there, ap (λ (r : Row). r.barred) row_there)))
      (λ e. let same = row_elsewhere i (eqb-false i j e) in (ap (λ (r : Row). r.opens) same, (ap (λ (r : Row). r.failed) same, ap (λ (r : Row). r.barred) same)))

  counts : (f : Effect → Bool) (i : ℕ) → tally (λ p. f (effect_at g facts rows (part_at g i).gives_needs p)) (predecessors_of g i) ≡ tally (λ p. f (effect_at g now_facts now_rows (part_at g i).gives_needs p)) (predecessors_of g i)
  counts f i = tally_members _ _ (predecessors_of g i) (λ p _. ap f (sym (effects (part_at g i).gives_needs p)))

  settled_there : Status.Running ≡ status_of_row (part_at g j) (facts_at now_facts j) (row_at now_rows j)
  settled_there =
      sym (ap (λ (f : Facts). status_of_row (part_at g j) f (row_at now_rows j)) (get_or-set_same facts j fresh no_facts facts_long)
      ∙ ap (λ o. status_by o (idle_by_counts (part_at g j) fresh (row_at now_rows j).opens (row_at now_rows j).failed (row_at now_rows j).barred))
      (cond-true (is_live fresh.last) (Some Status.Running) _ live))

  started_counted : AreCountedRows g now_facts now_rows
  started_counted = record {
    counted = λ i l. let c = are.counted i l in record {
      opens = (numbers i).0 ∙ (c.opens ∙ counts is_open i);
      failed = (numbers i).1.0 ∙ (c.failed ∙ counts is_fail i);
      barred = (numbers i).1.1 ∙ (c.barred ∙ counts is_bar i);
    };
    settled = λ i l. cond_both (i == j) 0 0 (λ (_ : ℕ). (row_at now_rows i).status ≡ status_of_row (part_at g i) (facts_at now_facts i) (row_at now_rows i))
        (λ e. subst (λ (q : ℕ). (row_at now_rows q).status ≡ status_of_row (part_at g q) (facts_at now_facts q) (row_at now_rows q)) (sym (eqb-true i j e))
        (ap (λ (r : Row). r.status) row_there ∙ settled_there))
        (λ e. let r = row_elsewhere i (eqb-false i j e) in let f = facts_elsewhere i (eqb-false i j e) in
        ap (λ (w : Row). w.status) r ∙ (are.settled i l
        ∙ sym (ap (λ (w : Row). status_of_row (part_at g i) (facts_at now_facts i) w) r ∙ ap (λ (w : Facts). status_of_row (part_at g i) w (row_at rows i)) f)));
  }

pub started_rows : (g : JobGraph) (facts : List Facts) (rows : List Row) (j : ℕ) (fresh : Facts) → j < length facts → j < length rows → (row_at rows j).status ≡ Status.Pending → is_live fresh.last ≡ true
    → AreRows g facts rows → AreRows g (slice_set facts j fresh) (slice_set rows j (running (row_at rows j)))
started_rows g facts rows j fresh fl rl pending live are =
    assignment_of g _ _ (started_counted g facts rows j fresh fl rl pending live (counted_of g facts rows are))
