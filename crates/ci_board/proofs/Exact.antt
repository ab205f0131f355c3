-- The answer is exact.
use Rattle.std.proofs.Common.{◌≡◌, ◌↔◌, ℕ, zero, suc, ◌+◌, ◌<◌, ◌≤◌, ◌==◌, Bool, true, false, not, ◌&&◌, List, [], ◌∷◌, length, refl, sym, ap, ◌∙◌, arith, eqb-true, ⊎_elim}
use Rattle.std.proofs.lemmas.Bool.{cond_both, eqb-false, eq-eqb, and_parts, and_from}
use Rattle.ci_board.specs.Prelude.{times, number_at, once, Row, status_number, is_status, row_at, same_row, differing, IsAnswer}
use Rattle.ci_graph.proofs.Counts.{times_same, times_cases, at_times}
use Rattle.ci_board.proofs.Answered.{same_status}

row_same : (a b : Row) → same_row a b ≡ true → a ≡ b
row_same a b e =
    let p : (is_status a.status b.status ≡ true) × (((a.opens == b.opens) && ((a.failed == b.failed) && (a.barred == b.barred))) ≡ true) = and_parts _ _ e in
    let q : ((a.opens == b.opens) ≡ true) × (((a.failed == b.failed) && (a.barred == b.barred)) ≡ true) = and_parts _ _ p.1 in
    let r : ((a.failed == b.failed) ≡ true) × ((a.barred == b.barred) ≡ true) = and_parts _ _ q.1 in
    let s : b.status ≡ a.status = same_status a b e in
    λ i. record { status = sym s i; opens = eqb-true a.opens b.opens q.0 i; failed = eqb-true a.failed b.failed r.0 i; barred = eqb-true a.barred b.barred r.1 i }

same_self : (a : Row) → same_row a a ≡ true
same_self a =
    and_from _ _ (eq-eqb (status_number a.status) (status_number a.status) refl)
    (and_from _ _ (eq-eqb a.opens a.opens refl) (and_from _ _ (eq-eqb a.failed a.failed refl) (eq-eqb a.barred a.barred refl)))

pub row_equal : (a b : Row) → (same_row a b ≡ true) ↔ (a ≡ b)
row_equal a b = (row_same a b, λ e. ap (λ (x : Row). same_row a x) (sym e) ∙ same_self a)

differing_low : (olds rows : List Row) (k i : ℕ) → i < k → times i (differing k olds rows) ≡ 0
differing_low [] rows k i l = refl
differing_low (a ∷ olds) [] k i l = refl
differing_low (a ∷ olds) (b ∷ rows) k i l =
    let r : times i (differing (k + 1) olds rows) ≡ 0 = differing_low olds rows (k + 1) i (omega arith) in
    cond_both (same_row a b) (differing (k + 1) olds rows) (k ∷ differing (k + 1) olds rows) (λ (xs : List ℕ). times i xs ≡ 0)
    (λ e. r) (λ e. times_same i k (differing (k + 1) olds rows) (λ (q : k ≡ i). omega arith) ∙ r)

once_of : (b : Bool) → b ≡ false → once (not b) ≡ 1
once_of b e = ap (λ (t : Bool). once (not t)) e

once_off : (b : Bool) → b ≡ true → once (not b) ≡ 0
once_off b e = ap (λ (t : Bool). once (not t)) e

differing_times : (olds rows : List Row) (k m j : ℕ) → length olds ≡ length rows → m ≡ k + j → j < length rows
    → times m (differing k olds rows) ≡ once (not (same_row (row_at olds j) (row_at rows j)))
differing_times [] [] k m j e q l = absurd (omega arith)
differing_times [] (b ∷ rows) k m j e q l = absurd (omega arith)
differing_times (a ∷ olds) [] k m j e q l = absurd (omega arith)
differing_times (a ∷ olds) (b ∷ rows) k m zero e q l =
    let r : times m (differing (k + 1) olds rows) ≡ 0 = differing_low olds rows (k + 1) m (omega arith) in
    cond_both (same_row a b) (differing (k + 1) olds rows) (k ∷ differing (k + 1) olds rows) (λ (xs : List ℕ). times m xs ≡ once (not (same_row a b)))
    (λ c. r ∙ sym (once_off (same_row a b) c))
    (λ c. cond_both (k == m) (suc (times m (differing (k + 1) olds rows))) (times m (differing (k + 1) olds rows)) (λ (n : ℕ). n ≡ once (not (same_row a b)))
    (λ d. let o : once (not (same_row a b)) ≡ 1 = once_of (same_row a b) c in omega arith)
    (λ d. absurd (eqb-false k m d (omega arith))))
differing_times (a ∷ olds) (b ∷ rows) k m (suc j) e q l =
    let r : times m (differing (k + 1) olds rows) ≡ once (not (same_row (row_at olds j) (row_at rows j))) = differing_times olds rows (k + 1) m j (omega arith) (omega arith) (omega arith) in
    cond_both (same_row a b) (differing (k + 1) olds rows) (k ∷ differing (k + 1) olds rows) (λ (xs : List ℕ). times m xs ≡ once (not (same_row (row_at olds j) (row_at rows j))))
    (λ c. r) (λ c. times_same m k (differing (k + 1) olds rows) (λ (p : k ≡ m). omega arith) ∙ r)

differing_within : (olds rows : List Row) (k i : ℕ) → 0 < times i (differing k olds rows) → i < k + length rows
differing_within [] rows k i = λ l. absurd (omega arith)
differing_within (a ∷ olds) [] k i = λ l. absurd (omega arith)
differing_within (a ∷ olds) (b ∷ rows) k i =
    cond_both (same_row a b) (differing (k + 1) olds rows) (k ∷ differing (k + 1) olds rows) (λ (xs : List ℕ). 0 < times i xs → i < k + suc (length rows))
    (λ e l. let r : i < (k + 1) + length rows = differing_within olds rows (k + 1) i l in omega arith)
    (λ e l. ⊎_elim (λ (q : k ≡ i). omega arith)
    (λ (m : 0 < times i (differing (k + 1) olds rows)). let r : i < (k + 1) + length rows = differing_within olds rows (k + 1) i m in omega arith)
    (times_cases i k (differing (k + 1) olds rows) l))

-- what stands there is at least k
differing_from : (olds rows : List Row) (k n : ℕ) → n < length (differing k olds rows) → k ≤ number_at (differing k olds rows) n
differing_from olds rows k n l = at_least (number_at (differing k olds rows) n) k
    (λ (b : number_at (differing k olds rows) n < k).
    let z : times (number_at (differing k olds rows) n) (differing k olds rows) ≡ 0 = differing_low olds rows k (number_at (differing k olds rows) n) b in
    let s : 0 < times (number_at (differing k olds rows) n) (differing k olds rows) = at_times (differing k olds rows) n l in
    absurd (omega arith))
  where
    at_least : (x k : ℕ) → (x < k → ⊥) → k ≤ x
    at_least x k f = omega arith

differing_rising : (olds rows : List Row) (k i n : ℕ) → i < n → n < length (differing k olds rows) → number_at (differing k olds rows) i < number_at (differing k olds rows) n
differing_rising [] rows k i n l = λ b. absurd (omega arith)
differing_rising (a ∷ olds) [] k i n l = λ b. absurd (omega arith)
differing_rising (a ∷ olds) (b ∷ rows) k i n l =
    cond_both (same_row a b) (differing (k + 1) olds rows) (k ∷ differing (k + 1) olds rows) (λ (xs : List ℕ). n < length xs → number_at xs i < number_at xs n)
    (λ e m. differing_rising olds rows (k + 1) i n l m)
    (λ e m. first_or_rest k (differing (k + 1) olds rows) i n l m (λ x y. differing_from olds rows (k + 1) x y) (λ x y c d. differing_rising olds rows (k + 1) x y c d))
  where
    first_or_rest : (k : ℕ) (xs : List ℕ) (i n : ℕ) → i < n → n < suc (length xs) → ((x : ℕ) → x < length xs → k + 1 ≤ number_at xs x)
        → ((x y : ℕ) → x < y → y < length xs → number_at xs x < number_at xs y) → number_at (k ∷ xs) i < number_at (k ∷ xs) n
    first_or_rest k xs i zero l m f g = absurd (omega arith)
    first_or_rest k xs zero (suc n) l m f g = let h : k + 1 ≤ number_at xs n = f n (omega arith) in omega arith
    first_or_rest k xs (suc i) (suc n) l m f g = g i n (omega arith) (omega arith)

positive : (b : Bool) → 0 < once (not b) → b ≡ true → ⊥
positive true l e = absurd (omega arith)
positive false l e = absurd (cc)

positive_off : (b : Bool) → (b ≡ true → ⊥) → 0 < once (not b)
positive_off true f = absurd (f refl)
positive_off false f = omega arith

pub answer_is : (olds rows : List Row) → length olds ≡ length rows → IsAnswer (differing 0 olds rows) olds rows
answer_is olds rows e = record {
  rising = λ i k l m. differing_rising olds rows 0 i k l m;
  exact = λ j l.
      let t : times j (differing 0 olds rows) ≡ once (not (same_row (row_at olds j) (row_at rows j))) = differing_times olds rows 0 j j e (omega arith) l in (
        (λ m q. positive (same_row (row_at olds j) (row_at rows j)) (rw (← t) m) ((row_equal (row_at olds j) (row_at rows j)).1 q)),
        (λ d. rw t (positive_off (same_row (row_at olds j) (row_at rows j)) (λ s. d ((row_equal (row_at olds j) (row_at rows j)).0 s)))),
      );
  within = λ j m. let r : j < 0 + length rows = differing_within olds rows 0 j m in omega arith;
}

pub answer_of : (answer : List ℕ) (olds rows : List Row) → length olds ≡ length rows → answer ≡ differing 0 olds rows → IsAnswer answer olds rows
answer_of answer olds rows l e = rw e (answer_is olds rows l)
