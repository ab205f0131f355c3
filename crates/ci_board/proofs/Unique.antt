-- The rows of the same facts are the same.
use Rattle.std.proofs.Common.{◌≡◌, ◌⊎◌, ℕ, suc, ◌<◌, ◌==◌, Bool, cond, List, [], ◌∷◌, length, refl, sym, ap, ◌∙◌, arith, ⊎_elim}
use Rattle.std.proofs.lemmas.Bool.{cond_both, eqb-false}
use Rattle.ci_board.specs.Prelude.{Effect, Facts, Row, effect, is_open, is_fail, is_bar, status_of_row, tally, times, JobGraph, IsJobGraph, part_at, predecessors_of, facts_at}
use Rattle.ci_board.specs.Prelude.{row_at}
use Rattle.ci_board.proofs.Counted.{effect_at, AreCountedRows}
use Rattle.ci_board.proofs.Orders.{ComeInOrder, HasCome, in_order, all_come}

pub tally_members : (p q : ℕ → Bool) (xs : List ℕ) → ((x : ℕ) → 0 < times x xs → p x ≡ q x) → tally p xs ≡ tally q xs
tally_members p q [] h = refl
tally_members p q (x ∷ xs) h =
    ap (λ (b : Bool). cond b (suc (tally p xs)) (tally p xs))
    (h x (cond_both (x == x) (suc (times x xs)) (times x xs) (λ (n : ℕ). 0 < n) (λ e. omega arith) (λ e. absurd (eqb-false x x e refl))))
    ∙ ap (λ (n : ℕ). cond (q x) (suc n) n)
    (tally_members p q xs (λ y l. h y (cond_both (x == y) (suc (times y xs)) (times y xs) (λ (n : ℕ). 0 < n) (λ e. omega arith) (λ e. l))))

same_rows : (a b : Row) → a.status ≡ b.status → a.opens ≡ b.opens → a.failed ≡ b.failed → a.barred ≡ b.barred → a ≡ b
same_rows a b s o f w = λ i. record { status = s i; opens = o i; failed = f i; barred = w i }

number_same : (g : JobGraph) (facts : List Facts) (r s : List Row) (f : Effect → Bool) (j : ℕ) → ((i : ℕ) → 0 < times i (predecessors_of g j) → row_at r i ≡ row_at s i)
    → tally (λ p. f (effect_at g facts r (part_at g j).gives_needs p)) (predecessors_of g j) ≡ tally (λ p. f (effect_at g facts s (part_at g j).gives_needs p)) (predecessors_of g j)
number_same g facts r s f j h =
    tally_members _ _ (predecessors_of g j) (λ x l. ap (λ (w : Row). f (effect (part_at g x) (facts_at facts x) (part_at g j).gives_needs w.status)) (h x l))

row_same : (g : JobGraph) (facts : List Facts) (r s : List Row) → AreCountedRows g facts r → AreCountedRows g facts s → (j : ℕ) → j < length g.parts
    → ((i : ℕ) → 0 < times i (predecessors_of g j) → row_at r i ≡ row_at s i) → row_at r j ≡ row_at s j
row_same g facts r s a b j l h =
    let o : (row_at r j).opens ≡ (row_at s j).opens = (a.counted j l).opens ∙ (number_same g facts r s is_open j h ∙ sym (b.counted j l).opens) in
    let f : (row_at r j).failed ≡ (row_at s j).failed = (a.counted j l).failed ∙ (number_same g facts r s is_fail j h ∙ sym (b.counted j l).failed) in
    let w : (row_at r j).barred ≡ (row_at s j).barred = (a.counted j l).barred ∙ (number_same g facts r s is_bar j h ∙ sym (b.counted j l).barred) in
    let same : status_of_row (part_at g j) (facts_at facts j) (row_at r j) ≡ status_of_row (part_at g j) (facts_at facts j) (row_at s j)
    = λ i. status_of_row (part_at g j) (facts_at facts j) (record { status = (row_at r j).status; opens = o i; failed = f i; barred = w i }) in
    same_rows (row_at r j) (row_at s j) (a.settled j l ∙ (same ∙ sym (b.settled j l))) o f w

along : (g : JobGraph) (facts : List Facts) (r s : List Row) → AreCountedRows g facts r → AreCountedRows g facts s → (js : List ℕ) (done : ℕ → Type 0) → ComeInOrder g done js
    → ((i : ℕ) → done i → row_at r i ≡ row_at s i) → (i : ℕ) → HasCome done js i → row_at r i ≡ row_at s i
along g facts r s a b [] done o h i k = h i k
along g facts r s a b (j ∷ js) done o h i k =
    along g facts r s a b js (λ m. (m ≡ j) ⊎ done m) o.3
    (λ m d. ⊎_elim (λ q. ap (λ (n : ℕ). row_at r n) q ∙ (row_same g facts r s a b j o.2 (λ x l. h x (o.0 x l)) ∙ ap (λ (n : ℕ). row_at s n) (sym q))) (λ e. h m e) d)
    i k

pub one_counted : (g : JobGraph) → IsJobGraph g → (facts : List Facts) (r s : List Row) → AreCountedRows g facts r → AreCountedRows g facts s → (i : ℕ) → i < length g.parts → row_at r i ≡ row_at s i
one_counted g net facts r s a b i l = along g facts r s a b g.order (λ _. ⊥) (in_order g net) (λ m d. absurd d) i (all_come g net i l)
