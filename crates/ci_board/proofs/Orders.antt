-- The order, as the pass goes along it.
use Rattle.std.proofs.Common.{◌≡◌, ◌⊎◌, ℕ, ◌+◌, ◌<◌, ◌≤◌, ◌==◌, List, [], ◌∷◌, ◌++◌, length, take, refl, sym, ap, ◌∙◌, arith, ⊎_elim, inl, inr, append_assoc, length-append}
use Rattle.std.proofs.lemmas.List.{take_at, get_or_at}
use Rattle.ci_board.specs.Prelude.{number_at, times, JobGraph, IsJobGraph, predecessors_of}
use Rattle.ci_graph.proofs.Counts.{times_here, times_more, times_cases, tally-append}

-- each position comes after its predecessors, where those of done have come; no position comes twice
abbrev pub ComeInOrder : JobGraph → (ℕ → Type 0) → List ℕ → Type 0
ComeInOrder g done [] = Unit {0}
ComeInOrder g done (j ∷ js) = ((i : ℕ) → 0 < times i (predecessors_of g j) → done i) × (done j → ⊥) × (j < length g.parts) × ComeInOrder g (λ i. (i ≡ j) ⊎ done i) js

abbrev pub HasCome : (ℕ → Type 0) → List ℕ → ℕ → Type 0
HasCome done [] i = done i
HasCome done (j ∷ js) i = HasCome (λ k. (k ≡ j) ⊎ done k) js i

pushed_cases : (i j : ℕ) (pre : List ℕ) → 0 < times i (pre ++ j ∷ []) → (i ≡ j) ⊎ (0 < times i pre)
pushed_cases i j [] l = ⊎_elim (λ (e : j ≡ i). inl (sym e)) (λ (m : 0 < times i []). absurd (omega arith)) (times_cases i j [] l)
pushed_cases i j (x ∷ pre) l = ⊎_elim
    (λ (e : x ≡ i). inr (let h : 0 < times x (x ∷ pre) = times_here x pre in let q : times x (x ∷ pre) ≡ times i (x ∷ pre) = ap (λ (y : ℕ). times y (x ∷ pre)) e in omega arith))
    (λ (m : 0 < times i (pre ++ j ∷ [])). ⊎_elim (λ (q : i ≡ j). inl q) (λ (w : 0 < times i pre). inr (let g : times i pre ≤ times i (x ∷ pre) = times_more i x pre in omega arith)) (pushed_cases i j pre m))
    (times_cases i x (pre ++ j ∷ []) l)

from_here : (g : JobGraph) → IsJobGraph g → (js pre : List ℕ) (done : ℕ → Type 0) → g.order ≡ pre ++ js
    → ((i : ℕ) → 0 < times i pre → done i) → ((i : ℕ) → done i → 0 < times i pre) → ComeInOrder g done js
from_here g net [] pre done e a b = tt
from_here g net (j ∷ js) pre done e a b =
    let long : length pre < length g.order = rw e (rw (length-append pre (j ∷ js)) (omega arith)) in
    let here : number_at g.order (length pre) ≡ j = rw e (get_or_at pre j js 0 (length pre) refl) in
    let taken : take (length pre) g.order ≡ pre = rw e (take_at pre (j ∷ js) (length pre) refl) in
    let low : j < length g.parts = rw (← here) (net.ordered.inside (length pre) long) in
    let all : times j g.order ≡ times j pre + times j (j ∷ js) = rw e (tally-append (λ x. x == j) pre (j ∷ js)) in
    let once_here : times j g.order ≡ 1 = net.ordered.each_once j low in
    let some : 0 < times j (j ∷ js) = times_here j js in (
      (λ i l. a i (rw taken at (net.ordered.before (length pre) i long (rw here l)))),
      (λ d. let m : 0 < times j pre = b j d in omega arith),
      low,
      from_here g net js (pre ++ j ∷ []) (λ i. (i ≡ j) ⊎ done i) (e ∙ sym (append_assoc pre (j ∷ []) js))
          (λ i l. ⊎_elim (λ (q : i ≡ j). inl q) (λ (m : 0 < times i pre). inr (a i m)) (pushed_cases i j pre l))
          (λ i d. let p : times i (pre ++ j ∷ []) ≡ times i pre + times i (j ∷ []) = tally-append (λ x. x == i) pre (j ∷ []) in
          ⊎_elim
          (λ (q : i ≡ j). let h : 0 < times j (j ∷ []) = times_here j [] in let k : 0 < times i (j ∷ []) = rw q h in omega arith)
          (λ (m : done i). let w : 0 < times i pre = b i m in omega arith) d),
    )

pub in_order : (g : JobGraph) → IsJobGraph g → ComeInOrder g (λ _. ⊥) g.order
in_order g net = from_here g net g.order [] (λ _. ⊥) refl (λ i l. absurd (omega arith)) (λ i d. absurd d)

comes : (js : List ℕ) (done : ℕ → Type 0) (i : ℕ) → done i ⊎ (0 < times i js) → HasCome done js i
comes [] done i d = ⊎_elim (λ (x : done i). x) (λ (l : 0 < times i []). absurd (omega arith)) d
comes (j ∷ js) done i d = comes js (λ k. (k ≡ j) ⊎ done k) i
    (⊎_elim (λ (x : done i). inl (inr x))
    (λ (l : 0 < times i (j ∷ js)). ⊎_elim (λ (e : j ≡ i). inl (inl (sym e))) (λ (m : 0 < times i js). inr m) (times_cases i j js l)) d)

pub all_come : (g : JobGraph) → IsJobGraph g → (i : ℕ) → i < length g.parts → HasCome (λ _. ⊥) g.order i
all_come g net i l = comes g.order (λ _. ⊥) i (inr (let e : times i g.order ≡ 1 = net.ordered.each_once i l in omega arith))
