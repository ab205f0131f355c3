-- How much the meter grows.
use Rattle.std.proofs.Common.{◌≡◌, ◌⊎◌, ℕ, ◌+◌, ◌<◌, ◌≤◌, Bool, true, false, List, [], ◌∷◌, length, refl, sym, ap, ◌∙◌, arith, inl, inr}
use Rattle.std.proofs.lemmas.Bool.{cond_both}
use Rattle.std.proofs.lemmas.List.{get_or-set_same, get_or-set_other}
use Rattle.ci_board.specs.Prelude.{Effects, Facts, Row, Status, effect, Effect, Good, Fails, Bars, Open, JobGraph, IsJobGraph, part_at, successors_of, facts_at, row_at, no_row}
use Rattle.ci_board.specs.Prelude.{no_facts, degrees, PassState, corrected, both, differs, same_effect, was, is, put, stepped, passed, next_status}
use Rattle.ci_board.proofs.Orders.{ComeInOrder, in_order}
use Rattle.ci_board.proofs.Steps.{stepped_rows_long, stepped_facts}
use Rattle.ci_board.proofs.Whole.{step_status}

same_self : (a : Effect) → same_effect a a ≡ true
same_self Good = refl
same_self Fails = refl
same_self Bars = refl
same_self Open = refl

same_both : (a : Effects) → differs a a ≡ false
same_both a = rw (same_self a.with_needs, same_self a.without) refl

step_meter : (g : JobGraph) (fresh : List Facts) (j : ℕ) (h : PassState) → (stepped g fresh j h).meter ≤ h.meter + length (successors_of g j)
step_meter g fresh j h =
    cond_both (differs (was g j h) (is g fresh j h))
    (record { facts = (put g fresh j h).facts; rows = corrected g.parts (was g j h) (is g fresh j h) (successors_of g j) (put g fresh j h).rows; meter = h.meter + length (successors_of g j) })
    (put g fresh j h) (λ (x : PassState). x.meter ≤ h.meter + length (successors_of g j))
    (λ _. omega arith) (λ _. omega arith)

step_free : (g : JobGraph) (fresh : List Facts) (j : ℕ) (h : PassState) → differs (was g j h) (is g fresh j h) ≡ false → (stepped g fresh j h).meter ≡ h.meter
step_free g fresh j h d =
    cond_both (differs (was g j h) (is g fresh j h))
    (record { facts = (put g fresh j h).facts; rows = corrected g.parts (was g j h) (is g fresh j h) (successors_of g j) (put g fresh j h).rows; meter = h.meter + length (successors_of g j) })
    (put g fresh j h) (λ (x : PassState). x.meter ≡ h.meter)
    (λ e. absurd (cc (e, d))) (λ _. refl)

status_other : (g : JobGraph) → IsJobGraph g → (fresh : List Facts) (j : ℕ) → j < length g.parts → (h : PassState) → length h.rows ≡ length g.parts → (i : ℕ) → ¬ (i ≡ j)
    → (row_at (stepped g fresh j h).rows i).status ≡ (row_at h.rows i).status
status_other g net fresh j lj h rl i n = step_status g net fresh j lj h rl i ∙ ap (λ (r : Row). r.status) (get_or-set_other h.rows j i _ no_row n)

facts_other : (g : JobGraph) (fresh : List Facts) (j : ℕ) (h : PassState) (i : ℕ) → ¬ (i ≡ j) → facts_at (stepped g fresh j h).facts i ≡ facts_at h.facts i
facts_other g fresh j h i n = ap (λ (fs : List Facts). facts_at fs i) (stepped_facts g fresh j h) ∙ get_or-set_other h.facts j i _ no_facts n

status_here : (g : JobGraph) → IsJobGraph g → (fresh : List Facts) (j : ℕ) → j < length g.parts → (h : PassState) → length h.rows ≡ length g.parts
    → (row_at (stepped g fresh j h).rows j).status ≡ next_status g fresh j h
status_here g net fresh j lj h rl = step_status g net fresh j lj h rl j ∙ ap (λ (r : Row). r.status) (get_or-set_same h.rows j _ no_row (omega arith))

-- what has come keeps its status
pub passed_keeps : (g : JobGraph) → IsJobGraph g → (fresh : List Facts) (js : List ℕ) (done : ℕ → Type 0) (h : PassState) → length h.rows ≡ length g.parts → ComeInOrder g done js
    → (i : ℕ) → done i → (row_at (passed g fresh js h).rows i).status ≡ (row_at h.rows i).status
passed_keeps g net fresh [] done h rl o i d = refl
passed_keeps g net fresh (j ∷ js) done h rl o i d =
    passed_keeps g net fresh js (λ k. (k ≡ j) ⊎ done k) (stepped g fresh j h) (stepped_rows_long g fresh j h ∙ rl) o.3 i (inr d)
    ∙ status_other g net fresh j o.2 h rl i (λ q. o.1 (rw (← q) d))

pub passed_meter : (g : JobGraph) → IsJobGraph g → (fresh f0 : List Facts) (r0 : List Row) (t : ℕ → Bool) (js : List ℕ) (done : ℕ → Type 0) (h : PassState) → length h.rows ≡ length g.parts → ComeInOrder g done js
    → ((i : ℕ) → (done i → ⊥) → facts_at h.facts i ≡ facts_at f0 i)
    → ((i : ℕ) → (done i → ⊥) → (row_at h.rows i).status ≡ (row_at r0 i).status)
    → ((i : ℕ) → t i ≡ false → facts_at fresh i ≡ facts_at f0 i)
    → ((i : ℕ) → t i ≡ false → (row_at (passed g fresh js h).rows i).status ≡ (row_at r0 i).status)
    → (passed g fresh js h).meter ≤ h.meter + degrees g t js
passed_meter g net fresh f0 r0 t [] done h rl o hf hr tf tr = omega arith
passed_meter g net fresh f0 r0 t (j ∷ js) done h rl o hf hr tf tr =
    let more : (passed g fresh js (stepped g fresh j h)).meter ≤ (stepped g fresh j h).meter + degrees g t js
    = passed_meter g net fresh f0 r0 t js (λ i. (i ≡ j) ⊎ done i) (stepped g fresh j h) (stepped_rows_long g fresh j h ∙ rl) o.3
    (λ i n. facts_other g fresh j h i (λ q. n (inl q)) ∙ hf i (λ d. n (inr d)))
    (λ i n. status_other g net fresh j o.2 h rl i (λ q. n (inl q)) ∙ hr i (λ d. n (inr d)))
    tf tr in
    cond_both (t j) (length (successors_of g j) + degrees g t js) (degrees g t js)
    (λ (n : ℕ). (passed g fresh js (stepped g fresh j h)).meter ≤ h.meter + n)
    (λ e. let s : (stepped g fresh j h).meter ≤ h.meter + length (successors_of g j) = step_meter g fresh j h in omega arith)
    (λ e.
    let facts : facts_at fresh j ≡ facts_at h.facts j = tf j e ∙ sym (hf j o.1) in
    let status : next_status g fresh j h ≡ (row_at h.rows j).status
    = sym (status_here g net fresh j o.2 h rl)
    ∙ (sym (passed_keeps g net fresh js (λ i. (i ≡ j) ⊎ done i) (stepped g fresh j h) (stepped_rows_long g fresh j h ∙ rl) o.3 j (inl refl))
    ∙ (tr j e ∙ sym (hr j o.1))) in
    let same : is g fresh j h ≡ was g j h
    = ap (λ (f : Facts). record { with_needs = effect (part_at g j) f true (next_status g fresh j h); without = effect (part_at g j) f false (next_status g fresh j h) }) facts
    ∙ ap (λ (s : Status). both g h.facts s j) status in
    let free : (stepped g fresh j h).meter ≡ h.meter = step_free g fresh j h (ap (λ (b : Effects). differs (was g j h) b) same ∙ same_both (was g j h)) in
    omega arith)

pub final_meter : (g : JobGraph) → IsJobGraph g → (fresh : List Facts) (h after : PassState) → length h.rows ≡ length g.parts → after ≡ passed g fresh g.order h
    → (t : ℕ → Bool) → ((i : ℕ) → t i ≡ false → facts_at fresh i ≡ facts_at h.facts i) → ((i : ℕ) → t i ≡ false → (row_at after.rows i).status ≡ (row_at h.rows i).status)
    → after.meter ≤ h.meter + degrees g t g.order
final_meter g net fresh h after rl e t tf tr =
    rw e (passed_meter g net fresh h.facts h.rows t g.order (λ _. ⊥) h rl (in_order g net) (λ i n. refl) (λ i n. refl) tf
    (λ i d. ap (λ (x : PassState). (row_at x.rows i).status) (sym e) ∙ tr i d))
