-- What one step of the pass keeps.
use Rattle.std.proofs.Common.{◌≡◌, ℕ, suc, ◌+◌, ◌<◌, ◌≤◌, ◌==◌, ◌^◌, Bool, true, false, cond, not, ◌&&◌, List, [], ◌∷◌, length, get_or, refl, sym, ap, ◌∙◌, arith, eqb-true, slice_set}
use Rattle.std.proofs.Math.ListN.{length-set}
use Rattle.std.proofs.lemmas.Bool.{cond_both, eqb-false}
use Rattle.std.proofs.lemmas.List.{get_or-set_same, get_or-set_other}
use Rattle.ci_board.specs.Prelude.{Effect, Effects, Facts, Row, Status, effect, tally, times, JobGraph, IsJobGraph, part_at, predecessors_of, successors_of, facts_at, row_at}
use Rattle.ci_board.specs.Prelude.{no_row, no_facts, PassState, moved, moved_row, side, corrected, both, differs, same_effect, was, is, put, stepped, next_status}
use Rattle.ci_board.proofs.Counted.{effect_at}
use Rattle.ci_board.proofs.Tallies.{part_for, tally-le, tally_moved}
use Rattle.ci_board.proofs.Corrects.{corrected_long, corrected_status, corrected_number}

tally_same : (p q : ℕ → Bool) → ((x : ℕ) → p x ≡ q x) → (xs : List ℕ) → tally p xs ≡ tally q xs
tally_same p q h [] = refl
tally_same p q h (x ∷ xs) = ap (λ (b : Bool). cond b (suc (tally p xs)) (tally p xs)) (h x) ∙ ap (λ (n : ℕ). cond (q x) (suc n) n) (tally_same p q h xs)

pub side_is : (g : JobGraph) (facts : List Facts) (s : Status) (j : ℕ) (b : Bool) → side (both g facts s j) b ≡ effect (part_at g j) (facts_at facts j) b s
side_is g facts s j true = refl
side_is g facts s j false = refl

and_parts : (a b : Bool) → not (a && b) ≡ false → (a ≡ true) × (b ≡ true)
and_parts true true e = (refl, refl)
and_parts true false e = absurd (cc)
and_parts false true e = absurd (cc)
and_parts false false e = absurd (cc)

same_sides : (a b : Effects) → differs a b ≡ false → (needs : Bool) → same_effect (side a needs) (side b needs) ≡ true
same_sides a b e true = (and_parts _ _ e).0
same_sides a b e false = (and_parts _ _ e).1

pub stepped_rows_long : (g : JobGraph) (fresh : List Facts) (j : ℕ) (h : PassState) → length (stepped g fresh j h).rows ≡ length h.rows
stepped_rows_long g fresh j h =
    cond_both (differs (was g j h) (is g fresh j h))
    (record { facts = (put g fresh j h).facts; rows = corrected g.parts (was g j h) (is g fresh j h) (successors_of g j) (put g fresh j h).rows; meter = h.meter + length (successors_of g j) })
    (put g fresh j h) (λ (x : PassState). length x.rows ≡ length h.rows)
    (λ e. corrected_long g.parts (was g j h) (is g fresh j h) (successors_of g j) (put g fresh j h).rows ∙ length-set h.rows j _)
    (λ e. length-set h.rows j _)

pub stepped_facts : (g : JobGraph) (fresh : List Facts) (j : ℕ) (h : PassState) → (stepped g fresh j h).facts ≡ slice_set h.facts j (facts_at fresh j)
stepped_facts g fresh j h =
    cond_both (differs (was g j h) (is g fresh j h))
    (record { facts = (put g fresh j h).facts; rows = corrected g.parts (was g j h) (is g fresh j h) (successors_of g j) (put g fresh j h).rows; meter = h.meter + length (successors_of g j) })
    (put g fresh j h) (λ (x : PassState). x.facts ≡ slice_set h.facts j (facts_at fresh j))
    (λ e. refl) (λ e. refl)

-- the effects before and after, of j and of others
effect_other : (g : JobGraph) (fresh : List Facts) (j : ℕ) (h : PassState) (needs : Bool) (x : ℕ) → (x == j) ≡ false
    → effect_at g h.facts h.rows needs x ≡ effect_at g (put g fresh j h).facts (put g fresh j h).rows needs x
effect_other g fresh j h needs x e =
    sym (ap (λ (f : Facts). effect (part_at g x) f needs (row_at (put g fresh j h).rows x).status) (get_or-set_other h.facts j x (facts_at fresh j) no_facts (eqb-false x j e))
    ∙ ap (λ (r : Row). effect (part_at g x) (facts_at h.facts x) needs r.status) (get_or-set_other h.rows j x _ no_row (eqb-false x j e)))

effect_here : (g : JobGraph) (fresh : List Facts) (j : ℕ) (h : PassState) (needs : Bool) → j < length h.rows → j < length h.facts
    → effect_at g (put g fresh j h).facts (put g fresh j h).rows needs j ≡ side (is g fresh j h) needs
effect_here g fresh j h needs l m =
    (ap (λ (f : Facts). effect (part_at g j) f needs (row_at (put g fresh j h).rows j).status) (get_or-set_same h.facts j (facts_at fresh j) no_facts m)
    ∙ ap (λ (r : Row). effect (part_at g j) (facts_at fresh j) needs r.status) (get_or-set_same h.rows j _ no_row l))
    ∙ sym (side_is g fresh (next_status g fresh j h) j needs)

put_number : (g : JobGraph) (fresh : List Facts) (j : ℕ) (h : PassState) (number : Row → ℕ) → ((r : Row) (s : Status) → number (record r { status = s }) ≡ number r) → j < length h.rows
    → (i : ℕ) → number (row_at (put g fresh j h).rows i) ≡ number (row_at h.rows i)
put_number g fresh j h number keeps l i =
    cond_both (i == j) 0 0 (λ (v : ℕ). number (row_at (put g fresh j h).rows i) ≡ number (row_at h.rows i))
    (λ e. let q : i ≡ j = eqb-true i j e in
    ap (λ (k : ℕ). number (row_at (put g fresh j h).rows k)) q
    ∙ (ap number (get_or-set_same h.rows j _ no_row l) ∙ (keeps (row_at h.rows j) (next_status g fresh j h) ∙ sym (ap (λ (k : ℕ). number (row_at h.rows k)) q))))
    (λ e. ap number (get_or-set_other h.rows j i _ no_row (eqb-false i j e)))

pub stepped_number : (g : JobGraph) → IsJobGraph g → (fresh : List Facts) (j : ℕ) → j < length g.parts → (h : PassState) → length h.rows ≡ length g.parts → length h.facts ≡ length g.parts
    → (f : Effect → Bool) (number : Row → ℕ)
    → ((w i : Effect) (r : Row) → number (moved_row w i r) ≡ moved (number r) (f w) (f i))
    → ((r : Row) (s : Status) → number (record r { status = s }) ≡ number r)
    → ((a b : Effect) → same_effect a b ≡ true → f a ≡ f b)
    → ((i : ℕ) → i < length g.parts → number (row_at h.rows i) ≡ tally (λ p. f (effect_at g h.facts h.rows (part_at g i).gives_needs p)) (predecessors_of g i))
    → (i : ℕ) → i < length g.parts
    → number (row_at (stepped g fresh j h).rows i) ≡ tally (λ p. f (effect_at g (stepped g fresh j h).facts (stepped g fresh j h).rows (part_at g i).gives_needs p)) (predecessors_of g i)
stepped_number g net fresh j lj h rl fl f number moves keeps same counted i li =
    let w : Effects = was g j h in
    let v : Effects = is g fresh j h in
    let after : PassState = put g fresh j h in
    let rows2 : List Row = corrected g.parts w v (successors_of g j) after.rows in
    let al : length after.rows ≡ length g.parts = length-set h.rows j _ ∙ rl in
    let wanted : ℕ → ℕ = λ (k : ℕ). tally (λ (p : ℕ). f (effect_at g after.facts after.rows (part_at g k).gives_needs p)) (predecessors_of g k) in
    let inside : (k : ℕ) → k < length (successors_of g j) → get_or (successors_of g j) k 0 < length g.parts = λ (k : ℕ) (b : k < length (successors_of g j)). net.inside j k lj b in
    cond_both (differs w v)
    (record { facts = after.facts; rows = rows2; meter = h.meter + length (successors_of g j) })
    after (λ (x : PassState). number (row_at x.rows i) ≡ tally (λ (p : ℕ). f (effect_at g x.facts x.rows (part_at g i).gives_needs p)) (predecessors_of g i))
    (λ e. corrected_number g.parts w v f number moves wanted (length g.parts)
    (λ k b. let t : wanted k ≤ length (predecessors_of g k) = tally-le _ (predecessors_of g k) in let s : length (predecessors_of g k) < 2 ^ 64 = net.small k b in omega arith)
    (successors_of g j) inside after.rows al
    (λ k b.
    let p : ℕ → Bool = λ (x : ℕ). f (effect_at g h.facts h.rows (part_at g k).gives_needs x) in
    let q : ℕ → Bool = λ (x : ℕ). f (effect_at g after.facts after.rows (part_at g k).gives_needs x) in
    let t : tally p (predecessors_of g k) + part_for (q j) (times j (predecessors_of g k)) ≡ tally q (predecessors_of g k) + part_for (p j) (times j (predecessors_of g k))
    = tally_moved p q j (λ x d. ap f (effect_other g fresh j h (part_at g k).gives_needs x d)) (predecessors_of g k) in
    let m : times j (predecessors_of g k) ≡ times k (successors_of g j) = net.mirror k j b lj in
    let here : q j ≡ f (side v (part_at g k).gives_needs) = ap f (effect_here g fresh j h (part_at g k).gives_needs (omega arith) (omega arith)) in
    let there : p j ≡ f (side w (part_at g k).gives_needs) = ap f (sym (side_is g h.facts (row_at h.rows j).status j (part_at g k).gives_needs)) in
    let n0 : number (row_at after.rows k) ≡ tally p (predecessors_of g k) = put_number g fresh j h number keeps (omega arith) k ∙ counted k b in
    rw (n0, ← here, ← there, ← m) t)
    i li
    ∙ tally_same _ _ (λ x. ap (λ (s : Status). f (effect (part_at g x) (facts_at after.facts x) (part_at g i).gives_needs s)) (sym (corrected_status g.parts w v (successors_of g j) (length g.parts) inside after.rows al x))) (predecessors_of g i))
    (λ e. put_number g fresh j h number keeps (omega arith) i ∙ (counted i li ∙ tally_same _ _
    (λ x. cond_both (x == j) 0 0 (λ (_ : ℕ). f (effect_at g h.facts h.rows (part_at g i).gives_needs x) ≡ f (effect_at g after.facts after.rows (part_at g i).gives_needs x))
    (λ d. let q : x ≡ j = eqb-true x j d in
    ap (λ (y : ℕ). f (effect_at g h.facts h.rows (part_at g i).gives_needs y)) q
    ∙ (ap f (sym (side_is g h.facts (row_at h.rows j).status j (part_at g i).gives_needs))
    ∙ (same _ _ (same_sides w v e (part_at g i).gives_needs)
    ∙ (ap f (sym (effect_here g fresh j h (part_at g i).gives_needs (omega arith) (omega arith)))
    ∙ sym (ap (λ (y : ℕ). f (effect_at g after.facts after.rows (part_at g i).gives_needs y)) q)))))
    (λ d. ap f (effect_other g fresh j h (part_at g i).gives_needs x d)))
    (predecessors_of g i)))
