-- What correcting the successors gives.
use Rattle.std.proofs.Common.{◌≡◌, ℕ, suc, ◌+◌, ◌<◌, ◌≤◌, ◌==◌, ◌^◌, Bool, true, false, List, [], ◌∷◌, length, get_or, refl, sym, ap, ◌∙◌, arith, eqb-true, slice_set, nat_lt}
use Rattle.std.proofs.Math.ListN.{length-set}
use Rattle.std.proofs.lemmas.Bool.{cond_both, eqb-false}
use Rattle.std.proofs.lemmas.List.{get_or-set_same, get_or-set_other}
use Rattle.ci_board.specs.Prelude.{Effect, Effects, Part, Row, times, part_of, row_at, no_row, moved, moved_row, side, corrected}
use Rattle.ci_board.proofs.Tallies.{part_for}

base : (a b : Bool) (x y : ℕ) → x + part_for a 0 ≡ y + part_for b 0 → x ≡ y
base true true x y h = omega arith
base true false x y h = omega arith
base false true x y h = omega arith
base false false x y h = omega arith

-- one correction at s itself
here : (w i : Bool) (x t m : ℕ) → t < 2 ^ 64 → x + part_for i (suc m) ≡ t + part_for w (suc m) → moved x w i + part_for i m ≡ t + part_for w m
here true true x t m l h = omega arith
here false false x t m l h = h
here true false x t m l h = omega arith
here false true x t m l h =
    let k : suc x ≤ t = omega arith in
    cond_both (nat_lt x 18446744073709551615) (x + 1) x (λ y. y + m ≡ t + 0)
    (λ e. omega arith) (λ e. grind arith)

pub corrected_long : (parts : List Part) (was is : Effects) (ss : List ℕ) (rows : List Row) → length (corrected parts was is ss rows) ≡ length rows
corrected_long parts was is [] rows = refl
corrected_long parts was is (s ∷ ss) rows = corrected_long parts was is ss _ ∙ length-set rows s _

pub corrected_status : (parts : List Part) (was is : Effects) (ss : List ℕ) → (n : ℕ) → ((k : ℕ) → k < length ss → get_or ss k 0 < n) → (rows : List Row) → length rows ≡ n → (i : ℕ)
    → (row_at (corrected parts was is ss rows) i).status ≡ (row_at rows i).status
corrected_status parts was is [] n inside rows long i = refl
corrected_status parts was is (s ∷ ss) n inside rows long i =
    let r : Row = moved_row (side was (part_of parts s).gives_needs) (side is (part_of parts s).gives_needs) (row_at rows s) in
    let in_s : s < length rows = let b : s < n = inside 0 (omega arith) in omega arith in
    corrected_status parts was is ss n (λ k b. inside (suc k) (omega arith)) (slice_set rows s r) (length-set rows s r ∙ long) i
    ∙ cond_both (i == s) 0 0 (λ (v : ℕ). (row_at (slice_set rows s r) i).status ≡ (row_at rows i).status)
    (λ e. let q : i ≡ s = eqb-true i s e in
    ap (λ (k : ℕ). (row_at (slice_set rows s r) k).status) q
    ∙ (ap (λ (x : Row). x.status) (get_or-set_same rows s r no_row in_s) ∙ sym (ap (λ (k : ℕ). (row_at rows k).status) q)))
    (λ e. ap (λ (x : Row). x.status) (get_or-set_other rows s i r no_row (eqb-false i s e)))

-- a row that isn't among them stays
pub corrected_other : (parts : List Part) (was is : Effects) (ss : List ℕ) (rows : List Row) (i : ℕ) → times i ss ≡ 0
    → row_at (corrected parts was is ss rows) i ≡ row_at rows i
corrected_other parts was is [] rows i = λ e. refl
corrected_other parts was is (s ∷ ss) rows i =
    let r : Row = moved_row (side was (part_of parts s).gives_needs) (side is (part_of parts s).gives_needs) (row_at rows s) in
    cond_both (s == i) (suc (times i ss)) (times i ss)
    (λ t. t ≡ 0 → row_at (corrected parts was is (s ∷ ss) rows) i ≡ row_at rows i)
    (λ e h. absurd (omega arith))
    (λ e h. corrected_other parts was is ss (slice_set rows s r) i h ∙ get_or-set_other rows s i r no_row (λ q. eqb-false s i e (sym q)))

-- one correction, seen at m
more : (parts : List Part) (was is : Effects) (f : Effect → Bool) (number : Row → ℕ)
    → ((w i : Effect) (r : Row) → number (moved_row w i r) ≡ moved (number r) (f w) (f i))
    → (wanted : ℕ → ℕ) (s : ℕ) (ss : List ℕ) (rows : List Row) (m : ℕ) → wanted m < 2 ^ 64 → s < length rows
    → number (row_at rows m) + part_for (f (side is (part_of parts m).gives_needs)) (times m (s ∷ ss)) ≡ wanted m + part_for (f (side was (part_of parts m).gives_needs)) (times m (s ∷ ss))
    → number (row_at (slice_set rows s (moved_row (side was (part_of parts s).gives_needs) (side is (part_of parts s).gives_needs) (row_at rows s))) m) + part_for (f (side is (part_of parts m).gives_needs)) (times m ss)
    ≡ wanted m + part_for (f (side was (part_of parts m).gives_needs)) (times m ss)
more parts was is f number moves wanted s ss rows m small in_s =
    let r : Row = moved_row (side was (part_of parts s).gives_needs) (side is (part_of parts s).gives_needs) (row_at rows s) in
    let w : Bool = f (side was (part_of parts m).gives_needs) in
    let i : Bool = f (side is (part_of parts m).gives_needs) in
    cond_both (s == m) (suc (times m ss)) (times m ss)
    (λ t. number (row_at rows m) + part_for i t ≡ wanted m + part_for w t → number (row_at (slice_set rows s r) m) + part_for i (times m ss) ≡ wanted m + part_for w (times m ss))
    (λ e h. let q : s ≡ m = eqb-true s m e in
    ap (λ (x : ℕ). x + part_for i (times m ss))
    (ap (λ (k : ℕ). number (row_at (slice_set rows s r) k)) (sym q)
    ∙ (ap number (get_or-set_same rows s r no_row in_s)
    ∙ (moves (side was (part_of parts s).gives_needs) (side is (part_of parts s).gives_needs) (row_at rows s)
    ∙ ap (λ (k : ℕ). moved (number (row_at rows k)) (f (side was (part_of parts k).gives_needs)) (f (side is (part_of parts k).gives_needs))) q)))
    ∙ here w i (number (row_at rows m)) (wanted m) (times m ss) small h)
    (λ e h. ap (λ (x : Row). number x + part_for i (times m ss)) (get_or-set_other rows s m r no_row (λ q. eqb-false s m e (sym q))) ∙ h)

-- a number of each row is as wanted after all corrections, if the times that are left make up for what is missing
pub corrected_number : (parts : List Part) (was is : Effects) (f : Effect → Bool) (number : Row → ℕ)
    → ((w i : Effect) (r : Row) → number (moved_row w i r) ≡ moved (number r) (f w) (f i))
    → (wanted : ℕ → ℕ) (n : ℕ) → ((i : ℕ) → i < n → wanted i < 2 ^ 64)
    → (ss : List ℕ) → ((k : ℕ) → k < length ss → get_or ss k 0 < n)
    → (rows : List Row) → length rows ≡ n
    → ((i : ℕ) → i < n → number (row_at rows i) + part_for (f (side is (part_of parts i).gives_needs)) (times i ss) ≡ wanted i + part_for (f (side was (part_of parts i).gives_needs)) (times i ss))
    → (i : ℕ) → i < n → number (row_at (corrected parts was is ss rows) i) ≡ wanted i
corrected_number parts was is f number moves wanted n small [] inside rows long h i l = base _ _ _ _ (h i l)
corrected_number parts was is f number moves wanted n small (s ∷ ss) inside rows long h i l =
    let r : Row = moved_row (side was (part_of parts s).gives_needs) (side is (part_of parts s).gives_needs) (row_at rows s) in
    let in_s : s < n = inside 0 (omega arith) in
    corrected_number parts was is f number moves wanted n small ss (λ k b. inside (suc k) (omega arith)) (slice_set rows s r) (length-set rows s r ∙ long)
    (λ m b. let hm = h m b in more parts was is f number moves wanted s ss rows m (small m b) (omega arith) hm) i l
