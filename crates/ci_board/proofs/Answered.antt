-- The positions that are answered.
use Rattle.std.proofs.Common.{◌≡◌, ℕ, zero, suc, ◌+◌, ◌==◌, Bool, true, false, ◌||◌, ◌&&◌, List, [], ◌∷◌, length, refl, sym, ap, ◌∙◌, arith, eqb-true, slice_set}
use Rattle.std.proofs.lemmas.Bool.{cond_both, eqb-false}
use Rattle.std.proofs.lemmas.List.{get_or-set_other}
use Rattle.ci_board.specs.Prelude.{Facts, Row, FactsChange, Status, is_among, status_number, facts_at, row_at, no_facts, replaced, is_named, is_touched, differing, same_row}

or_parts : (a b : Bool) → (a || b) ≡ false → (a ≡ false) × (b ≡ false)
or_parts false false e = (refl, refl)
or_parts true b e = absurd (cc)
or_parts false true e = absurd (cc)

and_first : (a b : Bool) → (a && b) ≡ true → a ≡ true
and_first true b e = refl
and_first false b e = absurd (cc)

pub replaced_other : (cs : List FactsChange) (fs : List Facts) (i : ℕ) → is_named cs i ≡ false → facts_at (replaced cs fs) i ≡ facts_at fs i
replaced_other [] fs i e = refl
replaced_other (c ∷ cs) fs i e =
    let b : ((c.position == i) ≡ false) × (is_named cs i ≡ false) = or_parts (c.position == i) (is_named cs i) e in
    replaced_other cs (slice_set fs c.position c.facts) i b.1 ∙ get_or-set_other fs c.position i c.facts no_facts (λ q. eqb-false c.position i b.0 (sym q))

abbrev of_number : ℕ → Status
of_number zero = Status.Created
of_number (suc zero) = Status.Pending
of_number (suc (suc zero)) = Status.Running
of_number (suc (suc (suc zero))) = Status.Success
of_number (suc (suc (suc (suc zero)))) = Status.Failed
of_number (suc (suc (suc (suc (suc zero))))) = Status.Canceled
of_number (suc (suc (suc (suc (suc (suc zero)))))) = Status.Skipped
of_number (suc (suc (suc (suc (suc (suc (suc n))))))) = Status.Manual

of_its_number : (s : Status) → of_number (status_number s) ≡ s
of_its_number Status.Created = refl
of_its_number Status.Pending = refl
of_its_number Status.Running = refl
of_its_number Status.Success = refl
of_its_number Status.Failed = refl
of_its_number Status.Canceled = refl
of_its_number Status.Skipped = refl
of_its_number Status.Manual = refl

pub same_status : (a b : Row) → same_row a b ≡ true → b.status ≡ a.status
same_status a b e =
    let n : status_number a.status ≡ status_number b.status = eqb-true (status_number a.status) (status_number b.status) (and_first _ _ e) in
    sym (of_its_number b.status) ∙ (ap of_number (sym n) ∙ of_its_number a.status)

pub differing_status : (olds rows : List Row) (k i m : ℕ) → length olds ≡ length rows → m ≡ k + i → is_among (differing k olds rows) m ≡ false → (row_at rows i).status ≡ (row_at olds i).status
differing_status [] [] k i m l q = λ e. refl
differing_status [] (b ∷ rows) k i m l q = absurd (omega arith)
differing_status (a ∷ olds) [] k i m l q = absurd (omega arith)
differing_status (a ∷ olds) (b ∷ rows) k zero m l q =
    cond_both (same_row a b) (differing (k + 1) olds rows) (k ∷ differing (k + 1) olds rows)
    (λ (xs : List ℕ). is_among xs m ≡ false → b.status ≡ a.status)
    (λ s e. same_status a b s)
    (λ s e. absurd (eqb-false k m (or_parts (k == m) (is_among (differing (k + 1) olds rows) m) e).0 (omega arith)))
differing_status (a ∷ olds) (b ∷ rows) k (suc i) m l q =
    cond_both (same_row a b) (differing (k + 1) olds rows) (k ∷ differing (k + 1) olds rows)
    (λ (xs : List ℕ). is_among xs m ≡ false → (row_at rows i).status ≡ (row_at olds i).status)
    (λ s e. differing_status olds rows (k + 1) i m (omega arith) (omega arith) e)
    (λ s e. differing_status olds rows (k + 1) i m (omega arith) (omega arith) (or_parts (k == m) (is_among (differing (k + 1) olds rows) m) e).1)

pub touched_facts : (changes : List FactsChange) (answer : List ℕ) (old : List Facts) (i : ℕ) → is_touched changes answer i ≡ false → facts_at (replaced changes old) i ≡ facts_at old i
touched_facts changes answer old i e = replaced_other changes old i (or_parts (is_named changes i) (is_among answer i) e).0

pub touched_status : (changes : List FactsChange) (answer : List ℕ) (olds rows : List Row) → length olds ≡ length rows → answer ≡ differing 0 olds rows
    → (i : ℕ) → is_touched changes answer i ≡ false → (row_at rows i).status ≡ (row_at olds i).status
touched_status changes answer olds rows l q i e =
    differing_status olds rows 0 i i l (omega arith) (ap (λ (xs : List ℕ). is_among xs i) (sym q) ∙ (or_parts (is_named changes i) (is_among answer i) e).1)
