-- The records that rows are read as.
use Rattle.std.proofs.Common.{◌≡◌, ℕ, [], ◌∷◌, length, Option, Some, None, Result, Ok, Err, IfOk, ◌≢◌, MatchOption, refl, arith}
use Rattle.ci_store.specs.Prelude.{Value, Null, or_null, Row, column}
use Rattle.ci_store.specs.declared.fault.StoreFault.{StoreFault}
use Rattle.ci_store_rows.specs.Prelude.{number}

pub row3 : (row : Row) → length row ≡ 3 → row ≡ column row 0 ∷ column row 1 ∷ column row 2 ∷ []
row3 (a ∷ b ∷ c ∷ []) is = refl
row3 row is = absurd (omega (arith, is))

pub row7 : (row : Row) → length row ≡ 7 → row ≡ column row 0 ∷ column row 1 ∷ column row 2 ∷ column row 3 ∷ column row 4 ∷ column row 5 ∷ column row 6 ∷ []
row7 (a ∷ b ∷ c ∷ d ∷ e ∷ f ∷ g ∷ []) is = refl
row7 row is = absurd (omega (arith, is))

pub row9 : (row : Row) → length row ≡ 9 → row ≡ column row 0 ∷ column row 1 ∷ column row 2 ∷ column row 3 ∷ column row 4 ∷ column row 5 ∷ column row 6 ∷ column row 7 ∷ column row 8 ∷ []
row9 (a ∷ b ∷ c ∷ d ∷ e ∷ f ∷ g ∷ h ∷ i ∷ []) is = refl
row9 row is = absurd (omega (arith, is))

pub option_cell : (v : Value) (o : Option ℕ) → MatchOption o (v ≡ Null) (λ n. (v ≢ Null) × (v ≡ number n)) → v ≡ or_null number o
option_cell v None h = h
option_cell v (Some n) h = h.1

-- ---- what is said of a call that ended well

pub if_ok : {A : Type 0} {P Q : A → Type 0} (r : Result A StoreFault) → ((x : A) → P x → Q x) → IfOk r P → IfOk r Q
if_ok (Ok x) f h = f x h
if_ok (Err e) f h = tt

-- what two clauses say of one answer
pub both_ok : {A : Type 0} (P Q : A → Type 0) (r : Result A StoreFault) → IfOk r P → IfOk r Q → IfOk r (λ x. P x × Q x)
both_ok P Q (Ok x) p q = (p, q)
both_ok P Q (Err e) p q = tt
