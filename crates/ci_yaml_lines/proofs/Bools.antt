-- Tests and their values.
use Rattle.std.proofs.Common.{◌≡◌, ℕ, ◌<◌, ◌⊎◌, Bool, true, false, refl, arith, inl, inr, nat_le, ◌==◌, ◌&&◌, ◌||◌}
use Rattle.std.proofs.lemmas.Bool.{cases_lt, lt-leb, eq-eqb, ne_eqb}

pub le-false : (a b : ℕ) → b < a → nat_le a b ≡ false
le-false a b h = lt-leb a b h

pub eq-false : (a b : ℕ) → (a ≡ b → ⊥) → (a == b) ≡ false
eq-false a b ne = ne_eqb a b ne

pub eqb-refl : (x : ℕ) → (x == x) ≡ true
eqb-refl x = eq-eqb x x refl

pub eq-true : (a b : ℕ) → a ≡ b → (a == b) ≡ true
eq-true a b e = eq-eqb a b e

pub or_false : (a : Bool) → (a || false) ≡ a
or_false true = refl
or_false false = refl

pub and_true : (a : Bool) → (a && true) ≡ a
and_true true = refl
and_true false = refl

pub cases_order : (a b : ℕ) → ((a < b) ⊎ (a ≡ b)) ⊎ (b < a)
cases_order a b = elim (cases_lt a b) [
  | inl lt ↦ inl (inl lt)
  | inr le ↦ elim (cases_lt b a) [ inl lt ↦ inr lt | inr le' ↦ inl (inr (omega arith)) ]
]
