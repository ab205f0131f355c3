-- The last of a list.
use Rattle.std.proofs.Common.{ℕ, ◌+◌, length, Option, Some, None, MatchOption, option_to_list, ◌≡◌, ◌++◌, List, [], ◌∷◌, refl, ap, sym, arith, ◌∙◌}
use Rattle.std.specs.List.{last_or}

last_behind : {A : Type 0} (d : Option A) (ys : List A) (x : A) → last_or d (ys ++ x ∷ []) ≡ Some x
last_behind d [] x = refl
last_behind d (y ∷ ys) x = last_behind (Some y) ys x

-- the element that leaves a list at its end is its last
pub popped : {A : Type 0} (n m : ℕ) (xs ys : List A) (o : Option A) → n ≡ length xs → MatchOption o ((n ≡ 0) × (m ≡ 0)) (λ _. m + 1 ≡ n) → xs ≡ ys ++ option_to_list o → o ≡ last_or None xs
popped n m [] ys None len none is = refl
popped n m (x ∷ xs) ys None len none is = let bad : ⊥ = omega (arith, len, none.0) in cc
popped n m xs ys (Some x) len none is = sym (last_behind None ys x) ∙ ap (last_or None) (sym is)
