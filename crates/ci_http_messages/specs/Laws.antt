-- The order of methods.
use Rattle.std.specs.Prelude.{ℕ, Bool, true, false, List, [], ◌∷◌, nat_lt, ◌==◌, ◌&&◌, ◌||◌}

-- one text is before another in the order of their bytes
abbrev pub is_before : List ℕ → List ℕ → Bool
is_before [] [] = false
is_before [] (y ∷ b) = true
is_before (x ∷ a) [] = false
is_before (x ∷ a) (y ∷ b) = nat_lt x y || (x == y && is_before a b)

-- each text is before the next
abbrev pub ascends : List (List ℕ) → Bool
ascends [] = true
ascends (a ∷ []) = true
ascends (a ∷ b ∷ rest) = is_before a b && ascends (b ∷ rest)
