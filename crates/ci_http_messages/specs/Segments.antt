-- The segments of a path.
use Rattle.std.specs.Prelude.{ℕ, List, [], ◌∷◌, cond, ◌==◌}

-- a byte in front of the first segment
abbrev pub onto : ℕ → List (List ℕ) → List (List ℕ)
onto b [] = (b ∷ []) ∷ []
onto b (s ∷ ss) = (b ∷ s) ∷ ss

-- a text split at each slash
abbrev pub segments : List ℕ → List (List ℕ)
segments [] = [] ∷ []
segments (b ∷ p) = cond (b == 47) ([] ∷ segments p) (onto b (segments p))
