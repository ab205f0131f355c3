-- The source of a pattern, from what stands between its slashes.
use Rattle.std.specs.Prelude.{ℕ, List, [], ◌∷◌, ◌++◌, ◌==◌, if◌then◌else◌}

-- a backslash with this character behind it: `\/` is the slash, and every other pair stays
abbrev pub pair : ℕ → List ℕ
pair c = if c == 47 then 47 ∷ [] else 92 ∷ c ∷ []

-- the characters of the source of a pattern with these in its body
abbrev pub source_of : List ℕ → List ℕ
source_of [] = []
source_of (c ∷ []) = c ∷ []
source_of (c ∷ d ∷ t) = if c == 92 then pair d ++ source_of t else c ∷ source_of (d ∷ t)
