-- The bytes of one class with which a text begins.
use Rattle.std.specs.Prelude.{ℕ, Bool, List, [], ◌∷◌, nat_le, ◌==◌, ◌&&◌, if◌then◌else◌}
use Rattle.ci_values.specs.declared.run.Class.{Class}
use Rattle.ci_values.specs.declared.run.Class.TheVariants.{Digit, Space, Letter}

-- an ASCII digit, a space, a small ASCII letter
abbrev pub is_of : Class → ℕ → Bool
is_of Digit b = nat_le 48 b && nat_le b 57
is_of Space b = b == 32
is_of Letter b = nat_le 97 b && nat_le b 122

-- the bytes of the class that come first
abbrev pub front : Class → List ℕ → List ℕ
front class [] = []
front class (b ∷ bs) = if is_of class b then b ∷ front class bs else []

-- what is behind them
abbrev pub behind : Class → List ℕ → List ℕ
behind class [] = []
behind class (b ∷ bs) = if is_of class b then behind class bs else b ∷ bs
