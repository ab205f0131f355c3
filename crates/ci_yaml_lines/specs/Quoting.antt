-- Quoted scalars, as they are written.
use Rattle.std.specs.Prelude.{◌≡◌, ◌≢◌, ℕ, Bool, true, false, List, [], ◌∷◌, ◌++◌, ◌==◌, if◌then◌else◌}
use Rattle.ci_yaml_lines.specs.Scalar.{Quoted, head_is}

-- what stands between single quotes for this text: each quote of it is written twice
abbrev pub doubled : List ℕ → List ℕ
doubled [] = []
doubled (b ∷ bs) = if b == 39 then 39 ∷ 39 ∷ doubled bs else b ∷ doubled bs

-- a backslash and this byte stand for that one
pub data Escape (written meant : ℕ) : Type 0 where
  backslash : written ≡ 92 → meant ≡ 92 → Escape written meant
  quote : written ≡ 34 → meant ≡ 34 → Escape written meant
  line_feed : written ≡ 110 → meant ≡ 10 → Escape written meant
  tab : written ≡ 116 → meant ≡ 9 → Escape written meant

-- What stands between double quotes, the text that it means, and whether a backslash stands wrongly in it: one that begins no
-- escape, and stands for nothing.
pub data Between : List ℕ → List ℕ → Bool → Type 0 where
  nothing : Between [] [] false
  itself : (b : ℕ) (raw text : List ℕ) (wrong : Bool) → b ≢ 34 → b ≢ 92 → Between raw text wrong → Between (b ∷ raw) (b ∷ text) wrong
  escape : (all : List ℕ) (written meant : ℕ) (raw text : List ℕ) (wrong : Bool) → all ≡ 92 ∷ written ∷ raw → Escape written meant
      → Between raw text wrong → Between all (meant ∷ text) wrong
  misused : (all : List ℕ) (b : ℕ) (raw text : List ℕ) (wrong : Bool) → all ≡ 92 ∷ b ∷ raw → ((meant : ℕ) → Escape b meant → ⊥)
      → Between (b ∷ raw) text wrong → Between all text true

-- A quoted scalar stands in front, and the rest behind it. In single quotes no backslash stands wrongly, and the rest doesn't
-- begin with a quote, since two would stand for one.
pub data IsQuoted (bs : List ℕ) (q : Quoted) : Type 0 where
  in_single : bs ≡ 39 ∷ (doubled q.text ++ 39 ∷ q.rest) → q.wrong ≡ false → head_is 39 q.rest ≡ false → IsQuoted bs q
  in_double : (between : List ℕ) → bs ≡ 34 ∷ (between ++ 34 ∷ q.rest) → Between between q.text q.wrong → IsQuoted bs q
