-- Jobs that wait for one another in a circle.
use Rattle.std.specs.Prelude.{◌≡◌, ℕ, Bool, true, false, List, [], ◌∷◌, Contains, slice_index_or}
use Rattle.ci_machine.specs.Prelude.{HasWalk}

-- each of these positions waits for the next one, and the last one for this
abbrev pub WaitInTurn : List (ℕ × ℕ) → ℕ → List ℕ → ℕ → Type 0
WaitInTurn pairs i [] first = Contains pairs (first, i)
WaitInTurn pairs i (j ∷ js) first = Contains pairs (j, i) × WaitInTurn pairs j js first

-- each waits for the next one, and the last one for the first: the pairs are of a position that is waited for and one that waits for it
abbrev pub IsCircle : List (ℕ × ℕ) → List ℕ → Type 0
IsCircle pairs [] = ⊥
IsCircle pairs (i ∷ is) = WaitInTurn pairs i is i

-- ---- how one is found: positions go that wait for none that is left

abbrev pub is_left : List Bool → ℕ → Bool
is_left left i = slice_index_or left i false

-- each that is left waits for one that is left
abbrev pub IsClosed : List (ℕ × ℕ) → List Bool → Type 0
IsClosed pairs left = (i : ℕ) → is_left left i ≡ true → (p : ℕ) × Contains pairs (p, i) × (is_left left p ≡ true)

-- those to which a walk returns are left
abbrev pub KeepsCycles : List (ℕ × ℕ) → List Bool → Type 0
KeepsCycles pairs left = (i : ℕ) → HasWalk pairs i i → is_left left i ≡ true
