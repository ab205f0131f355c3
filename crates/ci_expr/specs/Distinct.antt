-- Each of a list once.
use Rattle.std.specs.Prelude.{◌≡◌, Bool, true, false, List, [], ◌∷◌, ◌++◌, ◌||◌, fold, if◌then◌else◌, ⊤}

-- one of the list is the same
abbrev pub is_among : {A : Type 0} → (A → A → Bool) → A → List A → Bool
is_among same x [] = false
is_among same x (y ∷ ys) = same x y || is_among same x ys

-- for each of these there is one
abbrev pub AreAmong : {A : Type 0} → (A → A → Bool) → List A → List A → Type 0
AreAmong same [] ys = ⊤
AreAmong same (x ∷ xs) ys = (is_among same x ys ≡ true) × AreAmong same xs ys

-- with this one too, where none is the same
abbrev pub with_one : {A : Type 0} → (A → A → Bool) → List A → A → List A
with_one same xs x = if is_among same x xs then xs else xs ++ x ∷ []

-- with each of others too
abbrev pub with_each : {A : Type 0} → (A → A → Bool) → List A → List A → List A
with_each same xs ys = fold (with_one same) xs ys

-- each of a list once, in the order in which they first stand
abbrev pub distinct : {A : Type 0} → (A → A → Bool) → List A → List A
distinct same xs = with_each same [] xs
