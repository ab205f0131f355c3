-- Lists of positions.
use Rattle.std.specs.Prelude.{◌≡◌, ℕ, suc, ◌<◌, Bool, true, false, not, List, [], ◌∷◌, length, take, filter, if◌then◌else◌, ◌==◌, ◌||◌, slice_index_or}

abbrev pub list_at : List (List ℕ) → ℕ → List ℕ
list_at lists j = slice_index_or lists j []

abbrev pub number_at : List ℕ → ℕ → ℕ
number_at xs k = slice_index_or xs k 0

-- how many of the list pass
abbrev pub tally : (ℕ → Bool) → List ℕ → ℕ
tally p [] = 0
tally p (x ∷ xs) = if p x then suc (tally p xs) else tally p xs

-- how often i stands in the list
abbrev pub times : ℕ → List ℕ → ℕ
times i xs = tally (λ x. x == i) xs

-- 1 where it holds, else 0
abbrev pub once : Bool → ℕ
once true = 1
once false = 0

-- whether j stands in the list
abbrev pub is_among : List ℕ → ℕ → Bool
is_among [] j = false
is_among (x ∷ xs) j = (x == j) || is_among xs j

-- each number of the list where it stands first, and not again
abbrev pub distinct : List ℕ → List ℕ
distinct [] = []
distinct (x ∷ xs) = x ∷ filter (λ y. not (y == x)) (distinct xs)

-- the numbers in the lists are below n
abbrev pub AreBelow : ℕ → List (List ℕ) → Type 0
AreBelow n lists = (j k : ℕ) → k < length (list_at lists j) → number_at (list_at lists j) k < n

-- each of the n positions stands once in the order, and its predecessors stand before it
pub record IsOrder (n : ℕ) (predecessors : List (List ℕ)) (order : List ℕ) : Type 0 where
  pub long : length order ≡ n
  pub each_once : (i : ℕ) → i < n → times i order ≡ 1
  pub inside : (k : ℕ) → k < length order → number_at order k < n
  pub before : (k i : ℕ) → k < length order → 0 < times i (list_at predecessors (number_at order k)) → 0 < times i (take k order)

-- some position is left, and each that is left has a predecessor that is left
pub record IsStuck (n : ℕ) (predecessors : List (List ℕ)) (taken : List ℕ) : Type 0 where
  pub some : (i : ℕ) × (i < n) × (times i taken ≡ 0)
  pub each : (j : ℕ) → j < n → times j taken ≡ 0 → (p : ℕ) × (0 < times p (list_at predecessors j)) × (times p taken ≡ 0)
