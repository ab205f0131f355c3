-- A list gathered from parts, each element once, and a budget that each of a list is paid from.
use Rattle.std.proofs.Common.{◌≡◌, ℕ, ◌+◌, Bool, List, drop, flat_map, sum_by}
use Rattle.ci_expr.specs.Prelude.{with_each}

-- with what is left of the parts it is what it will be
abbrev pub Gathered : {A B : Type 0} → (B → B → Bool) → (A → List B) → List B → List A → ℕ → List B → Type 0
Gathered same part start xs i now = with_each same now (flat_map part (drop i xs)) ≡ with_each same start (flat_map part xs)

-- what is left behind the first, and what the others cost
abbrev pub Paid : {A : Type 0} → (A → ℕ) → ℕ → List A → ℕ → ℕ → Type 0
Paid cost budget xs i left = left + sum_by cost xs ≡ budget + sum_by cost (drop i xs)
