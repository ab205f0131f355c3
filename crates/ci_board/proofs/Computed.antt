-- What holds of each of a few positions, one by one.
use Rattle.std.proofs.Common.{ℕ, zero, suc, ◌<◌, arith}

pub two : (P : ℕ → Type 0) → P 0 → P 1 → (j : ℕ) → j < 2 → P j
two P a b zero l = a
two P a b (suc zero) l = b
two P a b (suc (suc j)) l = absurd (omega arith)

pub three : (P : ℕ → Type 0) → P 0 → P 1 → P 2 → (j : ℕ) → j < 3 → P j
three P a b c zero l = a
three P a b c (suc zero) l = b
three P a b c (suc (suc zero)) l = c
three P a b c (suc (suc (suc j))) l = absurd (omega arith)

pub five : (P : ℕ → Type 0) → P 0 → P 1 → P 2 → P 3 → P 4 → (j : ℕ) → j < 5 → P j
five P a b c d e zero l = a
five P a b c d e (suc zero) l = b
five P a b c d e (suc (suc zero)) l = c
five P a b c d e (suc (suc (suc zero))) l = d
five P a b c d e (suc (suc (suc (suc zero)))) l = e
five P a b c d e (suc (suc (suc (suc (suc j))))) l = absurd (omega arith)
