-- Pairs of a predecessor and a job, and walks along them.
use Rattle.std.specs.Prelude.{◌≡◌, ℕ, ◌<◌, Bool, false, ◌&&◌, ◌||◌, List, [], ◌∷◌, map, filter, length, take, ◌==◌, Contains, All}
use Rattle.ci_graph.specs.Lists.{list_at, number_at, times, once, distinct}

-- both are positions of n jobs
abbrev pub AreWithin : ℕ → List (ℕ × ℕ) → Type 0
AreWithin n pairs = All (λ p. (p.0 < n) × (p.1 < n)) pairs

-- a walk of one or more pairs from i to j, by way of ks
abbrev pub IsWalk : List (ℕ × ℕ) → ℕ → List ℕ → ℕ → Type 0
IsWalk pairs i [] j = Contains pairs (i, j)
IsWalk pairs i (k ∷ ks) j = Contains pairs (i, k) × IsWalk pairs k ks j

abbrev pub HasWalk : List (ℕ × ℕ) → ℕ → ℕ → Type 0
HasWalk pairs i j = (ks : List ℕ) × IsWalk pairs i ks j

-- a walk returns to its start
abbrev pub HasCycle : List (ℕ × ℕ) → Type 0
HasCycle pairs = (i : ℕ) × HasWalk pairs i i

abbrev pub IsAcyclic : List (ℕ × ℕ) → Type 0
IsAcyclic pairs = HasCycle pairs → ⊥

-- a list has each of the n positions once, and the first of a pair before the second
pub record IsRanked (n : ℕ) (pairs : List (ℕ × ℕ)) (order : List ℕ) : Type 0 where
  pub each_once : (i : ℕ) → i < n → times i order ≡ 1
  pub before : (k i : ℕ) → k < length order → Contains pairs (i, number_at order k) → 0 < times i (take k order)

-- the predecessors that the pairs give to j, in the pairs' order and as often
abbrev pub firsts_of : List (ℕ × ℕ) → ℕ → List ℕ
firsts_of pairs j = map (λ p. p.0) (filter (λ p. p.1 == j) pairs)

-- whether the pair of i and j is among them
abbrev pub has_pair : List (ℕ × ℕ) → ℕ → ℕ → Bool
has_pair [] i j = false
has_pair (p ∷ ps) i j = ((p.0 == i) && (p.1 == j)) || has_pair ps i j

-- The neighbours that the pairs give to n positions: a position's predecessors are the distinct first halves of its pairs, and it stands among
-- another's successors once where the pair is there, and else not.
pub record GiveNeighbours (n : ℕ) (pairs : List (ℕ × ℕ)) (before behind : List (List ℕ)) : Type 0 where
  pub predecessors_long : length before ≡ n
  pub successors_long : length behind ≡ n
  pub predecessors : (j : ℕ) → j < n → list_at before j ≡ distinct (firsts_of pairs j)
  pub successors : (i j : ℕ) → i < n → times j (list_at behind i) ≡ once (has_pair pairs i j)
