-- What is left of a list or a map without one of its entries.
use Rattle.std.proofs.Common.{◌≡◌, ◌<◌, ◌≤◌, ℕ, zero, suc, List, [], ◌∷◌, length, get_or, refl, sym, ◌∙◌, ap, arith, insert, remove, true, false, ◌==◌}
use Rattle.std.proofs.lemmas.Bool.{eqb-true}
use Rattle.ci_config.specs.Prelude.{member, value_view, items_view, bytes_of, Tree}
use Rattle.ci_yaml.specs.Prelude.{pairs_view, Text}
use Rattle.ci_explain.specs.Told.{without, without_in}

-- ---- there is no such entry

pub items-few : (xs : List Tree) (k : ℕ) (way : List ℕ) → length xs ≤ k → items_view xs ≡ without_in (items_view xs) k way
items-few [] k way few = refl
items-few (x ∷ xs) zero way few = absurd (omega (arith, few))
items-few (x ∷ xs) (suc k) way few = ap (member [] (value_view x)) (items-few xs k way (omega (arith, few)))

pub pairs-few : (xs : List (Text × Tree)) (k : ℕ) (way : List ℕ) → length xs ≤ k → pairs_view xs ≡ without_in (pairs_view xs) k way
pairs-few [] k way few = refl
pairs-few (x ∷ xs) zero way few = absurd (omega (arith, few))
pairs-few (x ∷ xs) (suc k) way few = ap (member (bytes_of x.0) (value_view x.1)) (pairs-few xs k way (omega (arith, few)))

-- ---- it is left out

some-none : (j : ℕ) (way : List ℕ) → true ≡ (length (j ∷ way) == 0) → ⊥
some-none j way none = let long = eqb-true (length (j ∷ way)) 0 (sym none) in omega arith

pub items-out : (xs : List Tree) (k : ℕ) (way : List ℕ) → true ≡ (length way == 0) → items_view (remove xs k) ≡ without_in (items_view xs) k way
items-out xs k (j ∷ way) none = absurd (some-none j way none)
items-out [] zero [] none = refl
items-out [] (suc k) [] none = refl
items-out (x ∷ xs) zero [] none = refl
items-out (x ∷ xs) (suc k) [] none = ap (member [] (value_view x)) (items-out xs k [] none)

pub pairs-out : (xs : List (Text × Tree)) (k : ℕ) (way : List ℕ) → true ≡ (length way == 0) → pairs_view (remove xs k) ≡ without_in (pairs_view xs) k way
pairs-out xs k (j ∷ way) none = absurd (some-none j way none)
pairs-out [] zero [] none = refl
pairs-out [] (suc k) [] none = refl
pairs-out (x ∷ xs) zero [] none = refl
pairs-out (x ∷ xs) (suc k) [] none = ap (member (bytes_of x.0) (value_view x.1)) (pairs-out xs k [] none)

-- ---- one within it is left out

pub items-in : (xs : List Tree) (k : ℕ) (way : List ℕ) (y d : Tree) → false ≡ (length way == 0) → k < length xs → value_view y ≡ without way (value_view (get_or xs k d))
    → items_view (insert (remove xs k) k y) ≡ without_in (items_view xs) k way
items-in xs k [] y d some lt is = absurd cc
items-in [] k (j ∷ way) y d some lt is = absurd (omega (arith, lt))
items-in (x ∷ xs) zero (j ∷ way) y d some lt is = ap (λ v. member [] v (items_view xs)) is
items-in (x ∷ xs) (suc k) (j ∷ way) y d some lt is = ap (member [] (value_view x)) (items-in xs k (j ∷ way) y d some (omega (arith, lt)) is)

pub pairs-in : (xs : List (Text × Tree)) (k : ℕ) (way : List ℕ) (y d : Text × Tree) → false ≡ (length way == 0) → k < length xs → y.0 ≡ (get_or xs k d).0
    → value_view y.1 ≡ without way (value_view (get_or xs k d).1) → pairs_view (insert (remove xs k) k y) ≡ without_in (pairs_view xs) k way
pairs-in xs k [] y d some lt key is = absurd cc
pairs-in [] k (j ∷ way) y d some lt key is = absurd (omega (arith, lt))
pairs-in (x ∷ xs) zero (j ∷ way) y d some lt key is = ap (λ t. member (bytes_of t) (value_view y.1) (pairs_view xs)) key ∙ ap (λ v. member (bytes_of x.0) v (pairs_view xs)) is
pairs-in (x ∷ xs) (suc k) (j ∷ way) y d some lt key is = ap (member (bytes_of x.0) (value_view x.1)) (pairs-in xs k (j ∷ way) y d some (omega (arith, lt)) key is)
