-- How often numbers stand in lists.
use Rattle.std.proofs.Common.{◌≡◌, ◌⊎◌, ℕ, zero, suc, ◌+◌, ◌<◌, ◌≤◌, ◌==◌, Bool, true, false, cond, ◌||◌, List, [], ◌∷◌, ◌++◌, length, take, filter, refl, sym, ap, ◌∙◌, arith, eqb-true, ⊎_elim, inl, inr}
use Rattle.std.proofs.lemmas.Bool.{cond_both, eqb-false, eq-eqb}
use Rattle.std.proofs.Math.Bool.{or-true}
use Rattle.ci_graph.specs.Lists.{tally, times, is_among, number_at, once}

joined_one : (b : Bool) (x y z : ℕ) → x ≡ y + z → cond b (suc x) x ≡ cond b (suc y) y + z
joined_one true x y z e = omega arith
joined_one false x y z e = e

pub tally-append : (p : ℕ → Bool) (xs ys : List ℕ) → tally p (xs ++ ys) ≡ tally p xs + tally p ys
tally-append p [] ys = omega arith
tally-append p (x ∷ xs) ys = joined_one (p x) (tally p (xs ++ ys)) (tally p xs) (tally p ys) (tally-append p xs ys)

one_more : (b : Bool) → cond b (suc 0) 0 ≡ once b
one_more true = refl
one_more false = refl

pub times_push : (i x : ℕ) (xs : List ℕ) → times i (xs ++ x ∷ []) ≡ times i xs + once (x == i)
times_push i x xs = tally-append (λ y. y == i) xs (x ∷ []) ∙ ap (λ (n : ℕ). times i xs + n) (one_more (x == i))

pub times_here : (x : ℕ) (xs : List ℕ) → 0 < times x (x ∷ xs)
times_here x xs = cond_both (x == x) (suc (times x xs)) (times x xs) (λ (n : ℕ). 0 < n) (λ e. omega arith) (λ e. absurd (eqb-false x x e refl))

pub times_more : (i x : ℕ) (xs : List ℕ) → times i xs ≤ times i (x ∷ xs)
times_more i x xs = cond_both (x == i) (suc (times i xs)) (times i xs) (λ (n : ℕ). times i xs ≤ n) (λ e. omega arith) (λ e. omega arith)

pub times_same : (i x : ℕ) (xs : List ℕ) → (x ≡ i → ⊥) → times i (x ∷ xs) ≡ times i xs
times_same i x xs d = cond_both (x == i) (suc (times i xs)) (times i xs) (λ (n : ℕ). n ≡ times i xs) (λ e. absurd (d (eqb-true x i e))) (λ e. refl)

-- what stands in x ∷ xs is x or stands in xs
pub times_cases : (i x : ℕ) (xs : List ℕ) → 0 < times i (x ∷ xs) → (x ≡ i) ⊎ (0 < times i xs)
times_cases i x xs = cond_both (x == i) (suc (times i xs)) (times i xs) (λ (n : ℕ). 0 < n → (x ≡ i) ⊎ (0 < times i xs)) (λ e l. inl (eqb-true x i e)) (λ e l. inr l)

pub at_times : (xs : List ℕ) (k : ℕ) → k < length xs → 0 < times (number_at xs k) xs
at_times [] k l = absurd (omega arith)
at_times (x ∷ xs) zero l = times_here x xs
at_times (x ∷ xs) (suc k) l =
    let h : 0 < times (number_at xs k) xs = at_times xs k (omega arith) in
    let m : times (number_at xs k) xs ≤ times (number_at xs k) (x ∷ xs) = times_more (number_at xs k) x xs in
    omega arith

pub times_at : (i : ℕ) (xs : List ℕ) → 0 < times i xs → (k : ℕ) × (k < length xs) × (number_at xs k ≡ i)
times_at i [] l = absurd (omega arith)
times_at i (x ∷ xs) l = ⊎_elim
    (λ e. (0, omega arith, e))
    (λ m. let r : (k : ℕ) × (k < length xs) × (number_at xs k ≡ i) = times_at i xs m in (suc r.0, omega arith, r.2))
    (times_cases i x xs l)

pub among_yes : (xs : List ℕ) (i : ℕ) → 0 < times i xs → is_among xs i ≡ true
among_yes [] i l = absurd (omega arith)
among_yes (x ∷ xs) i l = ⊎_elim
    (λ e. ap (λ (b : Bool). b || is_among xs i) (eq-eqb x i e))
    (λ m. ap (λ (b : Bool). (x == i) || b) (among_yes xs i m) ∙ or-true (x == i))
    (times_cases i x xs l)

pub among_no : (xs : List ℕ) (i : ℕ) → times i xs ≡ 0 → is_among xs i ≡ false
among_no [] i = λ e. refl
among_no (x ∷ xs) i = cond_both (x == i) (suc (times i xs)) (times i xs) (λ (n : ℕ). n ≡ 0 → is_among (x ∷ xs) i ≡ false)
    (λ c e. absurd (omega arith))
    (λ c e. ap (λ (b : Bool). b || is_among xs i) c ∙ among_no xs i e)

zero_or_more : (n : ℕ) → (n ≡ 0) ⊎ (0 < n)
zero_or_more zero = inl refl
zero_or_more (suc n) = inr (omega arith)

pub times_or_none : (i : ℕ) (xs : List ℕ) → (times i xs ≡ 0) ⊎ (0 < times i xs)
times_or_none i xs = zero_or_more (times i xs)

pub yes_among : (xs : List ℕ) (i : ℕ) → is_among xs i ≡ true → 0 < times i xs
yes_among xs i e = ⊎_elim (λ z. absurd (let f : is_among xs i ≡ false = among_no xs i z in cc)) (λ m. m) (times_or_none i xs)

pub no_among : (xs : List ℕ) (i : ℕ) → is_among xs i ≡ false → times i xs ≡ 0
no_among xs i e = ⊎_elim (λ z. z) (λ m. absurd (let f : is_among xs i ≡ true = among_yes xs i m in cc)) (times_or_none i xs)

-- tests that agree of what stands in a list keep the same of it
pub filter_members : (f g : ℕ → Bool) (xs : List ℕ) → ((x : ℕ) → 0 < times x xs → f x ≡ g x) → filter f xs ≡ filter g xs
filter_members f g [] h = refl
filter_members f g (x ∷ xs) h = both (f x) (g x) (h x (times_here x xs)) (filter_members f g xs (λ y l. h y (let m : times y xs ≤ times y (x ∷ xs) = times_more y x xs in omega arith)))
  where
    both : (a b : Bool) → a ≡ b → filter f xs ≡ filter g xs → cond a (x ∷ filter f xs) (filter f xs) ≡ cond b (x ∷ filter g xs) (filter g xs)
    both a b e r = λ i. cond (e i) (x ∷ r i) (r i)

pub once_few : (c : Bool) → once c ≤ 1
once_few true = omega arith
once_few false = omega arith

pub once_yes : (c : Bool) → 0 < once c → c ≡ true
once_yes true l = refl
once_yes false l = absurd (omega arith)

pub once_no : (c : Bool) → once c ≡ 0 → c ≡ false
once_no true e = absurd (omega arith)
once_no false e = refl

pub tally_none : (p : ℕ → Bool) (xs : List ℕ) → tally p xs ≡ 0 → (i : ℕ) → 0 < times i xs → p i ≡ false
tally_none p [] = λ e i l. absurd (omega arith)
tally_none p (x ∷ xs) = cond_both (p x) (suc (tally p xs)) (tally p xs) (λ (n : ℕ). n ≡ 0 → (i : ℕ) → 0 < times i (x ∷ xs) → p i ≡ false)
    (λ c e i l. absurd (omega arith))
    (λ c e i l. ⊎_elim (λ q. ap p (sym q) ∙ c) (λ m. tally_none p xs e i m) (times_cases i x xs l))

pub tally_some : (p : ℕ → Bool) (xs : List ℕ) → 0 < tally p xs → (i : ℕ) × (0 < times i xs) × (p i ≡ true)
tally_some p [] = λ l. absurd (omega arith)
tally_some p (x ∷ xs) = cond_both (p x) (suc (tally p xs)) (tally p xs) (λ (n : ℕ). 0 < n → (i : ℕ) × (0 < times i (x ∷ xs)) × (p i ≡ true))
    (λ c l. (x, times_here x xs, c))
    (λ c l. let r : (i : ℕ) × (0 < times i xs) × (p i ≡ true) = tally_some p xs l in
    let m : times r.0 xs ≤ times r.0 (x ∷ xs) = times_more r.0 x xs in
    let w : 0 < times r.0 xs = r.1 in
    (r.0, omega arith, r.2))

pub times_take : (i m k : ℕ) (xs : List ℕ) → m ≤ k → times i (take m xs) ≤ times i (take k xs)
times_take i zero k xs l = omega arith
times_take i (suc m) zero xs l = absurd (omega arith)
times_take i (suc m) (suc k) [] l = omega arith
times_take i (suc m) (suc k) (x ∷ xs) l = step (x == i) (times i (take m xs)) (times i (take k xs)) (times_take i m k xs (omega arith))
  where
    step : (b : Bool) (a c : ℕ) → a ≤ c → cond b (suc a) a ≤ cond b (suc c) c
    step true a c h = omega arith
    step false a c h = h

-- the number at k stands once more in the list than before k
pub times_after : (k : ℕ) (xs : List ℕ) → k < length xs → times (number_at xs k) (take k xs) + 1 ≤ times (number_at xs k) xs
times_after k [] l = absurd (omega arith)
times_after zero (x ∷ xs) l = let h : 0 < times x (x ∷ xs) = times_here x xs in omega arith
times_after (suc k) (x ∷ xs) l =
    step (x == number_at xs k) (times (number_at xs k) (take k xs)) (times (number_at xs k) xs) (times_after k xs (omega arith))
  where
    step : (b : Bool) (a c : ℕ) → a + 1 ≤ c → cond b (suc a) a + 1 ≤ cond b (suc c) c
    step true a c h = omega arith
    step false a c h = h

-- the sum, over the numbers below n, of how often each stands there
abbrev pub times_below : ℕ → List ℕ → ℕ
times_below zero xs = 0
times_below (suc n) xs = times n xs + times_below n xs

below_past : (n x : ℕ) (xs : List ℕ) → n ≤ x → times_below n (x ∷ xs) ≡ times_below n xs
below_past zero x xs l = refl
below_past (suc n) x xs l =
    let h : times_below n (x ∷ xs) ≡ times_below n xs = below_past n x xs (omega arith) in
    let t : times n (x ∷ xs) ≡ times n xs = times_same n x xs (λ (e : x ≡ n). omega arith) in
    omega arith

below_one : (n x : ℕ) (xs : List ℕ) → x < n → times_below n (x ∷ xs) ≡ suc (times_below n xs)
below_one zero x xs l = absurd (omega arith)
below_one (suc n) x xs l =
    cond_both (x == n) (suc (times n xs)) (times n xs) (λ (m : ℕ). m + times_below n (x ∷ xs) ≡ suc (times n xs + times_below n xs))
    (λ e. let q : x ≡ n = eqb-true x n e in
    let h : times_below n (x ∷ xs) ≡ times_below n xs = below_past n x xs (omega arith) in omega arith)
    (λ e. let q : (x ≡ n) → ⊥ = eqb-false x n e in
    let h : times_below n (x ∷ xs) ≡ suc (times_below n xs) = below_one n x xs (smaller x n q (omega arith)) in omega arith)
  where
    smaller : (x n : ℕ) → (x ≡ n → ⊥) → x < suc n → x < n
    smaller x n q l = omega arith

below_nil : (n : ℕ) → times_below n [] ≡ 0
below_nil zero = refl
below_nil (suc n) = let h : times_below n [] ≡ 0 = below_nil n in omega arith

pub below_length : (n : ℕ) (xs : List ℕ) → ((x : ℕ) → 0 < times x xs → x < n) → times_below n xs ≡ length xs
below_length n [] h = below_nil n
below_length n (x ∷ xs) h =
    let r : times_below n xs ≡ length xs = below_length n xs (λ y l. h y (let m : times y xs ≤ times y (x ∷ xs) = times_more y x xs in omega arith)) in
    let s : times_below n (x ∷ xs) ≡ suc (times_below n xs) = below_one n x xs (h x (times_here x xs)) in
    omega arith

pub below_few : (n : ℕ) (xs : List ℕ) → ((i : ℕ) → i < n → times i xs ≤ 1) → times_below n xs ≤ n
below_few zero xs h = omega arith
below_few (suc n) xs h =
    let r : times_below n xs ≤ n = below_few n xs (λ i l. h i (omega arith)) in
    let s : times n xs ≤ 1 = h n (omega arith) in
    omega arith

pub below_full : (n : ℕ) (xs : List ℕ) → ((i : ℕ) → i < n → times i xs ≤ 1) → n ≤ times_below n xs → (i : ℕ) → i < n → times i xs ≡ 1
below_full zero xs h f i l = absurd (omega arith)
below_full (suc n) xs h f i l =
    let r : times_below n xs ≤ n = below_few n xs (λ k m. h k (omega arith)) in
    let s : times n xs ≤ 1 = h n (omega arith) in
    cond_both (i == n) 0 0 (λ (_ : ℕ). times i xs ≡ 1)
    (λ e. let q : i ≡ n = eqb-true i n e in rw q (omega arith))
    (λ e. let q : i ≡ n → ⊥ = eqb-false i n e in below_full n xs (λ k m. h k (omega arith)) (omega arith) i (omega arith))

pub below_missing : (n : ℕ) (xs : List ℕ) → times_below n xs < n → (i : ℕ) × (i < n) × (times i xs ≡ 0)
below_missing zero xs l = absurd (omega arith)
below_missing (suc n) xs l = ⊎_elim
    (λ z. (n, omega arith, z))
    (λ m. let r : (i : ℕ) × (i < n) × (times i xs ≡ 0) = below_missing n xs (omega arith) in
    let b : r.0 < n = r.1 in (r.0, omega arith, r.2))
    (times_or_none n xs)

-- a list of different numbers below n has at most n
pub few_below : (n : ℕ) (xs : List ℕ) → ((x : ℕ) → 0 < times x xs → x < n) → ((i : ℕ) → i < n → times i xs ≤ 1) → length xs ≤ n
few_below n xs h f =
    let a : times_below n xs ≡ length xs = below_length n xs h in
    let b : times_below n xs ≤ n = below_few n xs f in
    omega arith
