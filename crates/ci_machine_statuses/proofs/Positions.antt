-- The places of ascending numbers.
use Rattle.std.proofs.Common.{◌≡◌, ℕ, zero, suc, ◌+◌, ◌<◌, ◌≤◌, Bool, true, false, cond, ◌==◌, ◌||◌, nat_lt, List, [], ◌∷◌, ◌++◌, length, take, map, filter, Some, None, Result, Ok}
use Rattle.std.proofs.Common.{Err, slice_index_or, nat_cmp, refl, sym, ap, subst, ◌∙◌, ⊎_elim, arith, eq-eqb, eqb-true, lt-ltb}
use Rattle.std.specs.Result.{result_ok}
use Rattle.std.specs.List.{list_any}
use Rattle.std.specs.List.Sorted.{IsStrictlySortedBy, IsBinarySearchResult}
use Rattle.std.proofs.lemmas.Bool.{cond_both, cond-true, cond-false, cases_Bool, cases_lt, both_ways, le-ltb}
use Rattle.std.proofs.lemmas.List.{get_or_default, map-id, map_push, take_more}
use Rattle.std.proofs.lemmas.List.Elements.{All-more, Contains-get_or}
use Rattle.std.proofs.lemmas.List.Sorted.{searched}
use Rattle.std.proofs.lemmas.List.Sums.{length-filter, sum_by-cons}
use Rattle.ci_machine.specs.Prelude.{is_among}
use Rattle.ci_machine_steps.specs.Prelude.{Need, place_in, pair_of, pairs_among}
use Rattle.ci_machine.proofs.Keyed.{Has, Rising, rising_from, filter_none, has_from_contains, contains_from_has}
use Rattle.ci_machine.proofs.Tests.{any_has, has_any}
use Rattle.ci_machine_steps.proofs.Sound.{rising_from_ascend}
use Rattle.ci_machine_statuses.specs.Lookups.{place_of}
use Rattle.ci_machine_statuses.specs.Boards.{AreNamed}
use Rattle.ci_machine_statuses.proofs.Puts.{more_in, more_out}

pub numbers_ascend : (xs : List ℕ) → IsStrictlySortedBy nat_cmp xs → Rising (λ n. n) 0 xs
numbers_ascend xs a = rising_from_ascend (λ n. n) xs (subst (IsStrictlySortedBy nat_cmp) (sym (map-id xs)) a)

pub is_there : (xs : List ℕ) (i : ℕ) → i < length xs → Has (slice_index_or xs i 0) xs
is_there xs i l = has_from_contains (slice_index_or xs i 0) xs (Contains-get_or xs i 0 l)

-- the number at a place has it
none_below : (n low : ℕ) (xs : List ℕ) → n ≤ low → Rising (λ m. m) low xs → place_in xs n ≡ 0
none_below n low xs l r =
    sym (length-filter (λ m. nat_lt m n) xs) ∙ ap length (filter_none (λ m. nat_lt m n) xs (λ m h. le-ltb m n (omega (arith, rising_from (λ k. k) m low xs r h))))

pub place_at : (low : ℕ) (xs : List ℕ) (i : ℕ) → Rising (λ m. m) low xs → i < length xs → place_in xs (slice_index_or xs i 0) ≡ i
place_at low [] i r l = absurd (omega arith)
place_at low (x ∷ xs) zero r l = none_below x x (x ∷ xs) (omega arith) (omega arith, r.1)
place_at low (x ∷ xs) (suc i) r l =
    let n = slice_index_or xs i 0 in
    let k : x + 1 ≤ n = rising_from (λ m. m) n (x + 1) xs r.1 (is_there xs i (omega arith)) in
    sum_by-cons (λ m. cond (nat_lt m n) 1 0) x xs
    ∙ (ap (λ (a : ℕ). a + place_in xs n) (cond-true (nat_lt x n) 1 0 (lt-ltb x n (omega arith)))
    ∙ (ap (λ (a : ℕ). 1 + a) (place_at (x + 1) xs i r.1 (omega arith)) ∙ (let z : 1 + i ≡ suc i = omega arith in z)))

among_is : (n : ℕ) (xs : List ℕ) → is_among xs n ≡ list_any (λ x. x == n) xs
among_is n [] = refl
among_is n (x ∷ xs) = ap (λ b. (x == n) || b) (among_is n xs)

pub among_has : (n : ℕ) (xs : List ℕ) → Has n xs → is_among xs n ≡ true
among_has n xs h = among_is n xs ∙ has_any (λ x. x == n) n xs h (eq-eqb n n refl)

pub has_among : (n : ℕ) (xs : List ℕ) → is_among xs n ≡ true → Has n xs
has_among n xs e = let w = any_has (λ x. x == n) xs (sym (among_is n xs) ∙ e) in subst (λ m. Has m xs) (eqb-true w.0 n w.1.1) w.1.0

pub not_among : (n : ℕ) (xs : List ℕ) → ((m : ℕ) → Has m xs → m ≡ n → ⊥) → is_among xs n ≡ false
not_among n xs d = ⊎_elim (λ e. absurd (d n (has_among n xs e) refl)) (λ e. e) (cases_Bool (is_among xs n))

-- where a number of the list stands
pub place_of_has : (n : ℕ) (ns : List ℕ) → Has n ns → (pos : ℕ) × ((pos < length ns) × (slice_index_or ns pos 0 ≡ n))
place_of_has n ns h = let c = contains_from_has n ns h in (c.0, (c.1, get_or_default ns c.0 0 n c.1 ∙ c.2))

pub place_there : (xs : List ℕ) (n i : ℕ) → Rising (λ m. m) 0 xs → i < length xs → slice_index_or xs i 0 ≡ n → place_of xs n ≡ Some i
place_there xs n i r l e =
    cond-true (is_among xs n) (Some (place_in xs n)) None (among_has n xs (subst (λ m. Has m xs) e (is_there xs i l)))
    ∙ ap (λ (p : ℕ). Some p) (sym (ap (place_in xs) e) ∙ place_at 0 xs i r l)

pub ascending : (low : ℕ) (xs : List ℕ) → Rising (λ m. m) low xs → (i j : ℕ) → i ≤ j → j < length xs → slice_index_or xs i 0 ≤ slice_index_or xs j 0
ascending low [] r i j l m = absurd (omega arith)
ascending low (x ∷ xs) r zero zero l m = omega arith
ascending low (x ∷ xs) r zero (suc j) l m = let k : x + 1 ≤ slice_index_or xs j 0 = rising_from (λ n. n) (slice_index_or xs j 0) (x + 1) xs r.1 (is_there xs j (omega arith)) in omega arith
ascending low (x ∷ xs) r (suc i) zero l m = absurd (omega arith)
ascending low (x ∷ xs) r (suc i) (suc j) l m = ascending (x + 1) xs r.1 i j (omega arith) (omega arith)

-- what a binary search finds
pub place_found : (xs : List ℕ) (n : ℕ) (r : Result ℕ ℕ) → IsBinarySearchResult (λ y. nat_cmp y n) xs r → IsStrictlySortedBy nat_cmp xs → result_ok r ≡ place_of xs n
place_found xs n (Ok i) b a =
    let up = numbers_ascend xs a in
    let found = searched xs n (Ok i) b (ascending 0 xs up) in
    sym (place_there xs n i up found.0 found.1)
place_found xs n (Err i) b a =
    let up = numbers_ascend xs a in
    let found = searched xs n (Err i) b (ascending 0 xs up) in
    sym (cond-false (is_among xs n) (Some (place_in xs n)) None (not_among n xs (λ m h e.
    let w = place_of_has m xs h in
    let same : slice_index_or xs w.0 0 ≡ n = w.1.1 ∙ e in
    ⊎_elim (λ k. let less : slice_index_or xs w.0 0 < n = found.1 w.0 k in omega arith)
    (λ k. let more : n < slice_index_or xs w.0 0 = found.2 w.0 k w.1.0 in omega arith) (cases_lt w.0 i))))

-- ---- what a place says

-- a number that has a place is one of them, and has that one
placed : (numbers : List ℕ) (n place : ℕ) → place_of numbers n ≡ Some place → (is_among numbers n ≡ true) × (place_in numbers n ≡ place)
placed numbers n place =
    cond_both (is_among numbers n) (Some (place_in numbers n)) None (λ o. o ≡ Some place → (is_among numbers n ≡ true) × (place_in numbers n ≡ place)) (λ yes k. (yes, (let same : place_in numbers n ≡ place = cc in same)))
    (λ _ k. absurd (cc))

pub place_some : (xs : List ℕ) (n p : ℕ) → Rising (λ m. m) 0 xs → place_of xs n ≡ Some p → (p < length xs) × (slice_index_or xs p 0 ≡ n)
place_some xs n p r e =
    let w = placed xs n p e in
    let at = place_of_has n xs (has_among n xs w.0) in
    let same : at.0 ≡ p = sym (place_at 0 xs at.0 r at.1.0) ∙ (ap (place_in xs) at.1.1 ∙ w.1) in
    subst (λ k. (k < length xs) × (slice_index_or xs k 0 ≡ n)) same (at.1.0, at.1.1)

-- a number that has no place is none of them
pub not_placed : (numbers : List ℕ) (n : ℕ) → place_of numbers n ≡ None → is_among numbers n ≡ false
not_placed numbers n = cond_both (is_among numbers n) (Some (place_in numbers n)) None (λ o. o ≡ None → is_among numbers n ≡ false) (λ _ k. absurd (cc)) (λ no _. no)

pub place_none : (xs : List ℕ) (n : ℕ) → place_of xs n ≡ None → (m : ℕ) → Has m xs → m ≡ n → ⊥
place_none xs n e m h same = both_ways (is_among xs n) (not_placed xs n e) (among_has n xs (subst (λ k. Has k xs) same h))

-- one need more that names what it may
pub named_more : (numbers : List ℕ) (needs : List Need) (i : ℕ) (d : Need) → i < length needs → AreNamed numbers (take i needs)
    → (is_among numbers (slice_index_or needs i d).job ≡ true → is_among numbers (slice_index_or needs i d).pred ≡ true) → AreNamed numbers (take (i + 1) needs)
named_more numbers needs i d lt so named = All-more (λ (w : Need). is_among numbers w.job ≡ true → is_among numbers w.pred ≡ true) needs i d lt so named

-- the pairs with one need more: of a job that is one of them, or of another
pub pair_more : (numbers : List ℕ) (needs : List Need) (i : ℕ) (d : Need) (pairs : List (ℕ × ℕ)) (pair : ℕ × ℕ) (place : ℕ) → i < length needs → place_of numbers (slice_index_or needs i d).job ≡ Some place
    → (pair.0 ≡ place_in numbers (slice_index_or needs i d).pred) × (pair.1 ≡ place) → pairs ≡ pairs_among numbers (take i needs) → pairs ++ pair ∷ [] ≡ pairs_among numbers (take (i + 1) needs)
pair_more numbers needs i d pairs pair place lt is same so =
    let w = slice_index_or needs i d in
    let its = placed numbers w.job place is in
    let named : Need → Bool = λ v. is_among numbers v.job in
    let one : pair ≡ pair_of numbers w = λ k. (same.0 k, (same.1 ∙ sym its.1) k) in
    (λ k. so k ++ one k ∷ [])
    ∙ sym (ap (pairs_among numbers) (take_more needs i d lt)
    ∙ (ap (map (pair_of numbers)) (more_in named (take i needs) w its.0) ∙ map_push (pair_of numbers) (filter named (take i needs)) w))

pub pair_less : (numbers : List ℕ) (needs : List Need) (i : ℕ) (d : Need) (pairs : List (ℕ × ℕ)) → i < length needs → place_of numbers (slice_index_or needs i d).job ≡ None → pairs ≡ pairs_among numbers (take i needs)
    → pairs ≡ pairs_among numbers (take (i + 1) needs)
pair_less numbers needs i d pairs lt is so =
    let w = slice_index_or needs i d in
    so
    ∙ sym (ap (pairs_among numbers) (take_more needs i d lt)
    ∙ ap (map (pair_of numbers)) (more_out (λ (v : Need). is_among numbers v.job) (take i needs) w (not_placed numbers w.job is)))
