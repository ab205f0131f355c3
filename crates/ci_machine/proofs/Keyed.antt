-- Lists of records in the order of their numbers.
use Rattle.std.proofs.Common.{◌≡◌, ◌≢◌, ◌⊎◌, ℕ, zero, suc, ◌+◌, ◌<◌, ◌≤◌, Bool, true, false, cond, nat_lt, ◌==◌, not, List, [], ◌∷◌, count_by, filter, find, map, length, All}
use Rattle.std.proofs.Common.{Contains, Option, Some, slice_index_or, refl, sym, ap, subst, ◌∙◌, inl, inr, ⊎_elim, arith, ltb-true, eqb-true, eq-eqb, ne_eqb, nat_cmp, is_eq, is_lt}
use Rattle.std.proofs.Common.{Ordering, Less, Equal, Greater}
use Rattle.std.specs.List.{last_or, AllByRecursion}
use Rattle.std.proofs.lemmas.Bool.{cond_both, both_ways, cond-true, cond-false, cases_Bool, false≢true}
use Rattle.std.proofs.lemmas.List.Elements.{All-from_recursion, Contains-append_right, Contains-get_or}
use Rattle.std.proofs.lemmas.List.Sums.{length-filter}
use Rattle.std.proofs.lemmas.Map.Keys.{ge_from_not_lt}
use Rattle.ci_machine.specs.Prelude.{placed, others, put}

pub not_true : (b : Bool) → not b ≡ true → b ≡ false
not_true true e = absurd (false≢true e)
not_true false e = refl

-- x is an element of the list
abbrev pub Has : {A : Type 0} → A → List A → Type 0
Has x [] = ⊥
Has x (y ∷ ys) = (x ≡ y) ⊎ Has x ys

-- numbers from low on, that rise strictly
abbrev pub Rising : {A : Type 0} → (A → ℕ) → ℕ → List A → Type 0
Rising id low [] = Unit {0}
Rising id low (x ∷ xs) = (low ≤ id x) × Rising id (id x + 1) xs

-- what a list with a record at its place has
pub has_placed : {A : Type 0} (cmp : A → A → Ordering) (x y : A) (xs : List A) → Has y (placed cmp x xs) → (y ≡ x) ⊎ Has y xs
has_placed cmp x y [] h = h
has_placed cmp x y (z ∷ zs) h =
    cond_both (is_lt (cmp z x)) (z ∷ placed cmp x zs) (x ∷ z ∷ zs) (λ l. Has y l → (y ≡ x) ⊎ Has y (z ∷ zs))
    (λ _ k. ⊎_elim (λ e. inr (inl e)) (λ m. ⊎_elim (λ e. inl e) (λ n. inr (inr n)) (has_placed cmp x y zs m)) k)
    (λ _ k. k)
    h

pub rising_from : {A : Type 0} (id : A → ℕ) (y : A) (low : ℕ) (xs : List A) → Rising id low xs → Has y xs → low ≤ id y
rising_from id y low [] r h = absurd h
rising_from id y low (z ∷ zs) r h =
    ⊎_elim (λ e. subst (λ (w : _). low ≤ id w) (sym e) r.0) (λ m. omega (arith, rising_from id y (id z + 1) zs r.1 m, r.0)) h

pub rising_weaker : {A : Type 0} (id : A → ℕ) (low low' : ℕ) (xs : List A) → low ≤ low' → Rising id low' xs → Rising id low xs
rising_weaker id low low' [] h r = tt
rising_weaker id low low' (z ∷ zs) h r = (omega (arith, r.0), r.1)

-- what passes a test is in order too
pub rising_filter : {A : Type 0} (id : A → ℕ) (p : A → Bool) (low : ℕ) (xs : List A) → Rising id low xs → Rising id low (filter p xs)
rising_filter id p low [] r = tt
rising_filter id p low (z ∷ zs) r =
    cond_both (p z) (z ∷ filter p zs) (filter p zs) (λ l. Rising id low l)
    (λ _. (r.0, rising_filter id p (id z + 1) zs r.1))
    (λ _. rising_weaker id low (id z + 1) (filter p zs) (omega (arith, r.0)) (rising_filter id p (id z + 1) zs r.1))

pub has_filter : {A : Type 0} (p : A → Bool) (x : A) (xs : List A) → Has x (filter p xs) → Has x xs × (p x ≡ true)
has_filter p x [] h = absurd h
has_filter p x (z ∷ zs) h =
    cond_both (p z) (z ∷ filter p zs) (filter p zs) (λ l. Has x l → Has x (z ∷ zs) × (p x ≡ true))
    (λ e k. ⊎_elim (λ f. (inl f, ap p f ∙ e)) (λ m. let w = has_filter p x zs m in (inr w.0, w.1)) k)
    (λ e k. let w = has_filter p x zs k in (inr w.0, w.1))
    h

-- what a put list has
pub has_put : {A : Type 0} (cmp : A → A → Ordering) (x y : A) (xs : List A) → Has y (put cmp x xs) → (y ≡ x) ⊎ Has y xs
has_put cmp x y xs h =
    ⊎_elim (λ e. inl e) (λ m. inr (has_filter (λ z. not (is_eq (cmp z x))) y xs m).0) (has_placed cmp x y (others cmp x xs) h)

-- the others that it has are not of x's key
pub has_put_other : {A : Type 0} (cmp : A → A → Ordering) (x y : A) (xs : List A) → Has y (put cmp x xs) → (y ≡ x) ⊎ (Has y xs × (not (is_eq (cmp y x)) ≡ true))
has_put_other cmp x y xs h =
    ⊎_elim (λ e. inl e) (λ m. inr (has_filter (λ z. not (is_eq (cmp z x))) y xs m)) (has_placed cmp x y (others cmp x xs) h)

-- how numbers compare
pub less : (a b : ℕ) → is_lt (nat_cmp a b) ≡ true → a < b
less a b =
    cond_both (nat_lt a b) Less (cond (a == b) Equal Greater) (λ o. is_lt o ≡ true → a < b)
    (λ e _. ltb-true a b e)
    (λ _. cond_both (a == b) Equal Greater (λ o. is_lt o ≡ true → a < b) (λ _ k. absurd (both_ways (is_lt Equal) refl k)) (λ _ k. absurd (both_ways (is_lt Greater) refl k)))

pub not_less : (a b : ℕ) → is_lt (nat_cmp a b) ≡ false → b ≤ a
not_less = ge_from_not_lt

pub different : (a b : ℕ) → not (is_eq (nat_cmp a b)) ≡ true → a ≡ b → ⊥
different a b =
    cond_both (nat_lt a b) Less (cond (a == b) Equal Greater) (λ o. not (is_eq o) ≡ true → a ≡ b → ⊥)
    (λ e _ same. let l : a < b = ltb-true a b e in absurd (omega arith))
    (λ _. cond_both (a == b) Equal Greater (λ o. not (is_eq o) ≡ true → a ≡ b → ⊥)
    (λ _ k _. both_ways (not (is_eq Equal)) refl k)
    (λ e _ same. both_ways (a == b) e (eq-eqb a b same)))

pub same : (a b : ℕ) → is_eq (nat_cmp a b) ≡ true → a ≡ b
same a b =
    cond_both (nat_lt a b) Less (cond (a == b) Equal Greater) (λ o. is_eq o ≡ true → a ≡ b)
    (λ _ k. absurd (false≢true k))
    (λ _. cond_both (a == b) Equal Greater (λ o. is_eq o ≡ true → a ≡ b) (λ e _. eqb-true a b e) (λ _ k. absurd (false≢true k)))

pub equal : (a b : ℕ) → a ≡ b → is_eq (nat_cmp a b) ≡ true
equal a b e =
    cond_both (nat_lt a b) Less (cond (a == b) Equal Greater) (λ o. is_eq o ≡ true)
    (λ k. absurd (let l : a < b = ltb-true a b k in omega arith))
    (λ _. cond_both (a == b) Equal Greater (λ o. is_eq o ≡ true) (λ _. refl) (λ k. absurd (both_ways (a == b) k (eq-eqb a b e))))

pub unequal : (a b : ℕ) → (a ≡ b → ⊥) → not (is_eq (nat_cmp a b)) ≡ true
unequal a b d = ⊎_elim (λ e. absurd (d (same a b e))) (λ e. ap not e) (cases_Bool (is_eq (nat_cmp a b)))

-- a list with a record at its place rises too, where no other has its number
rising_placed : {A : Type 0} (id : A → ℕ) (x : A) (low : ℕ) (xs : List A) → ((y : A) → Has y xs → id y ≡ id x → ⊥) → Rising id low xs → low ≤ id x
    → Rising id low (placed (λ a b. nat_cmp (id a) (id b)) x xs)
rising_placed id x low [] others r h = (h, tt)
rising_placed id x low (z ∷ zs) others r h =
    cond_both (is_lt (nat_cmp (id z) (id x))) (z ∷ placed (λ a b. nat_cmp (id a) (id b)) x zs) (x ∷ z ∷ zs) (λ l. Rising id low l)
    (λ e. (r.0, rising_placed id x (id z + 1) zs (λ y k. others y (inr k)) r.1 (let l : id z < id x = less (id z) (id x) e in omega arith)))
    (λ e. (h, ((let l : id x ≤ id z = not_less (id z) (id x) e in let d : id z ≢ id x = others z (inl refl) in omega arith), r.1)))

-- a put list rises too
pub rising_put : {A : Type 0} (id : A → ℕ) (x : A) (low : ℕ) (xs : List A) → Rising id low xs → low ≤ id x → Rising id low (put (λ a b. nat_cmp (id a) (id b)) x xs)
rising_put id x low xs r h =
    let rest = λ (z : _). not (is_eq (nat_cmp (id z) (id x))) in
    rising_placed id x low (filter rest xs) (λ y k. different (id y) (id x) (has_filter rest y xs k).1) (rising_filter id rest low xs r) h

pub filter_has : {A : Type 0} (p : A → Bool) (x : A) (xs : List A) → Has x xs → p x ≡ true → Has x (filter p xs)
filter_has p x [] h e = absurd h
filter_has p x (z ∷ zs) h e =
    cond_both (p z) (z ∷ filter p zs) (filter p zs) (λ l. Has x l)
    (λ _. ⊎_elim (λ f. inl f) (λ m. inr (filter_has p x zs m e)) h)
    (λ no. ⊎_elim (λ f. absurd (both_ways (p z) no (ap p (sym f) ∙ e))) (λ m. filter_has p x zs m e) h)

-- a put list has the others
placed_has : {A : Type 0} (cmp : A → A → Ordering) (x y : A) (xs : List A) → Has y xs → Has y (placed cmp x xs)
placed_has cmp x y [] h = absurd h
placed_has cmp x y (z ∷ zs) h =
    cond_both (is_lt (cmp z x)) (z ∷ placed cmp x zs) (x ∷ z ∷ zs) (λ l. Has y l) (λ _. ⊎_elim (λ e. inl e) (λ m. inr (placed_has cmp x y zs m)) h) (λ _. inr h)

pub put_has : {A : Type 0} (cmp : A → A → Ordering) (x y : A) (xs : List A) → Has y xs → not (is_eq (cmp y x)) ≡ true → Has y (put cmp x xs)
put_has cmp x y xs h d = placed_has cmp x y (others cmp x xs) (filter_has (λ z. not (is_eq (cmp z x))) y xs h d)

-- x is what find finds at its number
pub find_has : {A : Type 0} (id : A → ℕ) (x : A) (low : ℕ) (xs : List A) → Rising id low xs → Has x xs → find (λ y. id y == id x) xs ≡ Some x
find_has id x low [] r h = absurd h
find_has id x low (z ∷ zs) r h =
    ⊎_elim
    (λ e. cond-true (id z == id x) (Some z) (find (λ y. id y == id x) zs) (eq-eqb (id z) (id x) (ap id (sym e))) ∙ ap (λ w. Some w) (sym e))
    (λ m. cond-false (id z == id x) (Some z) (find (λ y. id y == id x) zs) (ne_eqb (id z) (id x) (λ e. let q : id z + 1 ≤ id x = rising_from id x (id z + 1) zs r.1 m in absurd (omega arith)))
    ∙ find_has id x (id z + 1) zs r.1 m)
    h

-- a rising list has one record of a number
pub one_at : {A : Type 0} (id : A → ℕ) (a b : A) (low : ℕ) (xs : List A) → Rising id low xs → Has a xs → Has b xs → id a ≡ id b → a ≡ b
one_at id a b low xs r k l e =
    let both : Some a ≡ Some b = sym (find_has id a low xs r k) ∙ subst (λ n. find (λ y. id y == n) xs ≡ Some b) (sym e) (find_has id b low xs r l) in
    cc

-- what find finds
pub has_find : {A : Type 0} (p : A → Bool) (x : A) (xs : List A) → find p xs ≡ Some x → Has x xs × (p x ≡ true)
has_find p x [] h = absurd (cc)
has_find p x (z ∷ zs) h =
    cond_both (p z) (Some z) (find p zs) (λ o. o ≡ Some x → Has x (z ∷ zs) × (p x ≡ true))
    (λ e k. let f : z ≡ x = cc in (inl (sym f), ap p (sym f) ∙ e))
    (λ e k. let w = has_find p x zs k in (inr w.0, w.1))
    h

-- it is the least that passes
pub least_find : {A : Type 0} (id : A → ℕ) (p : A → Bool) (x y : A) (low : ℕ) (xs : List A) → Rising id low xs → find p xs ≡ Some x → Has y xs → p y ≡ true → id x ≤ id y
least_find id p x y low [] r h k e = absurd k
least_find id p x y low (z ∷ zs) r h k e =
    cond_both (p z) (Some z) (find p zs) (λ o. o ≡ Some x → id x ≤ id y)
    (λ f g. let same : z ≡ x = cc in subst (λ (w : _). id w ≤ id y) same
    (⊎_elim (λ q. subst (λ (w : _). id z ≤ id w) (sym q) (omega arith)) (λ m. omega (arith, rising_from id y (id z + 1) zs r.1 m)) k))
    (λ f g. ⊎_elim (λ q. absurd (both_ways (p z) f (ap p (sym q) ∙ e))) (λ m. least_find id p x y (id z + 1) zs r.1 g m e) k)
    h

-- the last of a rising list is the greatest
pub last_greatest : {A : Type 0} (id : A → ℕ) (a : A) (o : Option A) (low : ℕ) (xs : List A) → Rising id low xs → Has a xs → ((b : A) → Has b xs → id b ≤ id a) → last_or o xs ≡ Some a
last_greatest id a o low [] r h all = absurd h
last_greatest id a o low (z ∷ []) r h all = ⊎_elim (λ e. ap (λ w. Some w) (sym e)) (λ m. absurd m) h
last_greatest id a o low (z ∷ (y ∷ ys)) r h all =
    ⊎_elim
    (λ e. absurd (let b : id y ≤ id a = all y (inr (inl refl)) in let k : id a ≡ id z = ap id e in omega (arith, r.1.0)))
    (λ m. last_greatest id a (Some z) (id z + 1) (y ∷ ys) r.1 m (λ b k. all b (inr k)))
    h

-- none passes
pub filter_none : {A : Type 0} (p : A → Bool) (xs : List A) → ((x : A) → Has x xs → p x ≡ false) → filter p xs ≡ []
filter_none p [] h = refl
filter_none p (z ∷ zs) h = rw (h z (inl refl)) (filter_none p zs (λ x k. h x (inr k)))

-- where all that pass have one number, at most one does
pub filter_one : {A : Type 0} (id : A → ℕ) (p : A → Bool) (low : ℕ) (xs : List A) → Rising id low xs → ((a b : A) → Has a xs → Has b xs → p a ≡ true → p b ≡ true → id a ≡ id b) → length (filter p xs) ≤ 1
filter_one id p low [] r h = omega arith
filter_one id p low (z ∷ zs) r h =
    cond_both (p z) (z ∷ filter p zs) (filter p zs) (λ l. length l ≤ 1)
    (λ e. subst (λ (l : List _). length (z ∷ l) ≤ 1)
    (sym (filter_none p zs (λ x k. ⊎_elim
    (λ f. absurd (let same : id z ≡ id x = h z x (inl refl) (inr k) e f in omega (arith, rising_from id x (id z + 1) zs r.1 k)))
    (λ f. f) (cases_Bool (p x)))))
    (omega arith))
    (λ e. filter_one id p (id z + 1) zs r.1 (λ a b k l. h a b (inr k) (inr l)))

pub count_one : {A : Type 0} (id : A → ℕ) (p : A → Bool) (low : ℕ) (xs : List A) → Rising id low xs → ((a b : A) → Has a xs → Has b xs → p a ≡ true → p b ≡ true → id a ≡ id b) → count_by p xs ≤ 1
count_one id p low xs r h = subst (λ n. n ≤ 1) (length-filter p xs) (filter_one id p low xs r h)

pub all_from_has : {A : Type 0} (P : A → Type 0) (xs : List A) → ((x : A) → Has x xs → P x) → AllByRecursion P xs
all_from_has P [] h = tt
all_from_has P (z ∷ zs) h = (h z (inl refl), all_from_has P zs (λ x k. h x (inr k)))

pub All-from_has : {A : Type 0} (P : A → Type 0) (xs : List A) → ((x : A) → Has x xs → P x) → All P xs
All-from_has P xs h = All-from_recursion P xs (all_from_has P xs h)

pub contains_from_has : {A : Type 0} (x : A) (xs : List A) → Has x xs → Contains xs x
contains_from_has x [] h = absurd h
contains_from_has x (z ∷ zs) h =
    ⊎_elim
    (λ e. subst (Contains (z ∷ zs)) (sym e) (Contains-get_or (z ∷ zs) 0 z (omega arith)))
    (λ m. Contains-append_right (z ∷ []) zs x (contains_from_has x zs m)) h

-- what find finds in a mapped list
pub find-map : {A B : Type 0} (f : A → B) (p : B → Bool) (y : B) (xs : List A) → find p (map f xs) ≡ Some y → (x : A) × ((f x ≡ y) × (find (λ z. p (f z)) xs ≡ Some x))
find-map f p y [] h = absurd (cc)
find-map f p y (z ∷ zs) h =
    cond_both (p (f z)) (Some (f z)) (find p (map f zs))
    (λ o. o ≡ Some y → (x : _) × ((f x ≡ y) × (find (λ z. p (f z)) (z ∷ zs) ≡ Some x)))
    (λ e k. (z, ((let same : f z ≡ y = cc in same), cond-true (p (f z)) (Some z) (find (λ w. p (f w)) zs) e)))
    (λ e k. let w = find-map f p y zs k in (w.0, (w.1.0, cond-false (p (f z)) (Some z) (find (λ v. p (f v)) zs) e ∙ w.1.1)))
    h

-- the other way
pub has_from_contains : {A : Type 0} (x : A) (xs : List A) → Contains xs x → Has x xs
has_from_contains x xs c = at c.0 xs c.1 c.2
  where
    at : (k : ℕ) (ys : List _) → k < length ys → slice_index_or ys k x ≡ x → Has x ys
    at k [] l e = absurd (omega arith)
    at zero (y ∷ ys) l e = inl (sym e)
    at (suc k) (y ∷ ys) l e = inr (at k ys (omega arith) e)

pub has_from_all : {A : Type 0} (P : A → Type 0) (x : A) (xs : List A) → All P xs → Has x xs → P x
has_from_all P x xs all k = let c = contains_from_has x xs k in subst P c.2 (all c.0 x c.1)

-- all numbers are less than n
abbrev pub Below : {A : Type 0} → (A → ℕ) → ℕ → List A → Type 0
Below {A} id n xs = (x : A) → Has x xs → id x < n

-- a record of the list has this number
abbrev pub Named : {A : Type 0} → (A → ℕ) → ℕ → List A → Type 0
Named {A} id n xs = (x : A) × (Has x xs × (id x ≡ n))

pub has_map : {A B : Type 0} (f : A → B) (x : A) (xs : List A) → Has x xs → Has (f x) (map f xs)
has_map f x [] k = absurd k
has_map f x (z ∷ zs) k = ⊎_elim (λ e. inl (ap f e)) (λ m. inr (has_map f x zs m)) k

pub map_has : {A B : Type 0} (f : A → B) (y : B) (xs : List A) → Has y (map f xs) → (x : A) × (Has x xs × (f x ≡ y))
map_has f y [] k = absurd k
map_has f y (z ∷ zs) k = ⊎_elim (λ e. (z, (inl refl, sym e))) (λ m. let w = map_has f y zs m in (w.0, (inr w.1.0, w.1.1))) k

pub contains_named : {A : Type 0} (id : A → ℕ) (n : ℕ) (xs : List A) → Named id n xs → Contains (map id xs) n
contains_named id n xs w = contains_from_has n (map id xs) (subst (λ m. Has m (map id xs)) w.1.1 (has_map id w.0 xs w.1.0))

pub named_contains : {A : Type 0} (id : A → ℕ) (n : ℕ) (xs : List A) → Contains (map id xs) n → Named id n xs
named_contains id n xs c = map_has id n xs (has_from_contains n (map id xs) c)

-- tests that agree on a list's members filter it alike
pub filter_same : {A : Type 0} (p q : A → Bool) (xs : List A) → ((x : A) → Has x xs → p x ≡ q x) → filter p xs ≡ filter q xs
filter_same p q [] h = refl
filter_same p q (x ∷ xs) h = λ i. cond (h x (inl refl) i) (x ∷ filter_same p q xs (λ y k. h y (inr k)) i) (filter_same p q xs (λ y k. h y (inr k)) i)

-- records rise as their numbers do
pub map_rises : {A : Type 0} (id : A → ℕ) (low : ℕ) (xs : List A) → Rising id low xs → Rising (λ n. n) low (map id xs)
map_rises id low [] r = tt
map_rises id low (x ∷ xs) r = (r.0, map_rises id (id x + 1) xs r.1)

pub rises_from_map : {A : Type 0} (id : A → ℕ) (low : ℕ) (xs : List A) → Rising (λ n. n) low (map id xs) → Rising id low xs
rises_from_map id low [] r = tt
rises_from_map id low (x ∷ xs) r = (r.0, rises_from_map id (id x + 1) xs r.1)
