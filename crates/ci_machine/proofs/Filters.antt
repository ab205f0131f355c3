-- Lists that are filtered more than once.
use Rattle.std.proofs.Common.{◌≡◌, ℕ, Bool, true, false, cond, ◌==◌, ◌&&◌, ◌||◌, not, List, [], ◌∷◌, filter, find, map, Some, nat_cmp, is_eq, refl, sym, ap, subst, ◌∙◌, inl, inr}
use Rattle.std.proofs.Common.{⊎_elim, eqb-true, eq-eqb}
use Rattle.std.specs.List.{list_any}
use Rattle.std.proofs.lemmas.Bool.{cond_both, cond-true, cond-false, both_ways, cases_Bool}
use Rattle.ci_machine.specs.Prelude.{without, without_all}
use Rattle.ci_machine.proofs.Keyed.{Has, Rising, one_at, has_filter, filter_has, filter_same, has_map, map_has, same, equal}
use Rattle.ci_machine.proofs.Tests.{any_has, has_any}

fails : (b : Bool) → (b ≡ true → ⊥) → b ≡ false
fails true d = absurd (d refl)
fails false d = refl

-- what passes p passes q
pub filter_implied : {A : Type 0} (p q : A → Bool) (xs : List A) → ((x : A) → Has x xs → p x ≡ true → q x ≡ true) → filter p (filter q xs) ≡ filter p xs
filter_implied p q [] h = refl
filter_implied p q (x ∷ xs) h =
    cond_both (q x) (x ∷ filter q xs) (filter q xs) (λ l. filter p l ≡ filter p (x ∷ xs))
    (λ e. ap (λ l. cond (p x) (x ∷ l) l) (filter_implied p q xs (λ y k. h y (inr k))))
    (λ e. filter_implied p q xs (λ y k. h y (inr k)) ∙ sym (cond-false (p x) (x ∷ filter p xs) (filter p xs) (fails (p x) (λ t. both_ways (q x) e (h x (inl refl) t)))))

pub find_implied : {A : Type 0} (p q : A → Bool) (xs : List A) → ((x : A) → Has x xs → p x ≡ true → q x ≡ true) → find p (filter q xs) ≡ find p xs
find_implied p q [] h = refl
find_implied p q (x ∷ xs) h =
    cond_both (q x) (x ∷ filter q xs) (filter q xs) (λ l. find p l ≡ find p (x ∷ xs))
    (λ e. ap (λ o. cond (p x) (Some x) o) (find_implied p q xs (λ y k. h y (inr k))))
    (λ e. find_implied p q xs (λ y k. h y (inr k)) ∙ sym (cond-false (p x) (Some x) (find p xs) (fails (p x) (λ t. both_ways (q x) e (h x (inl refl) t)))))

-- all pass
pub filter_all : {A : Type 0} (p : A → Bool) (xs : List A) → ((x : A) → Has x xs → p x ≡ true) → filter p xs ≡ xs
filter_all p [] h = refl
filter_all p (z ∷ zs) h = cond-true (p z) (z ∷ filter p zs) (filter p zs) (h z (inl refl)) ∙ ap (λ l. z ∷ l) (filter_all p zs (λ x k. h x (inr k)))

-- what passes both tests passes this one
pub filter_both : {A : Type 0} (p q both : A → Bool) (xs : List A) → ((x : A) → both x ≡ p x && q x) → filter q (filter p xs) ≡ filter both xs
filter_both p q both [] h = refl
filter_both p q both (x ∷ xs) h =
    cond_both (p x) (x ∷ filter p xs) (filter p xs) (λ l. filter q l ≡ filter both (x ∷ xs))
    (λ e. let w : q x ≡ both x = sym (h x ∙ ap (λ t. t && q x) e) in let rest = filter_both p q both xs h in λ i. cond (w i) (x ∷ rest i) (rest i))
    (λ e. filter_both p q both xs h ∙ sym (cond-false (both x) (x ∷ filter both xs) (filter both xs) (h x ∙ ap (λ t. t && q x) e)))

-- what passes by what it is mapped to
pub map_filter : {A B : Type 0} (f : A → B) (p : B → Bool) (xs : List A) → map f (filter (λ x. p (f x)) xs) ≡ filter p (map f xs)
map_filter f p [] = refl
map_filter f p (x ∷ xs) =
    cond_both (p (f x)) (x ∷ filter (λ y. p (f y)) xs) (filter (λ y. p (f y)) xs) (λ l. map f l ≡ filter p (f x ∷ map f xs))
    (λ e. ap (λ l. f x ∷ l) (map_filter f p xs) ∙ sym (cond-true (p (f x)) (f x ∷ filter p (map f xs)) (filter p (map f xs)) e))
    (λ e. map_filter f p xs ∙ sym (cond-false (p (f x)) (f x ∷ filter p (map f xs)) (filter p (map f xs)) e))

-- a change that a test doesn't see leaves what passes it
pub filter-map : {A : Type 0} (p : A → Bool) (f : A → A) (xs : List A) → ((x : A) → Has x xs → p (f x) ≡ p x) → filter p (map f xs) ≡ map f (filter p xs)
filter-map p f xs h = sym (map_filter f p xs) ∙ ap (map f) (filter_same (λ x. p (f x)) p xs h)

-- ---- records that go by their numbers

-- a number is compared as it is tested
pub unlike : (a b : ℕ) → not (is_eq (nat_cmp a b)) ≡ not (b == a)
unlike a b =
    ⊎_elim
    (λ (e : (b == a) ≡ true). ap not (equal a b (sym (eqb-true b a e)) ∙ sym e))
    (λ (e : (b == a) ≡ false). ap not (fails (is_eq (nat_cmp a b)) (λ t. both_ways (b == a) e (eq-eqb b a (sym (same a b t)))) ∙ sym e))
    (cases_Bool (b == a))

abbrev one_of : List ℕ → ℕ → Bool
one_of ns m = list_any (λ n. n == m) ns

de_morgan : (a b : Bool) → not (a || b) ≡ not a && not b
de_morgan true b = refl
de_morgan false b = refl

-- what is left has none of the numbers
pub all_gone : {A : Type 0} (id : A → ℕ) (ns : List ℕ) (xs : List A) → without_all id ns xs ≡ filter (λ x. not (list_any (λ n. n == id x) ns)) xs
all_gone id [] xs = sym (filter_all (λ x. true) xs (λ x k. refl))
all_gone id (n ∷ ns) xs =
    all_gone id ns (without id n xs)
    ∙ filter_both (λ x. not (is_eq (nat_cmp (id x) n))) (λ x. not (one_of ns (id x))) (λ x. not (one_of (n ∷ ns) (id x))) xs
    (λ x. de_morgan (n == id x) (one_of ns (id x)) ∙ ap (λ t. t && not (one_of ns (id x))) (sym (unlike (id x) n)))

-- where no two have one number, those go that pass the test
pub those_gone : {A : Type 0} (id : A → ℕ) (test : A → Bool) (xs : List A) → Rising id 0 xs → without_all id (map id (filter test xs)) xs ≡ filter (λ x. not (test x)) xs
those_gone {A} id test xs rise =
    all_gone id (map id (filter test xs)) xs ∙ filter_same (λ x. not (one_of (map id (filter test xs)) (id x))) (λ x. not (test x)) xs (λ x k. ap not (known x k))
  where
    here : (x : A) → Has x xs → one_of (map id (filter test xs)) (id x) ≡ true → test x ≡ true
    here x k e =
        let n = any_has (λ m. m == id x) (map id (filter test xs)) e in
        let w = map_has id n.0 (filter test xs) n.1.0 in
        let of = has_filter test w.0 xs w.1.0 in
        subst (λ (y : A). test y ≡ true) (one_at id w.0 x 0 xs rise of.0 k (w.1.1 ∙ eqb-true n.0 (id x) n.1.1)) of.1

    known : (x : A) → Has x xs → one_of (map id (filter test xs)) (id x) ≡ test x
    known x k =
        ⊎_elim
        (λ (e : test x ≡ true). has_any (λ m. m == id x) (id x) (map id (filter test xs)) (has_map id x (filter test xs) (filter_has test x xs k e)) (eq-eqb (id x) (id x) refl) ∙ sym e)
        (λ (e : test x ≡ false). fails (one_of (map id (filter test xs)) (id x)) (λ t. both_ways (test x) e (here x k t)) ∙ sym e)
        (cases_Bool (test x))
