-- What is found in lists of records, and lists in their order.
use Rattle.std.proofs.Common.{◌≡◌, Bool, true, false, ◌||◌, List, [], ◌∷◌, ◌++◌, map, find, Some, option_map, Ordering, Less, Equal, refl, sym, ap, ◌∙◌, ⊎_elim}
use Rattle.std.specs.List.{list_any}
use Rattle.std.specs.Option.{option_or}
use Rattle.std.proofs.lemmas.List.Folds.{find-append}
use Rattle.std.specs.List.Sorted.{IsStrictlySortedBy}
use Rattle.std.proofs.lemmas.Bool.{cond_both, cond-true, cond-false, cases_Bool, both_ways, false≢true}
use Rattle.ci_machine.proofs.Keyed.{Has, all_from_has, has_from_all}
use Rattle.ci_machine.proofs.Tests.{has_any}
use Rattle.std.proofs.lemmas.List.Elements.{All-from_recursion}
use Rattle.ci_machine_steps.proofs.Variables.{Ordered}

-- ---- what is found

pub find_any : {A : Type 0} (p : A → Bool) (xs : List A) → list_any p xs ≡ true → (x : A) × (find p xs ≡ Some x)
find_any p [] e = absurd (false≢true e)
find_any p (x ∷ xs) e =
    cond_both (p x) (Some x) (find p xs) (λ o. (y : _) × (o ≡ Some y)) (λ _. (x, refl)) (λ f. find_any p xs (sym (ap (λ b. b || list_any p xs) f) ∙ e))

pub none_any : {A : Type 0} (p : A → Bool) (x : A) (xs : List A) → list_any p xs ≡ false → Has x xs → p x ≡ false
none_any p x xs e h = ⊎_elim (λ t. absurd (both_ways (list_any p xs) e (has_any p x xs h t))) (λ f. f) (cases_Bool (p x))

pub find_left : {A : Type 0} (p : A → Bool) (x : A) (xs ys : List A) → find p xs ≡ Some x → find p (xs ++ ys) ≡ Some x
find_left p x xs ys e = find-append p xs ys ∙ ap (λ o. option_or o (find p ys)) e

pub find_mapped : {A : Type 0} (p : A → Bool) (f : A → A) (xs : List A) → ((x : A) → p (f x) ≡ p x) → find p (map f xs) ≡ option_map f (find p xs)
find_mapped p f [] same = refl
find_mapped p f (x ∷ xs) same =
    cond_both (p x) (Some x) (find p xs) (λ o. find p (map f (x ∷ xs)) ≡ option_map f o)
    (λ t. cond-true (p (f x)) (Some (f x)) (find p (map f xs)) (same x ∙ t)) (λ e. cond-false (p (f x)) (Some (f x)) (find p (map f xs)) (same x ∙ e) ∙ find_mapped p f xs same)

-- ---- lists in their order

pub ordered : {A : Type 0} (cmp : A → A → Ordering) (xs : List A) → IsStrictlySortedBy cmp xs → Ordered cmp xs
unfolding IsStrictlySortedBy
ordered cmp [] a = tt
ordered cmp (x ∷ xs) a = ((λ y h. has_from_all (λ z. cmp x z ≡ Less) y xs (All-from_recursion (λ z. cmp x z ≡ Less) xs a.0) h), ordered cmp xs a.1)

pub ascends : {A : Type 0} (cmp : A → A → Ordering) (xs : List A) → Ordered cmp xs → IsStrictlySortedBy cmp xs
unfolding IsStrictlySortedBy
ascends cmp [] o = tt
ascends cmp (x ∷ xs) o = (all_from_has (λ z. cmp x z ≡ Less) xs o.0, ascends cmp xs o.1)

not_both : (r : Ordering) → r ≡ Less → r ≡ Equal → ⊥
not_both r e f = let g : Less ≡ Equal = sym e ∙ f in absurd (cc)

-- no two of them have one key
pub one_of : {A : Type 0} (cmp : A → A → Ordering) (x y : A) (xs : List A) → Ordered cmp xs → Has x xs → Has y xs → cmp x y ≡ Equal → cmp y x ≡ Equal → x ≡ y
one_of cmp x y [] o h k e f = absurd h
one_of cmp x y (z ∷ zs) o h k e f =
    ⊎_elim
    (λ p. ⊎_elim (λ q. p ∙ sym q) (λ n. absurd (not_both (cmp x y) (ap (λ (w : _). cmp w y) p ∙ o.0 y n) e)) k)
    (λ m. ⊎_elim (λ q. absurd (not_both (cmp y x) (ap (λ (w : _). cmp w x) q ∙ o.0 x m) f)) (λ n. one_of cmp x y zs o.1 m n e f) k)
    h
