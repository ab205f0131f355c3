-- Records that pass a test, where another one is put, and sheets that are found.
use Rattle.std.proofs.Common.{◌≡◌, ◌==◌, ◌&&◌, ℕ, Bool, true, false, not, List, [], ◌∷◌, ◌++◌, filter, find, drop, All, Option, Some, None, IfSome, OnSome, option_to_list, Result, Ok, Err}
use Rattle.std.proofs.Common.{is_ok, Ordering, is_eq, refl, sym, subst, ◌∙◌, ⊎_elim, arith, eqb-true}
use Rattle.std.specs.Result.{result_ok}
use Rattle.std.proofs.lemmas.List.{append-nil}
use Rattle.std.proofs.lemmas.List.Elements.{All-drop, All-push}
use Rattle.std.proofs.lemmas.Bool.{and_parts}
use Rattle.ci_machine_steps.specs.Prelude.{Kept, placed, others, put}
use Rattle.ci_machine.proofs.Filters.{filter_implied}
use Rattle.ci_machine.proofs.Keyed.{Has, has_find, has_put, has_from_all, All-from_has}
use Rattle.ci_server_lookups.specs.declared.sheet.Sheet.{Sheet}
use Rattle.ci_server_lookups.specs.Prelude.{IsRight}

-- a record that doesn't pass, put in anywhere, changes nothing of those that pass
pub other_placed : {A : Type 0} (cmp : A → A → Ordering) (test : A → Bool) (x : A) (xs : List A) → test x ≡ false → filter test (placed cmp x xs) ≡ filter test xs
other_placed cmp test x [] f = grind arith
other_placed cmp test x (z ∷ zs) f = grind (arith, other_placed cmp test x zs f)

-- where the record doesn't pass, and none that passes has its key, those that pass stay
pub other_put : {A : Type 0} (cmp : A → A → Ordering) (test : A → Bool) (x : A) (xs : List A) → test x ≡ false
    → ((y : A) → Has y xs → test y ≡ true → not (is_eq (cmp y x)) ≡ true) → filter test (put cmp x xs) ≡ filter test xs
other_put cmp test x xs f apart =
    other_placed cmp test x (others cmp x xs) f ∙ filter_implied test (λ y. not (is_eq (cmp y x))) xs apart

-- what holds of all, and of one more, holds of the last of them with it
pub all_more : {A : Type 0} (P : A → Type 0) (n : ℕ) (x : A) (xs ys : List A) → ys ≡ drop n xs ++ x ∷ [] → All P xs → P x → All P ys
all_more P n x xs ys is all one = subst (λ (l : List _). All P l) (sym is) (All-push P (drop n xs) x (All-drop P n xs all) one)

-- and of one that is added, if one is
pub all_with : {A : Type 0} (P : A → Type 0) (o : Option A) (xs ys : List A) → ys ≡ xs ++ option_to_list o → All P xs → IfSome o P → All P ys
all_with P None xs ys is all one = subst (λ (l : List _). All P l) (sym (is ∙ append-nil xs)) all
all_with P (Some x) xs ys is all one = all_more P 0 x xs ys is all one

-- and of those among which one of which it holds is put
pub all_put : {A : Type 0} (P : A → Type 0) (cmp : A → A → Ordering) (x : A) (xs : List A) → All P xs → P x → All P (put cmp x xs)
all_put P cmp x xs all one = All-from_has P (put cmp x xs) (λ y h. ⊎_elim (λ e. subst P (sym e) one) (λ m. has_from_all P y xs all m) (has_put cmp x y xs h))

-- what holds of all holds of one that is found
pub all_found : {A : Type 0} (P : A → Type 0) (test : A → Bool) (x : A) (xs : List A) → find test xs ≡ Some x → All P xs → P x × (test x ≡ true)
all_found P test x xs is all = let w = has_find test x xs is in (has_from_all P x xs all w.0, w.1)

-- a sheet that is found by its two numbers is right, and has them
pub between_found : (first last : ℕ) (m : Sheet) (sheets : List Sheet) (k : Kept) → find (λ m. m.first == first && m.last == last) sheets ≡ Some m → All (λ m. IsRight m k) sheets
    → IsRight m k × (m.first ≡ first) × (m.last ≡ last)
between_found first last m sheets k is all =
    let it = all_found (λ (s : Sheet). IsRight s k) (λ s. s.first == first && s.last == last) m sheets is all in
    let its = and_parts (m.first == first) (m.last == last) it.1 in
    (it.0, eqb-true m.first first its.0, eqb-true m.last last its.1)

pub both : (a b : Bool) → (a && b) ≡ true → (a ≡ true) × (b ≡ true)
both = and_parts

pub both_some : {A : Type 0} (P Q : Type 0) (o : Option A) → OnSome o P → OnSome o Q → OnSome o (P × Q)
both_some P Q None p q = tt
both_some P Q (Some x) p q = (p, q)

pub ok_if_some : {A E : Type 0} (r : Result A E) (x : A) → result_ok r ≡ Some x → is_ok r ≡ true
ok_if_some (Ok y) x e = refl
ok_if_some (Err w) x e = cc
