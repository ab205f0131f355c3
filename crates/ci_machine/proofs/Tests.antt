-- Tests of the members of a list, of a mapped list, and of joined lists.
use Rattle.std.proofs.Common.{◌≡◌, Bool, true, ◌||◌, List, [], ◌∷◌, map, flat_map, refl, sym, ap, ◌∙◌, inl, inr, ⊎_elim}
use Rattle.std.specs.List.{list_any}
use Rattle.std.proofs.lemmas.Bool.{cases_Bool, false≢true}
use Rattle.std.proofs.lemmas.List.Folds.{list_any-append}
use Rattle.ci_machine.proofs.Keyed.{Has}

-- one that passes
pub any_has : {A : Type 0} (p : A → Bool) (xs : List A) → list_any p xs ≡ true → (x : A) × (Has x xs × (p x ≡ true))
any_has p [] e = absurd (false≢true e)
any_has p (x ∷ xs) e =
    ⊎_elim (λ t. (x, (inl refl, t))) (λ f. let w = any_has p xs (sym (ap (λ b. b || list_any p xs) f) ∙ e) in (w.0, (inr w.1.0, w.1.1))) (cases_Bool (p x))

pub has_any : {A : Type 0} (p : A → Bool) (x : A) (xs : List A) → Has x xs → p x ≡ true → list_any p xs ≡ true
has_any p x [] h e = absurd h
has_any p x (y ∷ ys) h e =
    ⊎_elim (λ s. ap (λ b. b || list_any p ys) (ap p (sym s) ∙ e))
    (λ m. ⊎_elim (λ t. ap (λ b. b || list_any p ys) t) (λ f. ap (λ b. b || list_any p ys) f ∙ has_any p x ys m e) (cases_Bool (p y))) h

-- as the function's values are tested
pub any_mapped : {A B : Type 0} (p : B → Bool) (f : A → B) (xs : List A) → list_any (λ x. p (f x)) xs ≡ list_any p (map f xs)
any_mapped p f [] = refl
any_mapped p f (x ∷ xs) = ap (λ t. p (f x) || t) (any_mapped p f xs)

-- as the lists are tested, one by one
pub any_joined : {A B : Type 0} (p : B → Bool) (f : A → List B) (xs : List A) → list_any (λ x. list_any p (f x)) xs ≡ list_any p (flat_map f xs)
any_joined p f [] = refl
any_joined p f (x ∷ xs) = ap (λ t. list_any p (f x) || t) (any_joined p f xs) ∙ sym (list_any-append p (f x) (flat_map f xs))
