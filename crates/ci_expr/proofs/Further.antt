-- What a search finds in a list, one item further along it.
use Rattle.std.proofs.Common.{◌≡◌, ℕ, ◌+◌, ◌<◌, Bool, true, false, List, ◌∷◌, length, get_or, drop, sym, ap, ◌∙◌, ◌||◌}
use Rattle.std.proofs.lemmas.List.{at_drop_more}

-- it finds it at this item, or in the rest
module _ {A : Type 0} (finds : List A → Bool) (test : A → Bool) (gives : (x : A) (xs : List A) → finds (x ∷ xs) ≡ (test x || finds xs)) where
  further : (xs : List A) {i : ℕ} {x : A} {all here : Bool} → i < length xs → x ≡ get_or xs i x → finds (drop i xs) ≡ all → test x ≡ here → (here || finds (drop (i + 1) xs)) ≡ all
  further xs {i = i} {x = x} lt is was e =
      ap (λ b. b || finds (drop (i + 1) xs)) (sym e) ∙ sym (gives x (drop (i + 1) xs)) ∙ ap (λ y. finds (y ∷ drop (i + 1) xs)) is ∙ sym (at_drop_more finds xs i x lt) ∙ was

  pub goes_on : (xs : List A) {i : ℕ} {x : A} {all : Bool} → i < length xs → x ≡ get_or xs i x → finds (drop i xs) ≡ all → test x ≡ false → finds (drop (i + 1) xs) ≡ all
  goes_on xs {i = i} {x = x} {all = all} lt is was e = further xs {i = i} {x = x} {all = all} {here = false} lt is was e

  pub finds_here : (xs : List A) {i : ℕ} {x : A} {all : Bool} → i < length xs → x ≡ get_or xs i x → finds (drop i xs) ≡ all → test x ≡ true → true ≡ all
  finds_here xs {i = i} {x = x} {all = all} lt is was e = further xs {i = i} {x = x} {all = all} {here = true} lt is was e
