-- What a loop puts behind, one item further along a list.
use Rattle.std.proofs.Common.{◌≡◌, ℕ, ◌+◌, ◌<◌, List, [], ◌∷◌, ◌++◌, length, get_or, drop, map, flat_map, append_assoc, refl, sym, ap, ◌∙◌}
use Rattle.std.proofs.lemmas.List.{at_drop_more}

module _ {A B : Type 0} where
  -- the rest of the list gives what its first item gives, and then what the others do
  further : (rest : List A → List B) (piece : A → List B) (xs : List A) (d : A) (now : List B) {i : ℕ} {new before : List B} → ((x : A) (ys : List A) → rest (x ∷ ys) ≡ piece x ++ rest ys)
      → i < length xs → new ≡ now ++ piece (get_or xs i d) → now ++ rest (drop i xs) ≡ before → new ++ rest (drop (i + 1) xs) ≡ before
  further rest piece xs d now {i = i} gives lt is was =
      ap (λ bs. bs ++ rest (drop (i + 1) xs)) is
      ∙ append_assoc now (piece (get_or xs i d)) (rest (drop (i + 1) xs))
      ∙ ap (λ bs. now ++ bs) (sym (at_drop_more rest xs i d lt ∙ gives (get_or xs i d) (drop (i + 1) xs)))
      ∙ was

  pub item_further : (rest : List A → List B) (piece : A → List B) (xs : List A) (now : List B) {i : ℕ} {x : A} {new before : List B} → ((y : A) (ys : List A) → rest (y ∷ ys) ≡ piece y ++ rest ys)
      → i < length xs → x ≡ get_or xs i x → new ≡ now ++ piece x → now ++ rest (drop i xs) ≡ before → new ++ rest (drop (i + 1) xs) ≡ before
  item_further rest piece xs now {x = x} gives lt here is was = further rest piece xs x now gives lt (is ∙ ap (λ y. now ++ piece y) here) was

  pub lines_further : (line : A → List B) (xs : List A) (now : List B) {i : ℕ} {x : A} {new before : List B} → i < length xs → x ≡ get_or xs i x → new ≡ now ++ line x
      → now ++ flat_map line (drop i xs) ≡ before → new ++ flat_map line (drop (i + 1) xs) ≡ before
  lines_further line xs now {x = x} lt here is was = further (flat_map line) line xs x now (λ y ys. refl) lt (is ∙ ap (λ y. now ++ line y) here) was

  pub pushed_further : (f : A → B) (xs : List A) (d : A) (now : List B) {i : ℕ} {y : B} {new before : List B} → i < length xs → new ≡ now ++ y ∷ [] → y ≡ f (get_or xs i d)
      → now ++ map f (drop i xs) ≡ before → new ++ map f (drop (i + 1) xs) ≡ before
  pushed_further f xs d now lt is same was = further (map f) (λ x. f x ∷ []) xs d now (λ x ys. refl) lt (is ∙ ap (λ z. now ++ z ∷ []) same) was
