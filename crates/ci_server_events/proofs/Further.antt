-- What a loop puts behind, one item further along a list.
use Rattle.std.proofs.Common.{◌≡◌, ℕ, ◌+◌, ◌<◌, List, [], ◌∷◌, ◌++◌, length, get_or, drop, map, append_assoc, sym, ap, ◌∙◌}
use Rattle.std.proofs.lemmas.List.{at_drop_more}

pub pushed_further : {A B : Type 0} (f : A → B) (xs : List A) (d : A) (now : List B) {i : ℕ} {y : B} {new before : List B} → i < length xs → new ≡ now ++ y ∷ [] → y ≡ f (get_or xs i d)
    → now ++ map f (drop i xs) ≡ before → new ++ map f (drop (i + 1) xs) ≡ before
pushed_further f xs d now {i = i} {y = y} lt is same was =
    let rest = map f (drop (i + 1) xs) in
    ap (λ bs. bs ++ rest) is ∙ (append_assoc now (y ∷ []) rest ∙ ((λ k. now ++ same k ∷ rest) ∙ (ap (λ bs. now ++ bs) (sym (at_drop_more (map f) xs i d lt)) ∙ was)))
