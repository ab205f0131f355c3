-- The variables of a request, text by text.
use Rattle.std.proofs.Common.{◌≡◌, ◌∙◌, ◌<◌, ◌+◌, ◌||◌, ℕ, Bool, true, false, refl, sym, ap, arith, List, [], ◌∷◌, ◌++◌, length, drop, get_or, map, Option, None, suc, zero}
use Rattle.std.specs.Borrow.{Bor}
use Rattle.std.specs.Str.{bytes_eq}
use Rattle.std.proofs.lemmas.List.{map-append}
use Rattle.clap.specs.Walk.{Text}
use Rattle.ci_cli_words.specs.Words.{Pair, is_among, is_variable, pairs, parted, variables_after}

abbrev texts : List (Bor Text) → List Text
texts = map (λ s. s.now)

-- the texts from the i-th on begin with it
texts_from : (xs : List (Bor Text)) (i : ℕ) (d : Bor Text) → i < length xs → drop i (texts xs) ≡ (get_or xs i d).now ∷ drop (i + 1) (texts xs)
texts_from [] i d lt = absurd (omega arith)
texts_from (y ∷ ys) zero d lt = refl
texts_from (y ∷ ys) (suc i) d lt =
    let here = texts_from ys i d (omega arith) in
    let next : suc i + 1 ≡ suc (i + 1) = omega arith in
    rw next here

module _ (seen : List (Bor Text × Bor Text)) (xs : List (Bor Text)) (i : ℕ) (d : Bor Text) (all : Option (List Pair)) where
  -- a variable is taken behind those that were taken before
  pub one_taken : (x : Bor Text × Bor Text) → i < length xs → is_variable (pairs seen) (get_or xs i d).now ≡ true → parted (get_or xs i d).now ≡ (x.0.now, x.1.now)
      → variables_after (pairs seen) (drop i (texts xs)) ≡ all → variables_after (pairs (seen ++ x ∷ [])) (drop (i + 1) (texts xs)) ≡ all
  one_taken x lt is two h =
      let from = texts_from xs i d lt in
      let step : variables_after (pairs seen) ((get_or xs i d).now ∷ drop (i + 1) (texts xs)) ≡ variables_after (pairs seen ++ parted (get_or xs i d).now ∷ []) (drop (i + 1) (texts xs)) = rw is refl in
      let more : pairs (seen ++ x ∷ []) ≡ pairs seen ++ (x.0.now, x.1.now) ∷ [] = map-append (λ p. (p.0.now, p.1.now)) seen (x ∷ []) in
      ap (λ ps. variables_after ps (drop (i + 1) (texts xs))) (more ∙ ap (λ p. pairs seen ++ p ∷ []) (sym two)) ∙ (sym step ∙ (ap (variables_after (pairs seen)) (sym from) ∙ h))

  pub one_refused : i < length xs → is_variable (pairs seen) (get_or xs i d).now ≡ false → variables_after (pairs seen) (drop i (texts xs)) ≡ all → None ≡ all
  one_refused lt is h =
      let from = texts_from xs i d lt in
      let step : variables_after (pairs seen) ((get_or xs i d).now ∷ drop (i + 1) (texts xs)) ≡ None = rw is refl in
      sym step ∙ (ap (variables_after (pairs seen)) (sym from) ∙ h)

-- one of them has the name
pub among_at : (xs : List (Bor Text × Bor Text)) (i : ℕ) (d : Bor Text × Bor Text) (name : Text) → i < length xs → bytes_eq (get_or xs i d).0.now name ≡ true → is_among (pairs xs) name ≡ true
among_at [] i d name lt e = absurd (omega arith)
among_at (x ∷ xs) zero d name lt e = rw e refl
among_at (x ∷ xs) (suc i) d name lt e =
    let later = among_at xs i d name (omega arith) e in
    go (bytes_eq x.0.now name) later
  where
    go : (b : Bool) → is_among (pairs xs) name ≡ true → (b || is_among (pairs xs) name) ≡ true
    go true h = refl
    go false h = h
