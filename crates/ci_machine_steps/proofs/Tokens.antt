-- A token holds its number.
use Rattle.std.proofs.Common.{◌≡◌, ℕ, ◌<◌, ◌^◌, List, [], ◌∷◌, ◌++◌, codes, refl, sym, ap, ap₂, subst, ◌∙◌, arith}
use Rattle.std.specs.Fmt.{decimal}
use Rattle.std.specs.Char.{digit_value}
use Rattle.std.specs.Str.Parse.{AllDigits, digits_value}
use Rattle.std.proofs.lemmas.Fmt.{decimal_is_IsNumeral}
use Rattle.hex.specs.Hex.{encode_lower}
use Rattle.ci_machine_steps.specs.Prelude.{Seed, token_of}

cancel : (xs ys zs : List ℕ) → xs ++ ys ≡ xs ++ zs → ys ≡ zs
cancel [] ys zs e = e
cancel (x ∷ xs) ys zs e = let f : xs ++ ys ≡ xs ++ zs = cc in cancel xs ys zs f

not_dash : (c : ℕ) → digit_value c < 10 → c ≡ 45 → ⊥
not_dash c l e = absurd (let h : digit_value 45 < 10 = subst (λ (n : ℕ). digit_value n < 10) e l in omega (arith, h))

digits_before : (ds es r t : List ℕ) → AllDigits 10 ds → AllDigits 10 es → ds ++ 45 ∷ r ≡ es ++ 45 ∷ t → ds ≡ es
digits_before [] [] r t a b e = refl
digits_before [] (y ∷ ys) r t a b e = absurd (not_dash y b.0 (let h : y ≡ 45 = cc in h))
digits_before (x ∷ xs) [] r t a b e = absurd (not_dash x a.0 (let h : x ≡ 45 = cc in h))
digits_before (x ∷ xs) (y ∷ ys) r t a b e =
    let h : x ≡ y = cc in let k : xs ++ 45 ∷ r ≡ ys ++ 45 ∷ t = cc in ap₂ (λ c cs. c ∷ cs) h (digits_before xs ys r t a.1 b.1 k)

pub same_number : (letter : List ℕ) (n m : ℕ) (s t : Seed) → n < 2 ^ 64 → m < 2 ^ 64 → token_of letter n s ≡ token_of letter m t → n ≡ m
same_number letter n m s t ln lm e =
    let a = decimal_is_IsNumeral n ln in
    let b = decimal_is_IsNumeral m lm in
    let f = cancel letter (decimal n ++ (codes "-" ++ encode_lower s.0)) (decimal m ++ (codes "-" ++ encode_lower t.0)) e in
    let g : decimal n ≡ decimal m = digits_before (decimal n) (decimal m) (encode_lower s.0) (encode_lower t.0) a.0.1 b.0.1 f in
    sym a.1 ∙ (ap (digits_value 10) g ∙ b.1)
