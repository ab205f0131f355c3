-- Lists that are cut at a place.
use Rattle.std.proofs.Common.{◌≡◌, ℕ, zero, suc, ◌+◌, ◌-◌, ◌<◌, ◌≤◌, List, [], ◌∷◌, ◌++◌, length, take, drop, get_or, refl, sym, ◌∙◌, ap, arith, add-one, drop-cons}
use Rattle.std.proofs.lemmas.List.{take_more}
use Rattle.std.proofs.Math.Seq.{take-length}

-- what comes before the last, and the last
pub last-parted : {A : Type 0} (xs : List A) (d : A) → 1 ≤ length xs → xs ≡ take (length xs - 1) xs ++ get_or xs (length xs - 1) d ∷ []
last-parted xs d le =
    let less : length xs - 1 < length xs = omega arith in
    let all : length xs - 1 + 1 ≡ length xs = omega arith in
    sym (take-length xs) ∙ ap (λ n. take n xs) (sym all) ∙ take_more xs (length xs - 1) d less

-- from a place on: what stands there, and the others
pub drop-at : {A : Type 0} (xs : List A) (i : ℕ) (d : A) → i < length xs → drop i xs ≡ get_or xs i d ∷ drop (i + 1) xs
drop-at xs i d lt = rw (add-one, drop-cons xs i d) refl

-- as many as there are, or more
pub take-past : {A : Type 0} (n : ℕ) (xs : List A) → length xs ≤ n → take n xs ≡ xs
take-past zero [] le = refl
take-past zero (x ∷ xs) le = absurd (omega arith)
take-past (suc n) [] le = refl
take-past (suc n) (x ∷ xs) le = let less : length xs ≤ n = omega arith in ap (λ ys. x ∷ ys) (take-past n xs less)

pub push-some : {A : Type 0} (xs : List A) (x : A) → 0 < length (xs ++ x ∷ [])
push-some [] x = omega arith
push-some (y ∷ xs) x = omega arith

pub one-more : (n : ℕ) → 1 + n ≡ suc n
one-more n = omega arith
