-- The bytes of a class that come first.
use Rattle.std.proofs.Common.{◌≡◌, ℕ, suc, ◌-◌, ◌+◌, ◌<◌, ◌≤◌, Bool, true, false, cond, ◌&&◌, List, [], ◌∷◌, ◌++◌, length, take, drop, refl, sym, ◌∙◌, ap, arith, length-drop, length-append}
use Rattle.std.proofs.lemmas.List.{take_all}
use Rattle.std.proofs.lemmas.Bool.Decides.{nat_tests}
use Rattle.std.specs.List.{list_all, prefix_len}
use Rattle.ci_values.specs.Run.{is_of, front, behind}
use Rattle.ci_values.specs.declared.run.Class.{Class}
use Rattle.ci_values.specs.declared.run.Class.TheVariants.{Digit, Space, Letter}

pub left_of : (a b : Bool) → (a && b) ≡ true → a ≡ true
left_of true b e = refl
left_of false b e = e

pub right_of : (a b : Bool) → (a && b) ≡ true → b ≡ true
right_of true b e = e
right_of false b e = absurd cc

abbrev pub are_all : Class → List ℕ → Bool
are_all c bs = list_all (is_of c) bs

abbrev pub begins : Class → List ℕ → Bool
begins c [] = false
begins c (b ∷ bs) = is_of c b

-- ---- a text is cut in one way
pub cut-front : (c : Class) (f r : List ℕ) → are_all c f ≡ true → begins c r ≡ false → front c (f ++ r) ≡ f
cut-front c [] [] all ends = refl
cut-front c [] (b ∷ r) all ends = ap (λ t. cond t (b ∷ front c r) []) ends
cut-front c (b ∷ f) r all ends =
    let here : is_of c b ≡ true = left_of (is_of c b) (are_all c f) all in
    ap (λ t. cond t (b ∷ front c (f ++ r)) []) here ∙ ap (λ xs. b ∷ xs) (cut-front c f r (right_of (is_of c b) (are_all c f) all) ends)

pub cut-behind : (c : Class) (f r : List ℕ) → are_all c f ≡ true → begins c r ≡ false → behind c (f ++ r) ≡ r
cut-behind c [] [] all ends = refl
cut-behind c [] (b ∷ r) all ends = ap (λ t. cond t (behind c r) (b ∷ r)) ends
cut-behind c (b ∷ f) r all ends =
    let here : is_of c b ≡ true = left_of (is_of c b) (are_all c f) all in
    ap (λ t. cond t (behind c (f ++ r)) (b ∷ (f ++ r))) here ∙ cut-behind c f r (right_of (is_of c b) (are_all c f) all) ends

-- ---- what comes first, and what is behind it, are the text
pub parts : (c : Class) (bs : List ℕ) → bs ≡ front c bs ++ behind c bs
parts c [] = refl
parts c (b ∷ bs) = by-test (is_of c b) refl (parts c bs)
  where
    by-test : (t : Bool) → is_of c b ≡ t → bs ≡ front c bs ++ behind c bs → b ∷ bs ≡ front c (b ∷ bs) ++ behind c (b ∷ bs)
    by-test true e h = sym (ap (λ t. cond t (b ∷ front c bs) [] ++ cond t (behind c bs) (b ∷ bs)) e ∙ ap (λ xs. b ∷ xs) (sym h))
    by-test false e h = sym (ap (λ t. cond t (b ∷ front c bs) [] ++ cond t (behind c bs) (b ∷ bs)) e)

pub front-all : (c : Class) (bs : List ℕ) → are_all c (front c bs) ≡ true
front-all c [] = refl
front-all c (b ∷ bs) = by-test (is_of c b) refl (front-all c bs)
  where
    by-test : (t : Bool) → is_of c b ≡ t → are_all c (front c bs) ≡ true → are_all c (front c (b ∷ bs)) ≡ true
    by-test true e h = ap (λ t. are_all c (cond t (b ∷ front c bs) [])) e ∙ ap (λ t. t && are_all c (front c bs)) e ∙ h
    by-test false e h = ap (λ t. are_all c (cond t (b ∷ front c bs) [])) e

pub parts-length : (c : Class) (bs : List ℕ) → length bs ≡ length (front c bs) + length (behind c bs)
parts-length c bs = ap length (parts c bs) ∙ length-append (front c bs) (behind c bs)

-- ---- as the code cuts
one-more : (n : ℕ) → 1 + n ≡ suc n
one-more n = omega arith

front-take : (c : Class) (bs : List ℕ) → take (prefix_len (is_of c) bs) bs ≡ front c bs
front-take c [] = refl
front-take c (b ∷ bs) = by-test (is_of c b) refl (front-take c bs)
  where
    by-test : (t : Bool) → is_of c b ≡ t → take (prefix_len (is_of c) bs) bs ≡ front c bs → take (prefix_len (is_of c) (b ∷ bs)) (b ∷ bs) ≡ front c (b ∷ bs)
    by-test true e h =
        ap (λ t. take (cond t (1 + prefix_len (is_of c) bs) 0) (b ∷ bs)) e ∙ ap (λ k. take k (b ∷ bs)) (one-more (prefix_len (is_of c) bs)) ∙ ap (λ xs. b ∷ xs) h ∙ sym (ap (λ t. cond t (b ∷ front c bs) []) e)
    by-test false e h = ap (λ t. take (cond t (1 + prefix_len (is_of c) bs) 0) (b ∷ bs)) e ∙ sym (ap (λ t. cond t (b ∷ front c bs) []) e)

behind-drop : (c : Class) (bs : List ℕ) → drop (prefix_len (is_of c) bs) bs ≡ behind c bs
behind-drop c [] = refl
behind-drop c (b ∷ bs) = by-test (is_of c b) refl (behind-drop c bs)
  where
    by-test : (t : Bool) → is_of c b ≡ t → drop (prefix_len (is_of c) bs) bs ≡ behind c bs → drop (prefix_len (is_of c) (b ∷ bs)) (b ∷ bs) ≡ behind c (b ∷ bs)
    by-test true e h =
        ap (λ t. drop (cond t (1 + prefix_len (is_of c) bs) 0) (b ∷ bs)) e ∙ ap (λ k. drop k (b ∷ bs)) (one-more (prefix_len (is_of c) bs)) ∙ h ∙ sym (ap (λ t. cond t (behind c bs) (b ∷ bs)) e)
    by-test false e h = ap (λ t. drop (cond t (1 + prefix_len (is_of c) bs) 0) (b ∷ bs)) e ∙ sym (ap (λ t. cond t (behind c bs) (b ∷ bs)) e)

pub split-front : (c : Class) (bs : List ℕ) (n : ℕ) → n ≡ prefix_len (is_of c) bs → take n bs ≡ front c bs
split-front c bs n e = ap (λ k. take k bs) e ∙ front-take c bs

pub split-behind : (c : Class) (bs : List ℕ) (n : ℕ) → n ≡ prefix_len (is_of c) bs → n ≤ length bs → take (length bs - n) (drop n bs) ≡ behind c bs
split-behind c bs n e le = take_all (length bs - n) (drop n bs) (omega (arith, length-drop n bs)) ∙ ap (λ k. drop k bs) e ∙ behind-drop c bs

-- ---- what begins with one class doesn't begin with another
letter_is_no_digit : (b : ℕ) → is_of Letter b ≡ true → is_of Digit b ≡ false
letter_is_no_digit b e = grind (arith, nat_tests)

letter_is_no_space : (b : ℕ) → is_of Letter b ≡ true → is_of Space b ≡ false
letter_is_no_space b e = grind (arith, nat_tests)

space_is_no_digit : (b : ℕ) → is_of Space b ≡ true → is_of Digit b ≡ false
space_is_no_digit b e = grind (arith, nat_tests)

space_is_no_letter : (b : ℕ) → is_of Space b ≡ true → is_of Letter b ≡ false
space_is_no_letter b e = grind (arith, nat_tests)

digit_is_no_letter : (b : ℕ) → is_of Digit b ≡ true → is_of Letter b ≡ false
digit_is_no_letter b e = grind (arith, nat_tests)

digit_is_no_space : (b : ℕ) → is_of Digit b ≡ true → is_of Space b ≡ false
digit_is_no_space b e = grind (arith, nat_tests)

begins-other : (c d : Class) → ((b : ℕ) → is_of c b ≡ true → is_of d b ≡ false) → (bs : List ℕ) → begins c bs ≡ true → begins d bs ≡ false
begins-other c d differ [] e = absurd cc
begins-other c d differ (b ∷ bs) e = differ b e

-- behind bytes of one class
begins-behind : (c d : Class) → ((b : ℕ) → is_of c b ≡ true → is_of d b ≡ false) → (f r : List ℕ) → are_all c f ≡ true → begins d r ≡ false → begins d (f ++ r) ≡ false
begins-behind c d differ [] r all e = e
begins-behind c d differ (b ∷ f) r all e = differ b (left_of (is_of c b) (are_all c f) all)

pub begins-still : (c : Class) (f r : List ℕ) → begins c f ≡ true → begins c (f ++ r) ≡ true
begins-still c [] r e = absurd cc
begins-still c (b ∷ f) r e = e

pub begins-some : (c : Class) (f : List ℕ) → are_all c f ≡ true → 0 < length f → begins c f ≡ true
begins-some c [] all some = absurd (omega (arith, some))
begins-some c (b ∷ f) all some = left_of (is_of c b) (are_all c f) all

-- a unit, or spaces and a unit, begin with no digit; a unit begins with no space
pub unit-ends-digits : (gap unit : List ℕ) → are_all Space gap ≡ true → begins Letter unit ≡ true → begins Digit (gap ++ unit) ≡ false
unit-ends-digits gap unit all letter = begins-behind Space Digit space_is_no_digit gap unit all (begins-other Letter Digit letter_is_no_digit unit letter)

pub unit-ends-gap : (unit : List ℕ) → begins Letter unit ≡ true → begins Space unit ≡ false
unit-ends-gap unit letter = begins-other Letter Space letter_is_no_space unit letter

-- digits, or spaces and digits, begin with no letter; digits begin with no space
pub digits-end-unit : (gap digits : List ℕ) → are_all Space gap ≡ true → begins Digit digits ≡ true → begins Letter (gap ++ digits) ≡ false
digits-end-unit gap digits all digit = begins-behind Space Letter space_is_no_letter gap digits all (begins-other Digit Letter digit_is_no_letter digits digit)

pub digits-end-gap : (digits : List ℕ) → begins Digit digits ≡ true → begins Space digits ≡ false
digits-end-gap digits digit = begins-other Digit Space digit_is_no_space digits digit
