-- Cells that are the same, and lists that are read one by one.
use Rattle.std.proofs.Common.{◌≡◌, ℕ, pos, List, [], ◌∷◌, ◌++◌, Bool, true, false, Option, Some, None, refl}
use Rattle.std.specs.List.{AllZip}
use Rattle.ci_store.specs.Prelude.{Value, Int, Text, Row, column, or_null}
use Rattle.ci_store_rows.specs.Prelude.{number, flag}

-- the number or the text of a value, and 0 or no text where it is of another kind
abbrev number_in : Value → ℕ
number_in (Int (pos n)) = n
number_in _ = 0

abbrev text_in : Value → List ℕ
text_in (Text text) = text
text_in _ = []

-- the same of a column of a row
abbrev pub number_of : Row → ℕ → ℕ
number_of row place = number_in (column row place)

abbrev pub text_of : Row → ℕ → List ℕ
text_of row place = text_in (column row place)

pub same_words : (a b : Option (List ℕ)) → or_null Text a ≡ or_null Text b → a ≡ b
same_words None None h = refl
same_words (Some x) (Some y) h = cc
same_words a b h = cc

pub same_option : (a b : Option ℕ) → or_null number a ≡ or_null number b → a ≡ b
same_option None None h = refl
same_option (Some x) (Some y) h = cc
same_option a b h = cc

pub same_flag : (a b : Bool) → flag a ≡ flag b → a ≡ b
same_flag true true h = refl
same_flag false false h = refl
same_flag a b h = cc

pub zip_push : {A B : Type 0} (R : A → B → Type 0) (xs : List A) (ys : List B) (x : A) (y : B) → AllZip R xs ys → R x y → AllZip R (xs ++ x ∷ []) (ys ++ y ∷ [])
zip_push R [] [] x y all h = (h, tt)
zip_push R [] (b ∷ ys) x y all h = absurd all
zip_push R (a ∷ xs) [] x y all h = absurd all
zip_push R (a ∷ xs) (b ∷ ys) x y all h = (all.0, zip_push R xs ys x y all.1 h)
