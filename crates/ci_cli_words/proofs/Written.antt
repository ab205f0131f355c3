-- Ten bytes of which each pair of digits was read are the date that the numbers write, and no other.
use Rattle.std.proofs.Common.{◌≡◌, ℕ, ◌+◌, ◌*◌, ◌/◌, ◌%◌, ◌<◌, ◌≤◌, List, [], ◌∷◌, ◌++◌, length, get_or, ap, sym, ◌∙◌, IfNone, Option, Some, None, pos, ◌≤ℤ◌, arith}
use Rattle.jiff_core.specs.Calendar.{days_in_month}
use Rattle.jiff_core.proofs.SignedLemmas.{signed_arith}
use Rattle.jiff_core.proofs.CalendarLemmas.{days_in_month_bounds}
use Rattle.jiff_fmt.specs.Text.{pad2}
use Rattle.ci_cli_words.specs.Dates.{written, IsMidnight, IsDateAt}

-- the bytes hold these pairs of digits, and a dash before the third and the fourth
pub record Holds (bytes : List ℕ) (c y m d : ℕ) : Type 0 where
  pub long : length bytes ≡ 10
  pub first : get_or bytes 4 0 ≡ 45
  pub second : get_or bytes 7 0 ≡ 45
  pub century : (c < 100) × (get_or bytes 0 0 ∷ get_or bytes 1 0 ∷ [] ≡ pad2 c)
  pub year : (y < 100) × (get_or bytes 2 0 ∷ get_or bytes 3 0 ∷ [] ≡ pad2 y)
  pub month : (m < 100) × (get_or bytes 5 0 ∷ get_or bytes 6 0 ∷ [] ≡ pad2 m)
  pub day : (d < 100) × (get_or bytes 8 0 ∷ get_or bytes 9 0 ∷ [] ≡ pad2 d)

-- a list of ten is its elements
elements : (xs : List ℕ) → length xs ≡ 10 → xs ≡ get_or xs 0 0 ∷ get_or xs 1 0 ∷ get_or xs 2 0 ∷ get_or xs 3 0 ∷ get_or xs 4 0 ∷ get_or xs 5 0 ∷ get_or xs 6 0 ∷ get_or xs 7 0 ∷ get_or xs 8 0 ∷ get_or xs 9 0 ∷ []
elements (a ∷ b ∷ c ∷ d ∷ e ∷ f ∷ g ∷ h ∷ i ∷ j ∷ []) n = λ p. a ∷ b ∷ c ∷ d ∷ e ∷ f ∷ g ∷ h ∷ i ∷ j ∷ []
elements _ n = absurd (omega (arith, n))

-- a year of two pairs of digits
pairs_of_year : (c y m d : ℕ) → y < 100 → pad2 c ++ pad2 y ++ 45 ∷ pad2 m ++ 45 ∷ pad2 d ≡ written (c * 100 + y) m d
pairs_of_year c y m d low =
    let q : c ≡ (c * 100 + y) / 100 = omega arith in
    let r : y ≡ (c * 100 + y) % 100 = omega arith in
    λ i. pad2 (q i) ++ pad2 (r i) ++ 45 ∷ pad2 m ++ 45 ∷ pad2 d

is_written : (bytes : List ℕ) (c y m d : ℕ) → Holds bytes c y m d → bytes ≡ written (c * 100 + y) m d
is_written bytes c y m d h =
    elements bytes h.long
    ∙ ((λ i. h.century.1 i ++ h.year.1 i ++ h.first i ∷ h.month.1 i ++ h.second i ∷ h.day.1 i)
    ∙ pairs_of_year c y m d h.year.0)

same_pair : (a b : ℕ) → a < 100 → b < 100 → pad2 a ≡ pad2 b → a ≡ b
same_pair a b low high e = omega (arith, ap (λ xs. get_or xs 0 0) e, ap (λ xs. get_or xs 1 0) e)

-- the pairs of digits of a date are those that the bytes hold
same_year : (bytes : List ℕ) (c y m d year month day : ℕ) → Holds bytes c y m d → bytes ≡ written year month day → year ≤ 9999 → year ≡ c * 100 + y
same_year bytes c y m d year month day h e high =
    let front : year / 100 ≡ c = same_pair (year / 100) c (omega arith) h.century.0 (ap (λ xs. get_or xs 0 0 ∷ get_or xs 1 0 ∷ []) (sym e) ∙ h.century.1) in
    let back : year % 100 ≡ y = same_pair (year % 100) y (omega arith) h.year.0 (ap (λ xs. get_or xs 2 0 ∷ get_or xs 3 0 ∷ []) (sym e) ∙ h.year.1) in
    omega (arith, front, back)

same_month : (bytes : List ℕ) (c y m d year month day : ℕ) → Holds bytes c y m d → bytes ≡ written year month day → month ≤ 12 → month ≡ m
same_month bytes c y m d year month day h e high =
    same_pair month m (omega arith) h.month.0 (ap (λ xs. get_or xs 5 0 ∷ get_or xs 6 0 ∷ []) (sym e) ∙ h.month.1)

same_day : (bytes : List ℕ) (c y m d year month day : ℕ) → Holds bytes c y m d → bytes ≡ written year month day → day ≤ 31 → day ≡ d
same_day bytes c y m d year month day h e high =
    same_pair day d (omega arith) h.day.0 (ap (λ xs. get_or xs 8 0 ∷ get_or xs 9 0 ∷ []) (sym e) ∙ h.day.1)

-- where the numbers have a midnight, the bytes have it
pub is_date : (bytes : List ℕ) (c y m d seconds : ℕ) → Holds bytes c y m d → IsMidnight (c * 100 + y) m d seconds → IsDateAt bytes seconds
is_date bytes c y m d seconds h is = (c * 100 + y, m, d, is_written bytes c y m d h, is)

-- where the bytes have a midnight, the numbers have it
pub is_midnight : (bytes : List ℕ) (c y m d seconds : ℕ) → Holds bytes c y m d → IsDateAt bytes seconds → IsMidnight (c * 100 + y) m d seconds
is_midnight bytes c y m d seconds h (year, month, day, e, is) =
    let date = is.0 in
    let high : pos year ≤ℤ pos 9999 = date.0.1 in
    let long = days_in_month_bounds (pos year) month in
    let last : day ≤ days_in_month (pos year) month = date.2.1 in
    let same_y = same_year bytes c y m d year month day h e (omega (arith, signed_arith, high)) in
    let same_m = same_month bytes c y m d year month day h e date.1.1 in
    let same_d = same_day bytes c y m d year month day h e (omega (arith, long, last)) in
    rw (← same_y, ← same_m, ← same_d) is

-- what follows from what a clause says where there is no value
pub if_none_then : {X : Type 0} (r : Option X) {P Q : Type 0} → IfNone r P → (P → Q) → IfNone r Q
if_none_then None p f = f p
if_none_then (Some x) p f = tt
