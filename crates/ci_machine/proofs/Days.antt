-- Days counted from 1970-01-01 are the dates that `jiff` has for their numbers, up to its last one.
use Rattle.std.proofs.Common.{◌≡◌, ℕ, zero, suc, ◌+◌, ◌<◌, ◌≤◌, nat_lt, [], ◌∷◌, ◌++◌, sym, ◌∙◌, arith, rules, pos, ◌+ℤ◌, ◌≤ℤ◌}
use Rattle.std.proofs.lemmas.Bool.{ltb-true, ltb-false, cond_both}
use Rattle.jiff_core.specs.declared.civil.date.Date.{Date}
use Rattle.jiff_core.specs.Calendar.{IsCivilDate, days_in_month, days_from_civil}
use Rattle.jiff_core.specs.Date.{epoch_day}
use Rattle.jiff_core.proofs.SignedLemmas.{signed_arith}
use Rattle.jiff_core.proofs.CalendarLemmas.{days_in_month_bounds, day_count-epoch, days_from_civil-day_count}
use Rattle.jiff_core.proofs.DateLemmas.{epoch_day_injective, days_from_civil-day, days_from_civil-next_month, days_from_civil-next_year, days_from_civil-max}
use Rattle.jiff_fmt.specs.Text.{date_text, year_text, pad2}
use Rattle.ci_machine.specs.Prelude.{Day, day_of, day_after, day_at, day_text}

-- the calendar has the day, and n is its number
pub record HasNumber (d : Day) (n : ℕ) : Type 0 where
  pub date : IsCivilDate (pos d.year) d.month d.day
  pub number : days_from_civil (pos d.year) d.month d.day ≡ pos n

first : HasNumber (day_of 1970 1 1) 0
first = record {
  date = search rules;
  number = omega (arith, signed_arith, days_from_civil-day_count (pos 1970) 1 1, day_count-epoch);
}

in_month : (y m d n : ℕ) → HasNumber (day_of y m d) n → d < days_in_month (pos y) m → HasNumber (day_of y m (d + 1)) (suc n)
in_month y m d n h more =
    let low : 1 ≤ d = h.date.2.0 in
    let at = h.number in
    record {
      date = (h.date.0, h.date.1, (omega arith, omega arith));
      number = omega (arith, signed_arith, days_from_civil-day (pos y) m d (d + 1) low (omega arith), at);
    }

next_month : (y m d n : ℕ) → HasNumber (day_of y m d) n → days_in_month (pos y) m ≤ d → m < 12 → HasNumber (day_of y (m + 1) 1) (suc n)
next_month y m d n h last more =
    let low : 1 ≤ m = h.date.1.0 in
    let most : d ≤ days_in_month (pos y) m = h.date.2.1 in
    let at = h.number in
    let long = days_in_month_bounds (pos y) (m + 1) in
    record {
      date = (h.date.0, (omega arith, omega arith), (omega arith, omega arith));
      number = omega (arith, signed_arith, days_from_civil-next_month (pos y) m d low (omega arith), at);
    }

-- the last day of the library is its last
not_last : (y n : ℕ) → days_from_civil (pos y) 12 31 ≡ pos n → n < 2_932_896 → y ≡ 9999 → ⊥
not_last y n at below same =
    let there : days_from_civil (pos 9999) 12 31 ≡ pos n = rw same at at in
    let z : pos n ≡ pos 2_932_896 = sym there ∙ days_from_civil-max in
    omega (arith, signed_arith, z)

next_year : (y m d n : ℕ) → HasNumber (day_of y m d) n → days_in_month (pos y) m ≤ d → 12 ≤ m → n < 2_932_896 → HasNumber (day_of (y + 1) 1 1) (suc n)
next_year y m d n h last late below =
    let month : m ≡ 12 = omega (arith, h.date.1.1) in
    let most : d ≤ days_in_month (pos y) m = h.date.2.1 in
    let long : d ≡ days_in_month (pos y) m = omega arith in
    let day : d ≡ 31 = rw month at long in
    let at : days_from_civil (pos y) 12 31 ≡ pos n = rw (month, day) at h.number in
    let apart : y ≡ 9999 → ⊥ = not_last y n at below in
    let high : pos y ≤ℤ pos 9999 = h.date.0.1 in
    let next : pos (y + 1) ≡ pos y +ℤ pos 1 = omega (arith, signed_arith) in
    record {
      date = ((omega (arith, signed_arith), omega (arith, signed_arith)), (omega arith, omega arith), (omega arith, omega arith));
      number = omega (arith, signed_arith, days_from_civil-next_year (pos y) (pos (y + 1)) (omega (arith, signed_arith)) next, at);
    }

after : (d : Day) (n : ℕ) → HasNumber d n → n < 2_932_896 → HasNumber (day_after d) (suc n)
after d n h below =
    cond_both (nat_lt d.day (days_in_month (pos d.year) d.month)) _ _ (λ (x : Day). HasNumber x (suc n))
    (λ e. in_month d.year d.month d.day n h (ltb-true _ _ e))
    (λ e. cond_both (nat_lt d.month 12) _ _ (λ (x : Day). HasNumber x (suc n))
    (λ f. next_month d.year d.month d.day n h (ltb-false _ _ e) (ltb-true _ _ f))
    (λ f. next_year d.year d.month d.day n h (ltb-false _ _ e) (ltb-false _ _ f) below))

pub day_at-number : (n : ℕ) → n ≤ 2_932_896 → HasNumber (day_at n) n
unfolding day_at
day_at-number zero high = first
day_at-number (suc n) high = after (day_at n) n (day_at-number n (omega arith)) (omega arith)

-- a date with that number prints as that day
pub date_text-day_at : (date : Date) (n : ℕ) → epoch_day date ≡ pos n → n ≤ 2_932_896 → date_text date ≡ day_text (day_at n)
date_text-day_at date n at high =
    let is = day_at-number n high in
    let there : Date = record { year = pos (day_at n).year; month = (day_at n).month; day = (day_at n).day; year_in = is.date.0; month_in = is.date.1; day_in = is.date.2 } in
    let same = epoch_day_injective date there (at ∙ sym is.number) in
    λ i. year_text (same.0 i) ++ 45 ∷ [] ++ pad2 (same.1 i) ++ 45 ∷ [] ++ pad2 (same.2 i)
