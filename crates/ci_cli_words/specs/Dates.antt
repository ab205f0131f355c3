-- The dates of a command line.
use Rattle.std.specs.Prelude.{◌≡◌, ℕ, ◌*◌, List, ◌∷◌, ◌++◌, pos}
use Rattle.jiff_core.specs.Calendar.{IsCivilDate, days_from_civil}
use Rattle.jiff_fmt.specs.Text.{pad2, pad4}

-- a date as it is written, `1970-01-31`
abbrev pub written : ℕ → ℕ → ℕ → List ℕ
written year month day = pad4 year ++ 45 ∷ pad2 month ++ 45 ∷ pad2 day

-- so many seconds after 1970 began a day begins in UTC, by its number among the days
abbrev pub IsMidnight : ℕ → ℕ → ℕ → ℕ → Type 0
IsMidnight year month day seconds =
    IsCivilDate (pos year) month day
    × ((days : ℕ) × (days_from_civil (pos year) month day ≡ pos days) × (seconds ≡ days * 86400))

-- the text is a date that begins so many seconds after 1970 began
abbrev pub IsDateAt : List ℕ → ℕ → Type 0
IsDateAt text seconds =
    (year : ℕ) × (month : ℕ) × (day : ℕ) × (text ≡ written year month day) × IsMidnight year month day seconds
