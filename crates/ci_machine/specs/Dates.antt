-- Moments as they are printed: days of the Gregorian calendar, counted from 1970-01-01, and what a clock shows.
use Rattle.std.specs.Prelude.{ℕ, zero, suc, ◌+◌, ◌/◌, ◌%◌, nat_lt, if◌then◌else◌, List, ◌++◌, pos, codes}
use Rattle.jiff_core.specs.Calendar.{days_in_month}
use Rattle.jiff_fmt.specs.Text.{pad2, pad4}

-- a day of the calendar
pub record Day : Type 0 where
  pub year : ℕ
  pub month : ℕ
  pub day : ℕ

abbrev pub day_of : ℕ → ℕ → ℕ → Day
day_of year month day = record { year = year; month = month; day = day }

-- the next day of the month, else the first of the next month, else the first of January
abbrev pub day_after : Day → Day
day_after d =
    if nat_lt d.day (days_in_month (pos d.year) d.month) then day_of d.year d.month (d.day + 1)
    else (if nat_lt d.month 12 then day_of d.year (d.month + 1) 1
    else day_of (d.year + 1) 1 1)

-- the day that comes so many days after 1970-01-01
unfoldable pub day_at : ℕ → Day
day_at zero = day_of 1970 1 1
day_at (suc days) = day_after (day_at days)

-- `1970-01-01`
abbrev pub day_text : Day → List ℕ
day_text d = pad4 d.year ++ codes "-" ++ pad2 d.month ++ codes "-" ++ pad2 d.day

-- what a clock shows so many seconds after midnight, `00:16:40`
abbrev pub clock_text : ℕ → List ℕ
clock_text seconds = pad2 (seconds / 3600) ++ codes ":" ++ pad2 (seconds / 60 % 60) ++ codes ":" ++ pad2 (seconds % 60)

-- a moment in UTC, of which the seconds since 1970-01-01 are given, `1970-01-01 00:16:40`
unfoldable pub moment_text : ℕ → List ℕ
moment_text seconds = day_text (day_at (seconds / 86400)) ++ codes " " ++ clock_text (seconds % 86400)

-- the same as RFC 3339 has it, `1970-01-01T00:16:40Z`
unfoldable pub stamp_text : ℕ → List ℕ
stamp_text seconds = day_text (day_at (seconds / 86400)) ++ codes "T" ++ clock_text (seconds % 86400) ++ codes "Z"
