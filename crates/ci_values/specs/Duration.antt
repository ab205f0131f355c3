-- How many seconds a duration is: `1h 30m`.
use Rattle.std.specs.Prelude.{◌≡◌, ℕ, zero, suc, ◌+◌, ◌-◌, ◌*◌, ◌<◌, ◌≤◌, true, List, [], ◌∷◌, ◌++◌, length, map, fold, Option, Some, None, option_map, nat_lt, nat_le, ◌&&◌, if◌then◌else◌}
use Rattle.std.specs.List.{list_all}
use Rattle.ci_values.specs.Table.{meaning_of}
use Rattle.ci_values.specs.Run.{is_of, front, behind}
use Rattle.ci_values.specs.declared.run.Class.TheVariants.{Digit, Space, Letter}
use Rattle.ci_values.specs.declared.seconds.TheConstants.{UNITS, MAX_DIGITS, MIN_SECONDS, MAX_SECONDS}

-- the units, and how many seconds each has
abbrev pub units : List (List ℕ × ℕ)
units = map (λ e. (e.0.now, e.1)) UNITS

-- the number that digits write
abbrev pub number_of : List ℕ → ℕ
number_of bs = fold (λ n b. n * 10 + (b - 48)) 0 bs

-- ---- what a duration is

-- a number of 1 to 9 digits and a unit, with spaces or none between them, and the seconds that they make
pub record IsPair (bs : List ℕ) (seconds : ℕ) : Type 0 where
  pub digits : List ℕ
  pub gap : List ℕ
  pub unit : List ℕ
  pub worth : ℕ
  pub parts : bs ≡ digits ++ (gap ++ unit)
  pub are_digits : list_all (is_of Digit) digits ≡ true
  pub some : 0 < length digits
  pub few : length digits ≤ MAX_DIGITS
  pub are_spaces : list_all (is_of Space) gap ≡ true
  pub is_unit : meaning_of units unit ≡ Some worth
  pub product : seconds ≡ number_of digits * worth

-- The text is one or more pairs, with spaces or none between them, that make so many seconds in all.
pub data Lasts : List ℕ → ℕ → Type 0 where
  last : (bs : List ℕ) (n : ℕ) → IsPair bs n → Lasts bs n
  more : (first gap rest bs : List ℕ) (s m n : ℕ) → IsPair first s → list_all (is_of Space) gap ≡ true → Lasts rest m
      → bs ≡ first ++ (gap ++ rest) → n ≡ s + m → Lasts bs n

-- a duration of a minute to 30 days
abbrev pub IsDuration : List ℕ → ℕ → Type 0
IsDuration text n = Lasts text n × (MIN_SECONDS ≤ n) × (n ≤ MAX_SECONDS)

-- ---- the same, computed

abbrev pub pair_of : List ℕ → List ℕ → Option ℕ
pair_of digits unit = if nat_lt 0 (length digits) && nat_le (length digits) MAX_DIGITS then option_map (λ worth. number_of digits * worth) (meaning_of units unit) else None

-- the seconds of the pair that comes first, and what is behind it
abbrev pub first_pair : List ℕ → Option ℕ
first_pair bs = pair_of (front Digit bs) (front Letter (behind Space (behind Digit bs)))

abbrev pub after_pair : List ℕ → List ℕ
after_pair bs = behind Letter (behind Space (behind Digit bs))

abbrev pub plus : Option ℕ → Option ℕ → Option ℕ
plus None o = None
plus (Some n) o = option_map (λ m. n + m) o

-- nothing, or spaces and then what this reads
abbrev pub tail_by : (List ℕ → Option ℕ) → List ℕ → Option ℕ
tail_by read [] = Some 0
tail_by read (b ∷ bs) = read (behind Space (b ∷ bs))

-- the sum of the pairs, of which there are at most so many
abbrev pub sum_from : ℕ → List ℕ → Option ℕ
sum_from zero bs = None
sum_from (suc pairs) bs = plus (first_pair bs) (tail_by (sum_from pairs) (after_pair bs))

abbrev pub seconds_of : List ℕ → Option ℕ
seconds_of bs = sum_from (length bs) bs

abbrev pub in_range : Option ℕ → Option ℕ
in_range None = None
in_range (Some n) = if nat_le MIN_SECONDS n && nat_le n MAX_SECONDS then Some n else None

abbrev pub duration_of : List ℕ → Option ℕ
duration_of bs = in_range (seconds_of bs)
