-- Numbers that a request writes in digits.
use Rattle.std.specs.Prelude.{ℕ, ◌<◌, ◌≤◌, Bool, ◌&&◌, List, length, nat_eq, nat_lt, if◌then◌else◌, Option, Some, None, codes}
use Rattle.std.specs.List.{list_all, starts_with}
use Rattle.std.specs.Char.{is_ascii_digit}
use Rattle.std.specs.Str.Parse.{digits_value}
use Rattle.ci_values.specs.declared.limits.TheConstants.{MAX_NUMBER}

-- one or more digits
abbrev pub is_number : List ℕ → Bool
is_number text = nat_lt 0 (length text) && list_all is_ascii_digit text

-- the number, unless it is over the limit
abbrev pub within : ℕ → ℕ → Option ℕ
within limit n = if nat_lt limit n then None else Some n

-- the number that the digits write, unless it is over the limit
abbrev pub number_within : ℕ → List ℕ → Option ℕ
number_within limit text = if is_number text then within limit (digits_value 10 text) else None

-- the number of a record, from 1 on: digits without a zero in front
abbrev pub id_in : List ℕ → Option ℕ
id_in text = if starts_with nat_eq text (codes "0") then None else number_within MAX_NUMBER text

abbrev pub IsId : ℕ → Type 0
IsId n = (0 < n) × (n ≤ MAX_NUMBER)
