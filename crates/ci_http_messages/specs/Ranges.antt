-- The range of a piece of a trace: `from-to`, the places of its first byte and of its last.
use Rattle.std.specs.Prelude.{ℕ, ◌+◌, ◌==◌, ◌&&◌, not, List, length, take, drop, nat_lt, if◌then◌else◌, Option, Some, None, option_and_then, position}
use Rattle.std.specs.Str.Parse.{digits_value}
use Rattle.ci_machine.specs.Prelude.{is_number}
use Rattle.ci_http_messages.specs.declared.payloads.limits.TheConstants.{MAX_PLACE_DIGITS}

-- a place in a trace, of few enough digits
abbrev pub place_in : List ℕ → Option ℕ
place_in text = if is_number text && not (nat_lt MAX_PLACE_DIGITS (length text)) then Some (digits_value 10 text) else None

-- the first place, where the piece between the two has this length
abbrev pub start_by : ℕ → Option ℕ → Option ℕ → Option ℕ
start_by len (Some from) (Some to) = if not (nat_lt to from) && (to + 1 == from + len) then Some from else None
start_by len (Some from) None = None
start_by len None to = None

abbrev pub start_at : ℕ → List ℕ → ℕ → Option ℕ
start_at len range dash = start_by len (place_in (take dash range)) (place_in (drop (dash + 1) range))

-- where a piece of this length begins, by its range
abbrev pub start_in : ℕ → List ℕ → Option ℕ
start_in len range = option_and_then (start_at len range) (position (λ b. b == 45) range)
