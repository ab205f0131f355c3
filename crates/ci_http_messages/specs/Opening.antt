-- Where the head of a request ends: at the first empty line, within limits.
use Rattle.std.specs.Prelude.{◌≡◌, ◌≤◌, ℕ, suc, Bool, List, [], ◌∷◌, length, take, drop, ◌==◌, nat_eq, nat_lt, if◌then◌else◌, Option, Some, None, option_map, count_by}
use Rattle.std.specs.List.{starts_with}
use Rattle.ci_http_messages.specs.declared.head.Opens.{Opens}
use Rattle.ci_http_messages.specs.declared.head.Opens.TheVariants.{Short, TooLarge, Whole}
use Rattle.ci_http_messages.specs.declared.limits.TheConstants.{MAX_HEAD_BYTES, MAX_HEAD_LINES}

-- CR LF CR LF
abbrev pub empty_line : List ℕ
empty_line = 13 ∷ 10 ∷ 13 ∷ 10 ∷ []

-- how many bytes stand up to and with the first CR LF CR LF
abbrev pub head_len : List ℕ → Option ℕ
head_len [] = None
head_len (b ∷ bytes) = if starts_with nat_eq (b ∷ bytes) empty_line then Some 4 else option_map suc (head_len bytes)

abbrev pub is_line_feed : ℕ → Bool
is_line_feed b = b == 10

-- How a text opens: it ends before its head does, its head passes a limit, or it has a head.
pub data Opening : Type 0 where
  short too_large : Opening
  opened : List ℕ → Opening

-- how a text opens whose head has n bytes, or has no end within the limit
abbrev pub opening_at : List ℕ → Option ℕ → Opening × List ℕ
opening_at bytes None = if nat_lt (length bytes) MAX_HEAD_BYTES then (short, []) else (too_large, drop MAX_HEAD_BYTES bytes)
opening_at bytes (Some n) = if nat_lt MAX_HEAD_LINES (count_by is_line_feed (take n bytes)) then (too_large, drop n bytes) else (opened (take n bytes), drop n bytes)

-- how a text opens, and the bytes that are not needed to say so
abbrev pub opening_of : List ℕ → Opening × List ℕ
opening_of bytes = opening_at bytes (head_len (take MAX_HEAD_BYTES bytes))

-- a text opens so: of a head that is there, so many bytes are its own
abbrev pub IsOpening : List ℕ → Opens → Type 0
IsOpening bytes Short = opening_of bytes ≡ (short, [])
IsOpening bytes TooLarge = (rest : List ℕ) × (opening_of bytes ≡ (too_large, rest))
IsOpening bytes (Whole n) = (n ≤ length bytes) × (n ≤ MAX_HEAD_BYTES) × (count_by is_line_feed (take n bytes) ≤ MAX_HEAD_LINES) × (opening_of bytes ≡ (opened (take n bytes), drop n bytes))
