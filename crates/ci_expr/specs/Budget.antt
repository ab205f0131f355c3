-- What building a pattern costs and looking for it, and what is left of a budget.
use Rattle.std.specs.Prelude.{◌≡◌, ℕ, ◌+◌, ◌*◌, ◌/◌, ◌<◌, Bool, true, false, List, [], ◌∷◌, length, Option, Some, None, ◌==◌, ◌&&◌, ◌||◌, if◌then◌else◌}

-- Where a class may begin or a range may be: a backslash, an opening bracket, a hyphen.
abbrev pub is_class_mark : ℕ → Bool
is_class_mark b = (b == 92) || ((b == 91) || (b == 45))

abbrev pub class_marks : List ℕ → ℕ
class_marks [] = 0
class_marks (b ∷ bs) = (if is_class_mark b then 1 else 0) + class_marks bs

-- what a class costs; more where letters match in either case
abbrev pub class_cost : Bool → ℕ
class_cost false = 50
class_cost true = 250

-- What building a pattern with this source costs, where its tables take so many bytes. A unit is about a microsecond.
abbrev pub pattern_cost : Bool → List ℕ → ℕ → ℕ
pattern_cost insensitive source bytes = 20 + length source + class_cost insensitive * class_marks source + bytes / 100

-- ---- looking for a pattern

-- a letter of a flag
abbrev pub is_flag : ℕ → Bool
is_flag b = (b == 105) || ((b == 109) || ((b == 115) || ((b == 85) || ((b == 117) || ((b == 82) || (b == 120))))))

-- flags begin here, and among them is `u`
abbrev pub names_unicode : List ℕ → Bool
names_unicode [] = false
names_unicode (b ∷ bs) = (b == 117) || (is_flag b && names_unicode bs)

-- flags begin here, and `u` is among those behind a hyphen
abbrev pub drops_unicode : List ℕ → Bool
drops_unicode [] = false
drops_unicode (b ∷ bs) = if b == 45 then names_unicode bs else is_flag b && drops_unicode bs

-- flags may turn Unicode off, as in `(?-u)`
abbrev pub may_drop_unicode : List ℕ → Bool
may_drop_unicode [] = false
may_drop_unicode (b ∷ bs) = ((b == 63) && drops_unicode bs) || may_drop_unicode bs

-- What looking for a pattern with this source costs, whose tables take so many bytes, in a text with so many places: each byte at each
-- place. Without Unicode an empty match may stand inside a character, and behind each the search begins anew.
abbrev pub text_cost : List ℕ → ℕ → ℕ → ℕ
text_cost source bytes places = if may_drop_unicode source then bytes * places * places else bytes * places

-- ---- budgets

-- what is left behind a cost; nothing where it is greater than the budget
abbrev pub Leaves : ℕ → ℕ → Option ℕ → Type 0
Leaves budget cost (Some left) = left + cost ≡ budget
Leaves budget cost None = budget < cost
