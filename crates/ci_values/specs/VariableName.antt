-- Names of variables.
use Rattle.std.specs.Prelude.{ℕ, Bool, false, List, [], ◌∷◌, length, nat_lt, nat_le, ◌==◌, ◌&&◌, ◌||◌}
use Rattle.std.specs.List.{list_all}
use Rattle.ci_values.specs.declared.limits.TheConstants.{MAX_NAME_BYTES}

-- an ASCII letter or `_`
abbrev pub begins_word : ℕ → Bool
begins_word b = (nat_le 97 b && nat_le b 122) || (nat_le 65 b && nat_le b 90) || b == 95

-- an ASCII letter, an ASCII digit or `_`
abbrev pub goes_on_word : ℕ → Bool
goes_on_word b = begins_word b || (nat_le 48 b && nat_le b 57)

-- an ASCII letter or `_`, then ASCII letters, ASCII digits and `_`, at most as many as a name may have
abbrev pub is_variable_name : List ℕ → Bool
is_variable_name [] = false
is_variable_name (b ∷ bs) = begins_word b && list_all goes_on_word bs && nat_lt (length bs) MAX_NAME_BYTES
