-- Characters that tokens are made of.
use Rattle.std.specs.Prelude.{ℕ, Bool, nat_le, ◌==◌, ◌&&◌, ◌||◌}

-- space, tab, CR and LF
abbrev pub is_blank : ℕ → Bool
is_blank b = (b == 32) || ((b == 9) || ((b == 13) || (b == 10)))

-- an ASCII letter or `_`
abbrev pub starts_word : ℕ → Bool
starts_word b = (nat_le 97 b && nat_le b 122) || ((nat_le 65 b && nat_le b 90) || (b == 95))

abbrev pub is_word : ℕ → Bool
is_word b = starts_word b || (nat_le 48 b && nat_le b 57)
