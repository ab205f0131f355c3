-- Names of jobs, stages, tags, refs, projects and runners.
use Rattle.std.specs.Prelude.{ℕ, Bool, ◌&&◌, not, List, length, nat_le, ◌==◌}
use Rattle.std.specs.List.{list_all}
use Rattle.ci_values.specs.declared.limits.TheConstants.{MAX_NAME_BYTES}

-- no byte is a control character: U+0000 to U+001F or U+007F
abbrev pub has_no_control : List ℕ → Bool
has_no_control bytes = list_all (λ b. nat_le 32 b && not (b == 127)) bytes

-- a text, given by its UTF-8, is a name: at least one byte, at most as many as a name may have, and no control character
abbrev pub is_name : List ℕ → Bool
is_name bytes = nat_le 1 (length bytes) && nat_le (length bytes) MAX_NAME_BYTES && has_no_control bytes
