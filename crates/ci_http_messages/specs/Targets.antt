-- The path of a target.
use Rattle.std.specs.Prelude.{ℕ, List, take, ◌==◌, Option, Some, None, position}

-- the text up to a place, or all of it
abbrev pub front_to : Option ℕ → List ℕ → List ℕ
front_to None text = text
front_to (Some n) text = take n text

-- the target up to its first question mark
abbrev pub path_of : List ℕ → List ℕ
path_of target = front_to (position (λ b. b == 63) target) target
