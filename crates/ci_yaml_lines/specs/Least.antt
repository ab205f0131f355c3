-- The least of the codes that hold.
use Rattle.std.specs.Prelude.{ℕ, List, [], ◌∷◌, Option, Some, None, nat_le, if◌then◌else◌}
use Rattle.ci_yaml_lines.specs.declared.code.Code.{Code}
use Rattle.ci_yaml_lines.specs.declared.code.Code.TheVariants.{Y1, Y2, Y3, Y4, Y5, Y6, Y7, Y8, Y9, Y10, Y11, Y12}

-- the number behind the `Y`
abbrev pub number_of : Code → ℕ
number_of Y1 = 1
number_of Y2 = 2
number_of Y3 = 3
number_of Y4 = 4
number_of Y5 = 5
number_of Y6 = 6
number_of Y7 = 7
number_of Y8 = 8
number_of Y9 = 9
number_of Y10 = 10
number_of Y11 = 11
number_of Y12 = 12

-- the lesser of a code and another, if there is another
abbrev pub lesser : Code → Option Code → Code
lesser c None = c
lesser c (Some d) = if nat_le (number_of c) (number_of d) then c else d

abbrev pub least : List Code → Option Code
least [] = None
least (c ∷ cs) = Some (lesser c (least cs))

-- the lesser of two codes, where they hold
abbrev pub least_of : Option Code → Option Code → Option Code
least_of None d = d
least_of (Some c) d = Some (lesser c d)
