-- The token at the front of a text, read from the left.
use Rattle.std.specs.Prelude.{ℕ, suc, ◌+◌, Bool, false, List, [], ◌∷◌, drop, get_or, Option, Some, None, option_map, Result, Ok, Err, ◌==◌, not, ◌&&◌, if◌then◌else◌}
use Rattle.ci_expr.specs.declared.fault.ExprCode.{ExprCode}
use Rattle.ci_expr.specs.Character.{starts_word, is_word}
use Rattle.ci_expr.specs.declared.fault.ExprCode.TheVariants.{X2, X3}
use Rattle.ci_expr.specs.declared.token.Kind.{Kind}
use Rattle.ci_expr.specs.declared.token.Kind.TheVariants.{Name, Text, Null, Equal, Unequal, Match, Mismatch, And, Or, Left, Right, Pattern}

-- how many bytes of a name come first
abbrev pub word_length : List ℕ → ℕ
word_length [] = 0
word_length (b ∷ bs) = if is_word b then suc (word_length bs) else 0

-- how many bytes come before the first of this value
abbrev pub until : ℕ → List ℕ → Option ℕ
until q [] = None
until q (b ∷ bs) = if b == q then Some 0 else option_map suc (until q bs)

-- a byte takes the next with it, and a byte ends a pattern; neither where a backslash took it
abbrev pub escapes : Bool → ℕ → Bool
escapes escaped b = not escaped && (b == 92)

abbrev pub ends_body : Bool → ℕ → Bool
ends_body escaped b = not escaped && (b == 47)

-- how many bytes come before the `/` that ends a pattern, after a backslash or not
abbrev pub body_length : Bool → List ℕ → Option ℕ
body_length escaped [] = None
body_length escaped (b ∷ bs) = if ends_body escaped b then Some 0 else option_map suc (body_length (escapes escaped b) bs)

abbrev pub name_front : List ℕ → Result (Kind × ℕ) ExprCode
name_front bs = if starts_word (get_or bs 0 0) then Ok (Name, suc (word_length bs)) else Err X2

abbrev pub text_by : Option ℕ → Result (Kind × ℕ) ExprCode
text_by None = Err X3
text_by (Some n) = Ok (Text, suc (suc n))

abbrev pub text_front : ℕ → List ℕ → Result (Kind × ℕ) ExprCode
text_front q bs = text_by (until q bs)

abbrev pub pattern_by : List ℕ → Option ℕ → Result (Kind × ℕ) ExprCode
pattern_by bs None = Err X3
pattern_by bs (Some n) =
    if get_or bs (n + 1) 0 == 105 then (if is_word (get_or bs (n + 2) 0) then Err X2 else Ok (Pattern, suc (suc (suc n))))
    else Ok (Pattern, suc (suc n))

abbrev pub pattern_front : List ℕ → Result (Kind × ℕ) ExprCode
pattern_front bs = pattern_by bs (body_length false bs)

abbrev pub null_front : List ℕ → Result (Kind × ℕ) ExprCode
null_front bs =
    if get_or bs 1 0 == 117 then (if get_or bs 2 0 == 108 then (if get_or bs 3 0 == 108 then
    (if is_word (get_or bs 4 0) then Err X2 else Ok (Null, 4)) else Err X2) else Err X2) else Err X2

abbrev pub lexeme : List ℕ → Result (Kind × ℕ) ExprCode
lexeme bs =
    if get_or bs 0 0 == 36 then name_front (drop 1 bs)
    else if get_or bs 0 0 == 34 then text_front 34 (drop 1 bs)
    else if get_or bs 0 0 == 39 then text_front 39 (drop 1 bs)
    else if get_or bs 0 0 == 47 then pattern_front (drop 1 bs)
    else if get_or bs 0 0 == 110 then null_front bs
    else if get_or bs 0 0 == 40 then Ok (Left, 1)
    else if get_or bs 0 0 == 41 then Ok (Right, 1)
    else if get_or bs 0 0 == 61 then (if get_or bs 1 0 == 61 then Ok (Equal, 2) else if get_or bs 1 0 == 126 then Ok (Match, 2) else Err X2)
    else if get_or bs 0 0 == 33 then (if get_or bs 1 0 == 61 then Ok (Unequal, 2) else if get_or bs 1 0 == 126 then Ok (Mismatch, 2) else Err X2)
    else if get_or bs 0 0 == 38 then (if get_or bs 1 0 == 38 then Ok (And, 2) else Err X2)
    else if get_or bs 0 0 == 124 then (if get_or bs 1 0 == 124 then Ok (Or, 2) else Err X2)
    else Err X2
