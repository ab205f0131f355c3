-- The grammar, read from the left.
use Rattle.std.specs.Prelude.{ℕ, zero, suc, ◌+◌, ◌*◌, Bool, true, false, List, [], ◌∷◌, ◌-◌, length, take, drop, get_or, Option, Some, None, option_map, Result, Ok, Err, ◌==◌}
use Rattle.std.specs.Prelude.{◌||◌, if◌then◌else◌, chars, option_and_then}
use Rattle.ci_expr.specs.declared.fault.ExprCode.{ExprCode}
use Rattle.ci_expr.specs.declared.fault.ExprCode.TheVariants.{X4}
use Rattle.ci_expr.specs.declared.token.Kind.{Kind}
use Rattle.ci_expr.specs.declared.tree.Join.{Join}
use Rattle.ci_expr.specs.Token.{Token}
use Rattle.ci_expr.specs.Reading.{◌>>=◌}
use Rattle.ci_expr.specs.Formula.{Operand, null, text, variable, Formula, joined, group, present, equal, found, Level, chain, or, test, part, sign}
use Rattle.ci_expr.specs.Source.{source_of}

-- the place of a kind among the kinds
abbrev pub place : Kind → ℕ
place Kind.Name = 0
place Kind.Text = 1
place Kind.Null = 2
place Kind.Equal = 3
place Kind.Unequal = 4
place Kind.Match = 5
place Kind.Mismatch = 6
place Kind.And = 7
place Kind.Or = 8
place Kind.Left = 9
place Kind.Right = 10
place Kind.Pattern = 11

abbrev pub is_kind : Kind → Kind → Bool
is_kind a b = place a == place b

-- ---- what a token says
-- what follows a byte that a slice begins with
abbrev pub behind_byte : ℕ → List ℕ → Option (List ℕ)
behind_byte q s = if get_or s 0 0 == q then Some (drop 1 s) else None

-- what comes before a byte that a slice ends with
abbrev pub before_byte : ℕ → List ℕ → Option (List ℕ)
before_byte q s = if get_or s (length s - 1) 0 == q then Some (take (length s - 1) s) else None

-- the text between two equal marks
abbrev pub text_of : List ℕ → Option (List ℕ)
text_of s = if (get_or s 0 0 == 34) || (get_or s 0 0 == 39) then before_byte (get_or s 0 0) (drop 1 s) else None

-- the body of a pattern, and whether `i` follows it
abbrev pub flagged : Bool → Option (List ℕ) → Option (List ℕ × Bool)
flagged insensitive body = option_map (λ b. (b, insensitive)) body

abbrev pub body_by : List ℕ → Option (List ℕ) → Option (List ℕ × Bool)
body_by s None = flagged false (before_byte 47 s)
body_by s (Some cut) = flagged true (before_byte 47 cut)

abbrev pub body_of : List ℕ → Option (List ℕ × Bool)
body_of s = body_by s (before_byte 105 s)

abbrev pub pattern_of : List ℕ → Option (List ℕ × Bool)
pattern_of s = option_and_then body_of (behind_byte 47 s)

abbrev pub operand_by : List ℕ → Kind → Option Operand
operand_by s Kind.Null = Some null
operand_by s Kind.Text = option_map text (text_of s)
operand_by s Kind.Name = option_map variable (behind_byte 36 s)
operand_by s _ = None

-- ---- formulas
-- a formula, and the tokens behind it
abbrev pub Read : Type 0
Read = Result (Formula × List Token) ExprCode

-- the tokens behind one of this kind
abbrev pub behind : Kind → List Token → Option (List Token)
behind k [] = None
behind k (t ∷ ts) = if is_kind t.kind k then Some ts else None

abbrev pub compared_by : Bool → List ℕ → List Token → Option Operand → Read
compared_by negated name rest None = Err X4
compared_by negated name rest (Some operand) = Ok (equal negated name operand, rest)

abbrev pub compared_from : Bool → List ℕ → List Token → Read
compared_from negated name [] = Err X4
compared_from negated name (t ∷ ts) = compared_by negated name ts (operand_by t.slice t.kind)

abbrev pub matched_by : Bool → List ℕ → List Token → Option (List ℕ × Bool) → Read
matched_by negated name rest None = Err X4
matched_by negated name rest (Some p) = Ok (found negated name (source_of (chars p.0)) p.1, rest)

abbrev pub matched_from : Bool → List ℕ → List Token → Read
matched_from negated name [] = Err X4
matched_from negated name (t ∷ ts) = if is_kind t.kind Kind.Pattern then matched_by negated name ts (pattern_of t.slice) else Err X4

abbrev pub sign_by : List ℕ → Token → List Token → Kind → Read
sign_by name t ts Kind.Equal = compared_from false name ts
sign_by name t ts Kind.Unequal = compared_from true name ts
sign_by name t ts Kind.Match = matched_from false name ts
sign_by name t ts Kind.Mismatch = matched_from true name ts
sign_by name t ts _ = Ok (present name, t ∷ ts)

abbrev pub named_from : List ℕ → List Token → Read
named_from name [] = Ok (present name, [])
named_from name (t ∷ ts) = sign_by name t ts t.kind

abbrev pub variable_by : List Token → Option (List ℕ) → Read
variable_by ts None = Err X4
variable_by ts (Some name) = named_from name ts

abbrev pub closed : Formula → Option (List Token) → Read
closed f None = Err X4
closed f (Some rest) = Ok (group f, rest)

-- what a test is, where `next` reads an `or`
abbrev pub test_by : (List Token → Read) → List ℕ → List Token → Kind → Read
test_by next s ts Kind.Left = next ts >>= λ x. closed x.0 (behind Kind.Right x.1)
test_by next s ts Kind.Name = variable_by ts (behind_byte 36 s)
test_by next s ts _ = Err X4

-- a formula and those that are joined to it, where `next` reads the others
abbrev pub joined_by : Join → (List Token → Read) → Formula → List Token → Option (List Token) → Read
joined_by j next f rest None = Ok (f, rest)
joined_by j next f rest (Some more) = next more >>= λ y. Ok (joined j f y.0, y.1)

-- the longest formula of a level at the front, with so many steps at most
abbrev pub descend : ℕ → Level → List Token → Read
descend zero l ts = Err X4
descend (suc n) (chain j) ts = descend n (part j) ts >>= λ x. joined_by j (descend n (chain j)) x.0 x.1 (behind (sign j) x.1)
descend (suc n) test [] = Err X4
descend (suc n) test (t ∷ ts) = test_by (descend n or) t.slice ts t.kind

-- how far a level lies above the tokens
abbrev pub height : Level → ℕ
height (chain Join.Or) = 3
height (chain Join.And) = 2
height test = 1

-- so many steps are enough
abbrev pub reach : Level → List Token → ℕ
reach l ts = 3 * length ts + height l

abbrev pub whole_by : Formula × List Token → Result Formula ExprCode
whole_by x = whole_at x.0 x.1
  where
    whole_at : Formula → List Token → Result Formula ExprCode
    whole_at f [] = Ok f
    whole_at f (t ∷ ts) = Err X4

-- the formula of a whole list of tokens
abbrev pub formula_from : List Token → Result Formula ExprCode
formula_from ts = descend (reach or ts) or ts >>= whole_by
