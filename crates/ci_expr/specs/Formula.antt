-- Formulas, the tokens that spell them, and their truth.
use Rattle.std.specs.Prelude.{◌≡◌, ℕ, Bool, true, false, List, [], ◌∷◌, ◌++◌, ◌||◌, chars}
use Rattle.ci_expr.specs.declared.token.Kind.{Kind}
use Rattle.ci_expr.specs.declared.tree.Join.{Join}
use Rattle.ci_expr.specs.Source.{source_of}
use Rattle.ci_expr.specs.Token.{Token, IsMark}

-- what a variable is compared with
pub data Operand : Type 0 where
  null : Operand
  text : List ℕ → Operand
  variable : List ℕ → Operand

pub data Formula : Type 0 where
  -- with `||` one of the two is true, with `&&` both are
  joined : Join → Formula → Formula → Formula
  -- a formula in parentheses
  group : Formula → Formula
  -- the variable of this name is defined and not empty
  present : List ℕ → Formula
  -- the variable has the operand's value; with `true`, it hasn't
  equal : Bool → List ℕ → Operand → Formula
  -- the pattern of these characters is found in the variable, where the second flag lets letters match in either case;
  -- with the first `true`, it isn't
  found : Bool → List ℕ → List ℕ → Bool → Formula

-- ---- which tokens spell a formula
-- one or more formulas joined in this way, or a single test
pub data Level : Type 0 where
  chain : Join → Level
  test : Level

-- any formula
abbrev pub or : Level
or = chain Join.Or

-- what is joined: `||` joins chains of `&&`, and `&&` joins tests
abbrev pub part : Join → Level
part Join.Or = chain Join.And
part Join.And = test

-- the token that joins
abbrev pub sign : Join → Kind
sign Join.Or = Kind.Or
sign Join.And = Kind.And

-- `==`, and `!=` where it is negated
abbrev pub comparing : Bool → Kind
comparing false = Kind.Equal
comparing true = Kind.Unequal

-- `=~`, and `!~` where it is negated
abbrev pub matching : Bool → Kind
matching false = Kind.Match
matching true = Kind.Mismatch

-- a name, without its `$`
abbrev pub IsNamed : List ℕ → Token → Type 0
IsNamed name t = (t.kind ≡ Kind.Name) × (t.slice ≡ 36 ∷ name)

-- a text without its marks, `null` or a variable
abbrev pub IsOperand : Operand → Token → Type 0
IsOperand null t = t.kind ≡ Kind.Null
IsOperand (text bs) t = (t.kind ≡ Kind.Text) × ((q : ℕ) × IsMark q × (t.slice ≡ q ∷ (bs ++ q ∷ [])))
IsOperand (variable name) t = IsNamed name t

abbrev pub flag_of : Bool → List ℕ
flag_of false = []
flag_of true = 105 ∷ []

-- `/body/`, or `/body/i`
abbrev pub IsPatternOf : List ℕ → Bool → Token → Type 0
IsPatternOf source insensitive t =
    (t.kind ≡ Kind.Pattern) × ((body : List ℕ) × (t.slice ≡ 47 ∷ (body ++ 47 ∷ flag_of insensitive)) × (source ≡ source_of (chars body)))

-- the grammar: the tokens are this formula, read at this level
pub data Derives : Level → List Token → Formula → Type 0 where
  single : (j : Join) (ts : List Token) (f : Formula) → Derives (part j) ts f → Derives (chain j) ts f
  several : (j : Join) (left : List Token) (t : Token) (right ts : List Token) (f g : Formula) → Derives (part j) left f → t.kind ≡ sign j → Derives (chain j) right g
      → ts ≡ left ++ t ∷ right → Derives (chain j) ts (joined j f g)
  in_group : (l : Token) (inner : List Token) (r : Token) (ts : List Token) (f : Formula) → l.kind ≡ Kind.Left → Derives or inner f → r.kind ≡ Kind.Right
      → ts ≡ l ∷ (inner ++ r ∷ []) → Derives test ts (group f)
  alone : (v : Token) (name : List ℕ) → IsNamed name v → Derives test (v ∷ []) (present name)
  compared : (v c w : Token) (negated : Bool) (name : List ℕ) (operand : Operand) → IsNamed name v → c.kind ≡ comparing negated → IsOperand operand w
      → Derives test (v ∷ c ∷ w ∷ []) (equal negated name operand)
  matched : (v c w : Token) (negated : Bool) (name source : List ℕ) (insensitive : Bool) → IsNamed name v → c.kind ≡ matching negated
      → IsPatternOf source insensitive w → Derives test (v ∷ c ∷ w ∷ []) (found negated name source insensitive)

-- the formula holds a pattern
abbrev pub has_pattern : Formula → Bool
has_pattern (joined j f g) = has_pattern f || has_pattern g
has_pattern (group f) = has_pattern f
has_pattern (found negated name source insensitive) = true
has_pattern _ = false
