-- What a text means: its tokens and its formula, or why it has none.
use Rattle.std.specs.Prelude.{◌≡◌, ◌≢◌, ℕ, ◌<◌, ◌≤◌, ◌⊎◌, true, List, length, Option, Some, None, Result, Ok, Err, ⊤}
use Rattle.ci_expr.specs.declared.fault.ExprCode.{ExprCode}
use Rattle.ci_expr.specs.declared.fault.ExprCode.TheVariants.{X1, X4, X5, X6, X7, X8}
use Rattle.ci_expr.specs.declared.fault.ExprFault.{ExprFault}
use Rattle.ci_expr.specs.Token.{Token, AreTokens, Stops}
use Rattle.ci_expr.specs.Formula.{Formula, joined, group, found, or, Derives, has_pattern}
use Rattle.ci_expr.specs.Found.{IsPattern}
use Rattle.ci_expr.specs.Faults.{IsBalanced, HasStray, IsDeep}
use Rattle.ci_expr.specs.Order.{list_fault}
use Rattle.ci_expr.specs.Descent.{formula_from}

-- the tokens of a text, or its first fault: a text that is too long, or what stops the tokens
abbrev pub Tokenizes : List ℕ → Result (List Token) ExprCode → Type 0
Tokenizes text (Ok ts) = (length text ≤ 1024) × AreTokens 0 text ts
Tokenizes text (Err X1) = 1024 < length text
Tokenizes text (Err x) = (length text ≤ 1024) × Stops text x

-- a text has at most one list of tokens
abbrev pub AtMostOneList : Type 0
AtMostOneList = (text : List ℕ) (ts us : List Token) → AreTokens 0 text ts → AreTokens 0 text us → ts ≡ us

-- the formula of a list of tokens, or a fault: of those that hold, the first in the order X5, X6, X7, X4, X8
abbrev pub Parses : List Token → Result Formula ExprCode → Type 0
Parses ts (Ok f) = ¬ (IsDeep ts) × Derives or ts f
Parses ts (Err X5) = ¬ (IsBalanced ts)
Parses ts (Err X6) = IsBalanced ts × HasStray ts
Parses ts (Err X7) = IsBalanced ts × ¬ (HasStray ts) × IsDeep ts
Parses ts (Err X4) = IsBalanced ts × ¬ (HasStray ts) × ¬ (IsDeep ts) × ((f : Formula) → ¬ (Derives or ts f))
Parses ts (Err X8) = ¬ (IsDeep ts) × ((f : Formula) × Derives or ts f × (has_pattern f ≡ true))
Parses ts (Err x) = ⊥

-- A text of which a formula is read; or a fault, those of the text before those of the tokens. X8 is a fault wherever the
-- formula holds a pattern: `regex` says whether it comes.
abbrev pub Means : List ℕ → Result Formula ExprCode → Type 0
Means text (Ok f) = (ts : List Token) × Tokenizes text (Ok ts) × Parses ts (Ok f)
Means text (Err x) = Tokenizes text (Err x) ⊎ ((ts : List Token) × Tokenizes text (Ok ts) × Parses ts (Err x))

-- What a call answers is so, unless memory ran out.
abbrev pub Answers : {X Y : Type 0} → (X → Y) → Result X ExprFault → (Result Y ExprCode → Type 0) → Type 0
Answers view (Ok x) P = P (Ok (view x))
Answers view (Err ExprFault.Memory) P = ⊤
Answers view (Err (ExprFault.Fault x)) P = P (Err x)

-- What means this is answered so, unless memory ran out or a pattern is refused.
abbrev pub Allows : {X : Type 0} → (X → Formula) → Result X ExprFault → Result Formula ExprCode → Type 0
Allows view (Ok x) (Ok f) = f ≡ view x
Allows view (Ok x) (Err y) = (y ≡ X8) × (has_pattern (view x) ≡ true)
Allows view (Err ExprFault.Memory) r = ⊤
Allows view (Err (ExprFault.Fault x)) (Ok f) = (x ≡ X8) × (has_pattern f ≡ true)
Allows view (Err (ExprFault.Fault x)) (Err y) = y ≡ x

-- `regex` has each pattern of the formula
abbrev pub ArePatterns : Formula → Type 0
ArePatterns (joined j f g) = ArePatterns f × ArePatterns g
ArePatterns (group f) = ArePatterns f
ArePatterns (found negated name source insensitive) = IsPattern insensitive source
ArePatterns _ = ⊤

-- a formula, or a fault that is the text's own and not that of `regex`
abbrev pub IsOwn : Result Formula ExprCode → Type 0
IsOwn (Ok f) = ⊤
IsOwn (Err x) = x ≢ X8

-- the text means this and, X8 aside, nothing else
abbrev pub IsMeaning : List ℕ → Result Formula ExprCode → Type 0
IsMeaning text r = IsOwn r × Means text r × ((s : Result Formula ExprCode) → IsOwn s → Means text s → s ≡ r)

-- each text means one formula, or has one fault
abbrev pub MeansOneThing : Type 0
MeansOneThing = (text : List ℕ) → (r : Result Formula ExprCode) × IsMeaning text r

-- the grammar gives a list of tokens at most one formula
abbrev pub AtMostOneFormula : Type 0
AtMostOneFormula = (ts : List Token) (f g : Formula) → Derives or ts f → Derives or ts g → f ≡ g

-- ---- the same, computed
abbrev pub parse_by : List Token → Option ExprCode → Result Formula ExprCode
parse_by ts None = formula_from ts
parse_by ts (Some x) = Err x

abbrev pub parse_of : List Token → Result Formula ExprCode
parse_of ts = parse_by ts (list_fault ts)

-- what is computed, with its patterns built
abbrev pub IsBuilt : {X : Type 0} → (X → Formula) → Result X ExprFault → Result Formula ExprCode → Type 0
IsBuilt view (Ok x) r = r ≡ Ok (view x)
IsBuilt view (Err ExprFault.Memory) r = ⊤
IsBuilt view (Err (ExprFault.Fault x)) r = (r ≡ Err x) ⊎ ((x ≡ X8) × ((f : Formula) × (r ≡ Ok f) × (has_pattern f ≡ true)))
