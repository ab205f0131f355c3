-- What is wrong with a list of tokens, before the grammar is asked.
use Rattle.std.specs.Prelude.{◌≡◌, ℕ, ◌+◌, ◌<◌, ◌≤◌, Bool, true, false, List, [], ◌∷◌, ◌++◌, take}
use Rattle.ci_expr.specs.declared.token.Kind.{Kind}
use Rattle.ci_expr.specs.Token.{Token}

abbrev pub opens : Kind → ℕ
opens Kind.Left = 1
opens _ = 0

abbrev pub closes : Kind → ℕ
closes Kind.Right = 1
closes _ = 0

-- how many parentheses are opened, and how many are closed
abbrev pub opened : List Token → ℕ
opened [] = 0
opened (t ∷ ts) = opens t.kind + opened ts

abbrev pub closed : List Token → ℕ
closed [] = 0
closed (t ∷ ts) = closes t.kind + closed ts

-- No beginning closes more than it opens, and the whole closes all that it opens.
abbrev pub IsBalanced : List Token → Type 0
IsBalanced ts = ((k : ℕ) → closed (take k ts) ≤ opened (take k ts)) × (closed ts ≡ opened ts)

-- behind some beginning more than 32 are open
abbrev pub IsDeep : List Token → Type 0
IsDeep ts = (k : ℕ) × (closed (take k ts) + 32 < opened (take k ts))

-- `=~` and `!~`
abbrev pub takes_pattern : Kind → Bool
takes_pattern Kind.Match = true
takes_pattern Kind.Mismatch = true
takes_pattern _ = false

abbrev pub ends_in_match : List Token → Bool
ends_in_match [] = false
ends_in_match (t ∷ []) = takes_pattern t.kind
ends_in_match (t ∷ u ∷ ts) = ends_in_match (u ∷ ts)

-- a pattern stands where no `=~` or `!~` is directly before it
abbrev pub HasStray : List Token → Type 0
HasStray ts = (before : List Token) × (t : Token) × (behind : List Token) × (ts ≡ before ++ t ∷ behind) × (t.kind ≡ Kind.Pattern) × (ends_in_match before ≡ false)
