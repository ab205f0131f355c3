-- The faults of a list of tokens before the grammar is asked, counted from the left.
use Rattle.std.specs.Prelude.{ℕ, ◌+◌, ◌-◌, Bool, true, false, List, [], ◌∷◌, Option, Some, None, max, nat_lt, ◌==◌, not, ◌&&◌, ◌||◌, if◌then◌else◌}
use Rattle.ci_expr.specs.declared.fault.ExprCode.{ExprCode}
use Rattle.ci_expr.specs.declared.fault.ExprCode.TheVariants.{X5, X6, X7}
use Rattle.ci_expr.specs.declared.token.Kind.{Kind}
use Rattle.ci_expr.specs.Token.{Token}
use Rattle.ci_expr.specs.Faults.{takes_pattern}

-- how many parentheses are open after a token
abbrev pub open_after : ℕ → Kind → ℕ
open_after n Kind.Left = n + 1
open_after n Kind.Right = n - 1
open_after n _ = n

-- a parenthesis that closes where none is open
abbrev pub closes_none : ℕ → Kind → Bool
closes_none n Kind.Right = n == 0
closes_none n _ = false

-- none closes what isn't open, and none is left open
abbrev pub balances : ℕ → List Token → Bool
balances n [] = n == 0
balances n (t ∷ ts) = not (closes_none n t.kind) && balances (open_after n t.kind) ts

-- the most parentheses that are open at once
abbrev pub deepest : ℕ → List Token → ℕ
deepest n [] = n
deepest n (t ∷ ts) = max n (deepest (open_after n t.kind) ts)

abbrev pub is_pattern : Kind → Bool
is_pattern Kind.Pattern = true
is_pattern _ = false

-- a pattern stands where no `=~` or `!~` is directly before it
abbrev pub has_stray : Bool → List Token → Bool
has_stray after [] = false
has_stray after (t ∷ ts) = (is_pattern t.kind && not after) || has_stray (takes_pattern t.kind) ts

-- the first of these faults
abbrev pub list_fault : List Token → Option ExprCode
list_fault ts =
    if balances 0 ts then (if has_stray false ts then Some X6 else if nat_lt 32 (deepest 0 ts) then Some X7 else None) else Some X5
