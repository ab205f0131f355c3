-- The truth of a formula where variables have values.
use Rattle.std.specs.Prelude.{ℕ, Bool, true, false, List, [], ◌∷◌, Option, Some, None, unwrap_or, not, ◌&&◌, ◌||◌, if◌then◌else◌}
use Rattle.std.specs.Str.{bytes_eq}
use Rattle.ci_expr.specs.declared.tree.Join.{Join}
use Rattle.ci_expr.specs.Formula.{Operand, null, text, variable, Formula, joined, group, present, equal, found}
use Rattle.ci_expr.specs.Found.{config_of, is_found_in}

-- names with their values
abbrev pub Values : Type 0
Values = List (List ℕ × List ℕ)

-- the first with the name counts; without one the variable is undefined
abbrev pub value_of : Values → List ℕ → Option (List ℕ)
value_of [] name = None
value_of (v ∷ vs) name = if bytes_eq v.0 name then Some v.1 else value_of vs name

abbrev pub is_filled : Option (List ℕ) → Bool
is_filled (Some (b ∷ bs)) = true
is_filled _ = false

-- `null` is no value
abbrev pub operand_value : Values → Operand → Option (List ℕ)
operand_value vs null = None
operand_value vs (text bs) = Some bs
operand_value vs (variable name) = value_of vs name

abbrev pub same_value : Option (List ℕ) → Option (List ℕ) → Bool
same_value None None = true
same_value (Some x) (Some y) = bytes_eq x y
same_value _ _ = false

abbrev pub negated_by : Bool → Bool → Bool
negated_by false b = b
negated_by true b = not b

-- an undefined variable is matched as the empty text
abbrev pub truth : Values → Formula → Bool
truth vs (joined Join.Or f g) = truth vs f || truth vs g
truth vs (joined Join.And f g) = truth vs f && truth vs g
truth vs (group f) = truth vs f
truth vs (present name) = is_filled (value_of vs name)
truth vs (equal negated name operand) = negated_by negated (same_value (value_of vs name) (operand_value vs operand))
truth vs (found negated name source insensitive) = negated_by negated (is_found_in (config_of insensitive) source (unwrap_or (value_of vs name) []))
