-- The expression of a rule.
use Rattle.std.specs.Prelude.{List, [], ◌∷◌, ℕ, Bool, true, false, not, ◌||◌, ◌==◌, Result, Ok, Err, if◌then◌else◌}
use Rattle.ci_expr.specs.declared.fault.ExprCode.{ExprCode}
use Rattle.ci_expr.specs.declared.fault.ExprCode.TheVariants.{X8}
use Rattle.ci_expr.specs.Prelude.{Formula, has_pattern, expression_of}
use Rattle.ci_config.specs.Fault.{K13, Placed}
use Rattle.ci_config.specs.Reading.{fails, demand}
use Rattle.ci_config.specs.Config.{Text}

-- Which patterns are built: all of them; none; or all but those of one expression, that of the entry at the end of a way.
pub data Patterns : Type 0 where
  built : Patterns
  refused : Patterns
  refused_at : List ℕ → Patterns

-- the same of what lies in the entry behind so many, from there
abbrev pub below : ℕ → Patterns → Patterns
below before built = built
below before refused = refused
below before (refused_at []) = built
below before (refused_at (k ∷ way)) = if k == before then refused_at way else built

-- the patterns of the entry that is read are built
abbrev pub are_built : Patterns → Bool
are_built built = true
are_built refused = false
are_built (refused_at []) = false
are_built (refused_at (k ∷ way)) = true

abbrev pub condition_by : Patterns → Result Formula ExprCode → Result Formula Placed
condition_by p (Err x) = fails (K13 x)
condition_by p (Ok f) = demand (are_built p || not (has_pattern f)) (K13 X8) (Ok f)

abbrev pub condition_of : Text → Patterns → Result Formula Placed
condition_of text builds = condition_by builds (expression_of text)
