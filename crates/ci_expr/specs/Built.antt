-- What a built formula says.
use Rattle.std.specs.Prelude.{ℕ, ◌+◌, Bool, true, false, not, List, [], ◌∷◌, ◌++◌, length, map, sum_by, chars, string_bytes, unwrap_or, ⊤, ◌&&◌, bytes_eq}
use Rattle.std.specs.Borrow.{Bor}
use Rattle.ci_expr.specs.declared.budget.PatternBudget.{PatternBudget}
use Rattle.ci_expr.specs.declared.expr.Expr.{Expr}
use Rattle.ci_expr.specs.declared.formula.Env.{Env}
use Rattle.ci_expr.specs.declared.formula.Subject as subjects
use Rattle.ci_expr.specs.declared.formula.Subject.{Subject}
use Rattle.ci_expr.specs.declared.formula.Formula as formulas
use Rattle.ci_expr.specs.declared.formula.Formula.TheVariants.{Joined', Group', Present, Equal, Found}
use Rattle.ci_expr.specs.declared.looks.Look as looks
use Rattle.ci_expr.specs.declared.pattern.Pattern as patterns
use Rattle.ci_expr.specs.Budget.{pattern_cost, text_cost}
use Rattle.ci_expr.specs.Found.{HasTables}
use Rattle.ci_expr.specs.Formula.{Operand, null, text, variable, Formula, joined, group, present, equal, found}
use Rattle.ci_expr.specs.Truth.{Values, value_of}

abbrev pub values_of : Env → Values
values_of env = map (λ p. (p.0.now, p.1.now)) env.pairs.now

abbrev pub subject_view : subjects.Subject → Operand
subject_view Subject.Null = null
subject_view (Subject.Text s) = text (string_bytes s)
subject_view (Subject.Variable s) = variable (string_bytes s)

abbrev pub formula_view : formulas.Formula → Formula
formula_view (Joined' j p a q b) = joined j (formula_view a) (formula_view b)
formula_view (Group' p a) = group (formula_view a)
formula_view (Present name) = present (string_bytes name)
formula_view (Equal negated name subject) = equal negated (string_bytes name) (subject_view subject)
formula_view (Found negated name pattern) = found negated (string_bytes name) (chars (string_bytes pattern.value.source)) pattern.value.insensitive

-- the formula that an expression says
abbrev pub formula_of : Expr → Formula
formula_of e = formula_view e.root

-- ---- its patterns, and where they are looked for

-- a pattern, with the bytes that its tables take
pub record Pattern : Type 0 where
  pub insensitive : Bool
  pub source : List ℕ
  pub bytes : ℕ

abbrev pub pattern_view : patterns.Pattern → Pattern
pattern_view p = record { insensitive = p.insensitive; source = string_bytes p.source; bytes = p.bytes }

abbrev pub patterns_view : List (Bor patterns.Pattern) → List Pattern
patterns_view ps = map (λ p. pattern_view p.now) ps

abbrev pub same_flag : Bool → Bool → Bool
same_flag false b = not b
same_flag true b = b

-- two patterns are the same: one source, read with one flag
abbrev pub same_pattern : Pattern → Pattern → Bool
same_pattern p q = same_flag p.insensitive q.insensitive && bytes_eq p.source q.source

abbrev pub patterns_in : formulas.Formula → List Pattern
patterns_in (Joined' j p a q b) = patterns_in a ++ patterns_in b
patterns_in (Group' p a) = patterns_in a
patterns_in (Found negated name pattern) = pattern_view pattern.value ∷ []
patterns_in _ = []

-- the patterns of an expression, in their order
abbrev pub patterns_of : Expr → List Pattern
patterns_of e = patterns_in e.root

-- what building a pattern costs
abbrev pub cost_of : Pattern → ℕ
cost_of p = pattern_cost p.insensitive p.source p.bytes

-- the patterns that were paid from a budget, and what they cost
abbrev pub built_of : PatternBudget → List Pattern
built_of b = map pattern_view b.built.items

abbrev pub spent : PatternBudget → ℕ
spent b = sum_by cost_of (built_of b)

-- a pattern and a text that it is looked for in
pub record Look : Type 0 where
  pub pattern : Pattern
  pub text : List ℕ

abbrev pub look_view : looks.Look → Look
look_view l = record { pattern = pattern_view l.pattern.now; text = l.text.now }

abbrev pub looks_view : List looks.Look → List Look
looks_view ls = map look_view ls

-- the same pattern in the same text
abbrev pub same_look : Look → Look → Bool
same_look a b = same_pattern a.pattern b.pattern && bytes_eq a.text b.text

abbrev pub looks_in : Values → formulas.Formula → List Look
looks_in vs (Joined' j p a q b) = looks_in vs a ++ looks_in vs b
looks_in vs (Group' p a) = looks_in vs a
looks_in vs (Found negated name pattern) = record { pattern = pattern_view pattern.value; text = unwrap_or (value_of vs (string_bytes name)) [] } ∷ []
looks_in vs _ = []

-- what an expression looks for, each pattern in the value of its variable
abbrev pub looks_of : Values → Expr → List Look
looks_of vs e = looks_in vs e.root

-- what a look costs
abbrev pub look_cost : Look → ℕ
look_cost l = text_cost l.pattern.source l.pattern.bytes (length l.text + 1)

-- each pattern is kept with the bytes that the tables of its automaton take
abbrev pub AreMeasured : formulas.Formula → Type 0
AreMeasured (Joined' j p a q b) = AreMeasured a × AreMeasured b
AreMeasured (Group' p a) = AreMeasured a
AreMeasured (Found negated name pattern) = HasTables pattern.value.insensitive (string_bytes pattern.value.source) pattern.value.bytes
AreMeasured _ = ⊤

abbrev pub IsMeasured : Expr → Type 0
IsMeasured e = AreMeasured e.root
