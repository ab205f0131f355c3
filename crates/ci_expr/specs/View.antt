-- What a call answers, without where it lies in memory.
use Rattle.std.specs.Prelude.{◌≡◌, ℕ, ◌≤◌, List, Result, Ok, Err, map, true, chars, ⊤}
use Rattle.std.specs.Borrow.{Bor}
use Rattle.std.specs.Global.{Vec}
use Rattle.ci_expr.specs.declared.fault.ExprCode.{ExprCode}
use Rattle.ci_expr.specs.declared.fault.ExprCode.TheVariants.{X8}
use Rattle.ci_expr.specs.declared.fault.ExprFault.{ExprFault}
use Rattle.ci_expr.specs.declared.token.Token as rust
use Rattle.ci_expr.specs.declared.tree.Operand as operands
use Rattle.ci_expr.specs.declared.tree.Operand.TheVariants as operand
use Rattle.ci_expr.specs.declared.tree.Tree as trees
use Rattle.ci_expr.specs.declared.tree.Tree.TheVariants.{Joined', Group', Present, Equal, Found}
use Rattle.ci_expr.specs.Token.{Token}
use Rattle.ci_expr.specs.Formula.{Operand, null, text, variable, Formula, joined, group, present, equal, found, Level, has_pattern}
use Rattle.ci_expr.specs.Source.{source_of}
use Rattle.ci_expr.specs.Descent.{descend, reach}

abbrev pub token_view : rust.Token → Token
token_view t = record { kind = t.kind; slice = t.slice.now; start = t.start; end = t.end }

abbrev pub tokens_view : Vec rust.Token → List Token
tokens_view v = map token_view v.items

abbrev pub operand_view : operands.Operand → Operand
operand_view operand.Null = null
operand_view (operand.Text s) = text s.now
operand_view (operand.Variable s) = variable s.now

abbrev pub tree_view : trees.Tree → Formula
tree_view (Joined' j p a q b) = joined j (tree_view a) (tree_view b)
tree_view (Group' p a) = group (tree_view a)
tree_view (Present name) = present name.now
tree_view (Equal negated name operand) = equal negated name.now (operand_view operand)
tree_view (Found negated name body insensitive) = found negated name.now (source_of (chars body.now)) insensitive

-- a formula, and the tokens behind it
abbrev pub read_view : trees.Tree × Bor (List rust.Token) → Formula × List Token
read_view r = (tree_view r.0, map token_view r.1.now)

-- What a function returned is what reading gives, unless memory ran out.
abbrev pub Fails : {Y : Type 0} → ExprFault → Result Y ExprCode → Type 0
Fails ExprFault.Memory read = ⊤
Fails (ExprFault.Fault c) read = read ≡ Err c

abbrev pub Gives : {X Y : Type 0} → (X → Y) → Result X ExprFault → Result Y ExprCode → Type 0
Gives view (Ok x) read = read ≡ Ok (view x)
Gives view (Err e) read = Fails e read

-- the only fault of a pattern
abbrev pub IsOfPattern : ExprFault → Type 0
IsOfPattern ExprFault.Memory = ⊤
IsOfPattern (ExprFault.Fault x) = x ≡ X8

-- a pattern is refused only where there is one
abbrev pub RefusesPattern : ExprFault → Formula → Type 0
RefusesPattern ExprFault.Memory f = ⊤
RefusesPattern (ExprFault.Fault x) f = (x ≡ X8) × (has_pattern f ≡ true)

-- what reading a level answers, with any number of steps that is enough
abbrev pub IsDescent : Level → List Token → Result (trees.Tree × Bor (List rust.Token)) ExprFault → Type 0
IsDescent l ts result = (n : ℕ) → reach l ts ≤ n → Gives read_view result (descend n l ts)
