-- What a user sees.
use Rattle.std.specs.Prelude.{ℕ, List, codes}
use Rattle.ci_expr.specs.declared.fault.ExprCode.{ExprCode}
use Rattle.ci_expr.specs.declared.fault.ExprCode.TheVariants.{X1, X2, X3, X4, X5, X6, X7, X8}
use Rattle.ci_expr.specs.declared.fault.ExprFault.{ExprFault}
use Rattle.ci_expr.specs.declared.fault.ExprFault.TheVariants.{Memory, Fault}

abbrev pub code_of : ExprCode → List ℕ
code_of X1 = codes "X1"
code_of X2 = codes "X2"
code_of X3 = codes "X3"
code_of X4 = codes "X4"
code_of X5 = codes "X5"
code_of X6 = codes "X6"
code_of X7 = codes "X7"
code_of X8 = codes "X8"

abbrev pub said : ExprFault → List ℕ
said Memory = codes "memory was refused"
said (Fault code) = code_of code
