-- What a text means, computed.
use Rattle.std.specs.Prelude.{ℕ, List, Result}
use Rattle.ci_expr.specs.declared.fault.ExprCode.{ExprCode}
use Rattle.ci_expr.specs.Formula.{Formula}
use Rattle.ci_expr.specs.Reading.{◌>>=◌, tokens_of}
use Rattle.ci_expr.specs.Meaning.{parse_of}

-- the formula of a text, or its first fault but for X8
abbrev pub expression_of : List ℕ → Result Formula ExprCode
expression_of text = tokens_of text >>= parse_of
