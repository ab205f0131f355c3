use Rattle.std.proofs.Common.{◌≡◌, drop}
use Rattle.ci_expr.specs.Prelude.{names_unicode}
use Rattle.ci_expr.proofs.cost.names_unicode.Given as goal

abbrev pub invariant-loop-byte : goal.invariant-loop-byte
invariant-loop-byte l = names_unicode (drop l.byte-index l.bytes) ≡ names_unicode l.bytes
