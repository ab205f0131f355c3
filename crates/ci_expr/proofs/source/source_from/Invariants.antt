use Rattle.std.proofs.Common.{◌≡◌, ◌++◌, length, string_bytes, encode_utf8_all}
use Rattle.ci_expr.specs.Prelude.{source_of}
use Rattle.ci_expr.proofs.source.source_from.Given as goal

abbrev pub invariant-loop-rest : goal.invariant-loop-rest
invariant-loop-rest l = string_bytes l.written ++ encode_utf8_all (source_of l.rest) ≡ encode_utf8_all (source_of l.fn.text)

abbrev pub decreases-loop-rest : goal.decreases-loop-rest
decreases-loop-rest l = length l.rest
