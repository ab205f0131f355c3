use Rattle.std.proofs.Common.{◌≡◌, ◌+◌, drop}
use Rattle.ci_yaml_lines.specs.Prelude.{comment_len}
use Rattle.ci_yaml_lines.proofs.scan.comment_len.Given as goal

abbrev pub invariant-loop-i : goal.invariant-loop-i
invariant-loop-i l = l.i + comment_len l.last (drop l.i l.bytes) ≡ comment_len l.fn.last l.fn.bytes
