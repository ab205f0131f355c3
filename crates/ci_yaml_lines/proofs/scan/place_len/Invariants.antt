use Rattle.std.proofs.Common.{◌≡◌, ◌+◌, drop}
use Rattle.ci_yaml_lines.specs.Prelude.{place_len}
use Rattle.ci_yaml_lines.proofs.scan.place_len.Given as goal

abbrev pub invariant-loop-i : goal.invariant-loop-i
invariant-loop-i l = l.i + place_len l.last (drop l.i l.bytes) ≡ place_len l.fn.last l.fn.bytes
