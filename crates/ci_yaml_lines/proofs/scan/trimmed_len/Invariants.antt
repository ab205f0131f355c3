use Rattle.std.proofs.Common.{◌≡◌, length}
use Rattle.ci_yaml_lines.specs.Prelude.{trimmed_len}
use Rattle.ci_yaml_lines.proofs.scan.trimmed_len.Given as goal

abbrev pub invariant-scan : goal.invariant-scan
invariant-scan l = trimmed_len l.rest ≡ trimmed_len l.fn.bytes

abbrev pub decreases-scan : goal.decreases-scan
decreases-scan l = length l.rest
