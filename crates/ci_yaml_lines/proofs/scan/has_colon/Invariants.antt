use Rattle.std.proofs.Common.{◌≡◌, length}
use Rattle.ci_yaml_lines.specs.Prelude.{has_colon}
use Rattle.ci_yaml_lines.proofs.scan.has_colon.Given as goal

abbrev pub invariant-scan : goal.invariant-scan
invariant-scan l = has_colon l.rest ≡ has_colon l.fn.bytes

abbrev pub decreases-scan : goal.decreases-scan
decreases-scan l = length l.rest
