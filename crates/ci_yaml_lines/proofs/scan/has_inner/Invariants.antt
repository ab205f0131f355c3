use Rattle.std.proofs.Common.{◌≡◌, length}
use Rattle.ci_yaml_lines.specs.Prelude.{has_inner}
use Rattle.ci_yaml_lines.proofs.scan.has_inner.Given as goal

abbrev pub invariant-scan : goal.invariant-scan
invariant-scan l = has_inner l.rest ≡ has_inner l.fn.bytes

abbrev pub decreases-scan : goal.decreases-scan
decreases-scan l = length l.rest
