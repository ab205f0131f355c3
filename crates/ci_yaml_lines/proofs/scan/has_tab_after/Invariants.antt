use Rattle.std.proofs.Common.{◌≡◌, length}
use Rattle.ci_yaml_lines.specs.Prelude.{has_tab_after}
use Rattle.ci_yaml_lines.proofs.scan.has_tab_after.Given as goal

abbrev pub invariant-scan : goal.invariant-scan
invariant-scan l = has_tab_after l.rest ≡ has_tab_after l.fn.bytes

abbrev pub decreases-scan : goal.decreases-scan
decreases-scan l = length l.rest
