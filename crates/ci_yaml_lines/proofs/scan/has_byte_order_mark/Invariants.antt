use Rattle.std.proofs.Common.{◌≡◌, length}
use Rattle.ci_yaml_lines.specs.Prelude.{has_byte_order_mark}
use Rattle.ci_yaml_lines.proofs.scan.has_byte_order_mark.Given as goal

abbrev pub invariant-scan : goal.invariant-scan
invariant-scan l = has_byte_order_mark l.rest ≡ has_byte_order_mark l.fn.bytes

abbrev pub decreases-scan : goal.decreases-scan
decreases-scan l = length l.rest
