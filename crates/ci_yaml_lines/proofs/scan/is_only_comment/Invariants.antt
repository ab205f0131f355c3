use Rattle.std.proofs.Common.{◌≡◌, length}
use Rattle.ci_yaml_lines.specs.Prelude.{only_comment}
use Rattle.ci_yaml_lines.proofs.scan.is_only_comment.Given as goal

abbrev pub invariant-scan : goal.invariant-scan
invariant-scan l = only_comment l.last l.rest ≡ only_comment l.fn.last l.fn.bytes

abbrev pub decreases-scan : goal.decreases-scan
decreases-scan l = length l.rest
