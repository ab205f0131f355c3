use Rattle.std.proofs.Common.{◌≡◌, ◌≤◌, ◌+◌, ◌-◌, length}
use Rattle.ci_yaml_lines.specs.Prelude.{key_len}
use Rattle.ci_yaml_lines.proofs.scan.key_len.Given as goal

abbrev pub invariant-scan : goal.invariant-scan
invariant-scan l = record {
  within : length l.rest ≤ length l.fn.bytes;
  value : length l.fn.bytes - length l.rest + key_len l.last l.rest ≡ key_len 0 l.fn.bytes;
}

abbrev pub decreases-scan : goal.decreases-scan
decreases-scan l = length l.rest
