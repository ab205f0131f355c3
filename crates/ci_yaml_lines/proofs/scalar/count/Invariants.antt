use Rattle.std.proofs.Common.{◌≡◌, ◌≤◌, drop}
use Rattle.ci_yaml_lines.specs.Prelude.{MAX_NUMBER, count_of}
use Rattle.ci_yaml_lines.proofs.Counts.{count_rest}
use Rattle.ci_yaml_lines.proofs.scalar.count.Given as goal

abbrev pub invariant-loop-digit : goal.invariant-loop-digit
invariant-loop-digit l = record {
  number : l.number ≤ MAX_NUMBER;
  rest : count_rest l.number (drop l.digit-index l.digits) ≡ count_of l.fn.digits;
}
