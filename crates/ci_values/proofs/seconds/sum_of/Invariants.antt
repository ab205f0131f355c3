use Rattle.std.proofs.Common.{◌≡◌, ◌≤◌, Some, length}
use Rattle.ci_values.specs.Duration.{plus, seconds_of}
use Rattle.ci_values.specs.declared.seconds.TheConstants.{MAX_SECONDS}
use Rattle.ci_values.proofs.seconds.sum_of.Given as goal

abbrev pub invariant-pairs : goal.invariant-pairs
invariant-pairs l = record {
  small : l.sum ≤ MAX_SECONDS;
  rest : seconds_of l.bytes ≡ plus (Some l.sum) (seconds_of l.rest);
}

abbrev pub decreases-pairs : goal.decreases-pairs
decreases-pairs l = length l.rest
