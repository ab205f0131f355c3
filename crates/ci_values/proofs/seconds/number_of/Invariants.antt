use Rattle.std.proofs.Common.{◌≡◌, ◌≤◌, ◌-◌, ◌+◌, ◌*◌, ◌^◌, drop, fold}
use Rattle.ci_values.specs.Duration.{number_of}
use Rattle.ci_values.proofs.seconds.number_of.Given as goal

abbrev pub invariant-loop-digit : goal.invariant-loop-digit
invariant-loop-digit l = record {
  small : l.number + 23 ≤ 23 * 10 ^ l.digit-index;
  rest : fold (λ n b. n * 10 + (b - 48)) l.number (drop l.digit-index l.digits) ≡ number_of l.digits;
}
