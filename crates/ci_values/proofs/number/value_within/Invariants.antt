-- The value of the digits so far.
use Rattle.std.proofs.Common.{◌≡◌, ◌≤◌, take}
use Rattle.std.specs.Str.Parse.{digits_value}
use Rattle.ci_values.proofs.number.value_within.Given as goal

abbrev pub invariant-loop-b : goal.invariant-loop-b
invariant-loop-b l = (l.value ≡ digits_value 10 (take l.b-index l.digits)) × (l.value ≤ l.limit)
