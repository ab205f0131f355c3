use Rattle.std.proofs.Common.{◌≡◌, ◌≤◌, ℕ, [], length, map, take, nat_cmp}
use Rattle.std.specs.List.Sorted.{IsStrictlySortedBy}
use Rattle.ci_machine_statuses.specs.Lookups.{tally_at, tally_of}
use Rattle.ci_machine_statuses.proofs.tally.count_all.Given as goal

-- the tallies are those of the attempts so far, and none has counted more than these
abbrev pub invariant-loop-attempt : goal.invariant-loop-attempt
invariant-loop-attempt l =
    record {
      long : length l.tallies ≡ length l.numbers;
      few : (place : ℕ) → (tally_at l.tallies place).count ≤ l.attempt-index;
      are : IsStrictlySortedBy nat_cmp l.numbers → l.fn.tallies ≡ map (tally_of []) l.numbers → l.tallies ≡ map (tally_of (take l.attempt-index l.attempts)) l.numbers;
    }
