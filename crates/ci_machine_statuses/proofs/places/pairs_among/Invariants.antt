use Rattle.std.proofs.Common.{◌≡◌, length, take, nat_cmp}
use Rattle.std.specs.List.Sorted.{IsStrictlySortedBy}
use Rattle.ci_machine.specs.Prelude.{AreWithin}
use Rattle.ci_machine_steps.specs.Prelude.{pairs_among}
use Rattle.ci_machine_statuses.specs.Boards.{AreNamed}
use Rattle.ci_machine_statuses.proofs.places.pairs_among.Given as goal

-- the pairs of the needs so far
abbrev pub invariant-loop-need : goal.invariant-loop-need
invariant-loop-need l =
    AreWithin (length l.numbers) l.pairs.items
    × (IsStrictlySortedBy nat_cmp l.numbers → l.pairs.items ≡ pairs_among l.numbers (take l.need-index l.needs))
    × (IsStrictlySortedBy nat_cmp l.numbers → AreNamed l.numbers (take l.need-index l.needs))
