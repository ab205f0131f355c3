use Rattle.std.proofs.Common.{All, take}
use Rattle.ci_memory.specs.Quiet.{IsWithin}
use Rattle.ci_memory.proofs.leases.due.quiet_over.Given as goal

-- the leases so far are within
abbrev pub invariant-loop-lease : goal.invariant-loop-lease
invariant-loop-lease l = All (IsWithin l.quiet) (take l.lease-index l.leases)
