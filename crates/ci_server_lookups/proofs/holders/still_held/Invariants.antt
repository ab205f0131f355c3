use Rattle.std.proofs.Common.{◌≡◌, take}
use Rattle.ci_server_lookups.specs.Prelude.{still_held}
use Rattle.ci_server_lookups.proofs.holders.still_held.Given as goal

-- those so far that still hold what they held
abbrev pub invariant-loop-holder : goal.invariant-loop-holder
invariant-loop-holder l = l.still.items ≡ still_held l.changes (take l.holder-index l.held)
