use Rattle.std.proofs.Common.{◌≡◌, take}
use Rattle.ci_memory_queue.proofs.asks.same_tags.Given as goal

-- those before are the same
abbrev pub invariant-loop-i : goal.invariant-loop-i
invariant-loop-i l = take l.i l.a ≡ take l.i l.b
