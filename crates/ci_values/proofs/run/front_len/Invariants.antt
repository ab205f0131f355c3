use Rattle.std.proofs.Common.{◌≡◌, ◌+◌, drop}
use Rattle.std.specs.List.{prefix_len}
use Rattle.ci_values.specs.Run.{is_of}
use Rattle.ci_values.proofs.run.front_len.Given as goal

abbrev pub invariant-loop-i : goal.invariant-loop-i
invariant-loop-i l = prefix_len (is_of l.class) l.bytes ≡ l.i + prefix_len (is_of l.class) (drop l.i l.bytes)
