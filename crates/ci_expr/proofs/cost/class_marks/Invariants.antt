use Rattle.std.proofs.Common.{◌≡◌, ◌+◌, ◌≤◌, drop}
use Rattle.ci_expr.specs.Prelude.{class_marks}
use Rattle.ci_expr.proofs.cost.class_marks.Given as goal

abbrev pub invariant-loop-byte : goal.invariant-loop-byte
invariant-loop-byte l = record {
  few : l.count ≤ l.byte-index;
  same : l.count + class_marks (drop l.byte-index l.bytes) ≡ class_marks l.bytes;
}
