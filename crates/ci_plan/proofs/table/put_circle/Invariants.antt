use Rattle.std.proofs.Common.{◌≡◌, ◌++◌, drop, string_bytes}
use Rattle.ci_plan.specs.TableText.{turn_lines}
use Rattle.ci_plan.proofs.table.put_circle.Given as goal

abbrev pub invariant-loop-next : goal.invariant-loop-next
invariant-loop-next l = string_bytes l.text ++ turn_lines l.one (drop l.next-index l.others) l.first ≡ string_bytes l.fn.text ++ turn_lines l.first l.others l.first
