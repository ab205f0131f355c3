use Rattle.std.proofs.Common.{◌≡◌, ◌++◌, drop, flat_map, string_bytes}
use Rattle.ci_plan.specs.TableText.{later_line}
use Rattle.ci_plan.proofs.table.put_later.Given as goal

abbrev pub invariant-loop-one : goal.invariant-loop-one
invariant-loop-one l = string_bytes l.text ++ flat_map later_line (drop l.one-index l.needs) ≡ string_bytes l.fn.text ++ flat_map later_line l.needs
