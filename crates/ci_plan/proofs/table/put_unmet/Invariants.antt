use Rattle.std.proofs.Common.{◌≡◌, ◌++◌, drop, flat_map, string_bytes}
use Rattle.ci_plan.specs.TableText.{unmet_line}
use Rattle.ci_plan.proofs.table.put_unmet.Given as goal

abbrev pub invariant-loop-one : goal.invariant-loop-one
invariant-loop-one l = string_bytes l.text ++ flat_map unmet_line (drop l.one-index l.needs) ≡ string_bytes l.fn.text ++ flat_map unmet_line l.needs
