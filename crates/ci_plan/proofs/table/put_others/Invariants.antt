use Rattle.std.proofs.Common.{◌≡◌, ◌++◌, drop, flat_map, string_bytes}
use Rattle.ci_plan.specs.TableText.{after_comma}
use Rattle.ci_plan.proofs.table.put_others.Given as goal

abbrev pub invariant-loop-name : goal.invariant-loop-name
invariant-loop-name l = string_bytes l.text ++ flat_map after_comma (drop l.name-index l.names) ≡ string_bytes l.fn.text ++ flat_map after_comma l.names
