use Rattle.std.proofs.Common.{◌≡◌, ◌++◌, drop, flat_map, string_bytes}
use Rattle.ci_explain.specs.Report.{printed_text}
use Rattle.ci_explain.proofs.report.put_lines.Given as goal

abbrev pub invariant-loop-fault : goal.invariant-loop-fault
invariant-loop-fault l = string_bytes l.text ++ flat_map (printed_text l.word) (drop l.fault-index l.found) ≡ string_bytes l.fn.text ++ flat_map (printed_text l.word) l.found
