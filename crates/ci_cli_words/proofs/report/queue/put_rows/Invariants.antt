use Rattle.std.proofs.Common.{◌≡◌, ◌++◌, drop, flat_map, string_bytes}
use Rattle.ci_cli_words.specs.ReportText.{queue_line}
use Rattle.ci_cli_words.proofs.report.queue.put_rows.Given as goal

abbrev pub invariant-loop-row : goal.invariant-loop-row
invariant-loop-row l = string_bytes l.text ++ flat_map queue_line (drop l.row-index l.rows) ≡ string_bytes l.fn.text ++ flat_map queue_line l.rows
