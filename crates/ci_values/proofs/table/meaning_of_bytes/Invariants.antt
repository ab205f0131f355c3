use Rattle.std.proofs.Common.{◌≡◌, drop}
use Rattle.ci_values.specs.Table.{meaning_of, table_view}
use Rattle.ci_values.proofs.table.meaning_of_bytes.Given as goal

abbrev pub invariant-loop-entry : goal.invariant-loop-entry
invariant-loop-entry g l = meaning_of (table_view (drop l.entry-index l.table)) l.fn.word ≡ meaning_of (table_view l.table) l.fn.word
