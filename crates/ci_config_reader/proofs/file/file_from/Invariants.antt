use Rattle.std.proofs.Common.{drop}
use Rattle.ci_config.specs.Prelude.{file_entry, file_from, pairs_view}
use Rattle.ci_config_reader.specs.Parts.{file_parts_view}
use Rattle.ci_config_reader.proofs.Telling.{Leads, entries_by}
use Rattle.ci_config_reader.proofs.file.file_from.Given as goal

abbrev pub invariant-loop-before : goal.invariant-loop-before
invariant-loop-before l = Leads l.before (entries_by file_entry l.before (file_parts_view l.parts) (pairs_view (drop l.before l.pairs))) (file_from (pairs_view l.pairs))
