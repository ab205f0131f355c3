use Rattle.std.proofs.Common.{◌≡◌, drop}
use Rattle.ci_config.specs.Prelude.{words_view, is_among}
use Rattle.ci_config_reader.proofs.file.is_among.Given as goal

abbrev pub invariant-loop-other : goal.invariant-loop-other
invariant-loop-other l = is_among (words_view (drop l.other-index l.names)) l.fn.name ≡ is_among (words_view l.names) l.fn.name
