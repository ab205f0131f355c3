use Rattle.std.proofs.Common.{◌≡◌, ◌+◌, drop}
use Rattle.ci_config.specs.Prelude.{index_of, pairs_view}
use Rattle.ci_config_reader.proofs.file.index_of.Given as goal

abbrev pub invariant-loop-before : goal.invariant-loop-before
invariant-loop-before l = index_of (pairs_view l.pairs) l.fn.key ≡ l.before + index_of (pairs_view (drop l.before l.pairs)) l.fn.key
