use Rattle.std.proofs.Common.{◌≡◌, [], drop}
use Rattle.ci_config.specs.Prelude.{each, variable_in, pairs_view, variables_view}
use Rattle.ci_config_reader.proofs.value.variables_of.Given as goal

abbrev pub invariant-loop-pair : goal.invariant-loop-pair
invariant-loop-pair l = each variable_in (variables_view l.variables) (pairs_view (drop l.pair-index l.pairs)) ≡ each variable_in [] (pairs_view l.pairs)
