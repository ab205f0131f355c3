use Rattle.std.proofs.Common.{◌≡◌, [], drop}
use Rattle.ci_config.specs.Prelude.{each, exit_code_in, values_view, codes_view}
use Rattle.ci_config_reader.proofs.allow_failure.exit_codes_of.Given as goal

abbrev pub invariant-loop-value : goal.invariant-loop-value
invariant-loop-value l = each exit_code_in (codes_view l.codes) (values_view (drop l.value-index l.values)) ≡ each exit_code_in [] (values_view l.values)
