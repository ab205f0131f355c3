use Rattle.std.proofs.Common.{◌≡◌, [], drop}
use Rattle.ci_config.specs.Prelude.{each, name_in, values_view, texts_view}
use Rattle.ci_config_reader.proofs.value.names_of.Given as goal

abbrev pub invariant-loop-value : goal.invariant-loop-value
invariant-loop-value l = each (name_in l.limit) (texts_view l.names) (values_view (drop l.value-index l.values)) ≡ each (name_in l.limit) [] (values_view l.values)
