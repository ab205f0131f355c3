use Rattle.std.proofs.Common.{◌≡◌, [], drop}
use Rattle.ci_config.specs.Prelude.{each, stage_in, values_view, texts_view}
use Rattle.ci_config_reader.proofs.file.stages_of.Given as goal

abbrev pub invariant-loop-value : goal.invariant-loop-value
invariant-loop-value l = each stage_in (texts_view l.stages) (values_view (drop l.value-index l.values)) ≡ each stage_in [] (values_view l.values)
