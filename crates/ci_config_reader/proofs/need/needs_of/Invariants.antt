use Rattle.std.proofs.Common.{◌≡◌, [], drop}
use Rattle.ci_config.specs.Prelude.{each, need_of, values_view, needs_view}
use Rattle.ci_config_reader.proofs.need.needs_of.Given as goal

abbrev pub invariant-loop-value : goal.invariant-loop-value
invariant-loop-value l = each need_of (needs_view l.needs) (values_view (drop l.value-index l.values)) ≡ each need_of [] (values_view l.values)
