use Rattle.std.proofs.Common.{◌≡◌, drop}
use Rattle.ci_config.specs.Prelude.{entries, no_causes, cause_in, values_view}
use Rattle.ci_config_reader.proofs.retry.causes_of.Given as goal

abbrev pub invariant-loop-before : goal.invariant-loop-before
invariant-loop-before l = entries (λ before. cause_in) l.before l.set (values_view (drop l.before l.values)) ≡ entries (λ before. cause_in) 0 no_causes (values_view l.values)
