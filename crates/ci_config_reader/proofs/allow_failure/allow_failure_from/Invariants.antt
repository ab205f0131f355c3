use Rattle.std.proofs.Common.{◌≡◌, None, drop, option_map}
use Rattle.ci_config.specs.Prelude.{entries, allow_failure_entry, pairs_view, codes_view}
use Rattle.ci_config_reader.proofs.allow_failure.allow_failure_from.Given as goal

abbrev pub invariant-loop-before : goal.invariant-loop-before
invariant-loop-before l = entries (λ before. allow_failure_entry) l.before (option_map codes_view l.codes) (pairs_view (drop l.before l.pairs)) ≡ entries (λ before. allow_failure_entry) 0 None (pairs_view l.pairs)
