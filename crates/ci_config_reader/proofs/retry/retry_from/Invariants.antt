use Rattle.std.proofs.Common.{◌≡◌, drop}
use Rattle.ci_config.specs.Prelude.{entries, retry_entry, blank_retry, pairs_view}
use Rattle.ci_config_reader.specs.Parts.{retry_parts_view}
use Rattle.ci_config_reader.proofs.retry.retry_from.Given as goal

abbrev pub invariant-loop-before : goal.invariant-loop-before
invariant-loop-before l = entries (λ before. retry_entry) l.before (retry_parts_view l.parts) (pairs_view (drop l.before l.pairs)) ≡ entries (λ before. retry_entry) 0 blank_retry (pairs_view l.pairs)
