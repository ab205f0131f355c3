use Rattle.std.proofs.Common.{◌≡◌, drop}
use Rattle.ci_config.specs.Prelude.{entries, need_entry, blank_need, pairs_view}
use Rattle.ci_config_reader.specs.Parts.{need_parts_view}
use Rattle.ci_config_reader.proofs.need.need_from.Given as goal

abbrev pub invariant-loop-before : goal.invariant-loop-before
invariant-loop-before l = entries (λ before. need_entry) l.before (need_parts_view l.parts) (pairs_view (drop l.before l.pairs)) ≡ entries (λ before. need_entry) 0 blank_need (pairs_view l.pairs)
