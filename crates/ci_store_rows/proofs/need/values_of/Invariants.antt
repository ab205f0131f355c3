use Rattle.std.proofs.Common.{◌≡◌, take}
use Rattle.std.specs.List.{flat_map}
use Rattle.ci_store.specs.Prelude.{bound}
use Rattle.ci_store_rows.specs.Rows.{need_row}
use Rattle.ci_store_rows.proofs.need.values_of.Given as goal

abbrev pub invariant-loop-need : goal.invariant-loop-need
invariant-loop-need l = bound l.values.items ≡ flat_map need_row (take l.need-index l.needs)
