use Rattle.std.proofs.Common.{◌≡◌, take}
use Rattle.std.specs.List.{flat_map}
use Rattle.ci_store.specs.Prelude.{column}
use Rattle.ci_store_rows.specs.Prelude.{bytes_in}
use Rattle.ci_store_rows.proofs.block.joined.Given as goal

abbrev pub invariant-loop-row : goal.invariant-loop-row
invariant-loop-row l = l.all.items ≡ flat_map (λ row. bytes_in (column row 2)) (take l.row-index l.rows)
