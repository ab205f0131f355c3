-- What one commit writes.
use Rattle.std.specs.Prelude.{ℕ, List}
use Rattle.ci_machine.specs.declared.change.RowChange.{RowChange}
use Rattle.ci_machine.specs.declared.change.IndexChange.{IndexChange}
use Rattle.ci_machine.specs.declared.records.BoardRow.{BoardRow}

-- the first of each list is written first
pub record Writing : Type 0 where
  pub changes : List RowChange  -- of records
  pub rows : List BoardRow  -- rows of statuses that are put
  pub indexes : List IndexChange  -- of the groups that are held and the pipelines that aren't finished
  pub cleared : List ℕ  -- jobs whose rows of statuses go before all else is written
