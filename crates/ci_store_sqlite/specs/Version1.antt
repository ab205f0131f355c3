-- What it means that a store of version 1 stands for what is kept, and that one of either version does.
use Rattle.std.specs.Prelude.{◌≡◌, ◌⊎◌, ℕ, List, [], ◌∷◌, drop, codes}
use Rattle.ci_store.specs.Prelude.{Row, Schema, Trees, Database, Ghosts, Held, state, without_table, Kept, Numbers, HoldsRows, IsOf}
use Rattle.ci_store_rows.specs.Prelude.{the_schema, meta, mode, meta_row, meta_rows, rows_by_tree, rows_at, IsRegular, StandsIn}

-- the tables and indexes of version 1: all but the table `mode` with its index
abbrev pub schema_of_1 : Schema
schema_of_1 = without_table the_schema mode.tree

-- the format, the version 1 and the next numbers
abbrev pub meta_rows_of_1 : Numbers → List Row
meta_rows_of_1 next = meta_row (codes "format") 1128878163 ∷ meta_row (codes "version") 1 ∷ drop 2 (meta_rows next)

-- the rows of the table that has this tree: those of version 2, but for `meta`
abbrev pub rows_of_1 : Kept → ℕ → List Row
rows_of_1 k tree = rows_at tree ((meta.tree, meta_rows_of_1 k.state.next) ∷ drop 1 (rows_by_tree k))

-- the trees of a file of version 1 stand for what is kept, in which no resource group has an order
pub record StandsIn1 (k : Kept) (db : Trees) : Type 0 where
  pub tables : HoldsRows schema_of_1 (rows_of_1 k) db
  pub regular : IsRegular k
  pub unordered : k.state.modes ≡ []

-- a database of the schema of version 1 alone stands for what is kept
pub record Stands1 (k : Kept) (db : Database) : Type 0 where
  pub listed : db.schema ≡ schema_of_1
  pub inside : StandsIn1 k db.trees

-- between the two statements of a migration: there is the table `mode`, without rows, and the version is 1 still
pub record HasTable (k : Kept) (db : Database) : Type 0 where
  pub tables : IsOf the_schema (rows_of_1 k) db
  pub regular : IsRegular k

-- the trees of a file, of version 1 or of version 2, stand for what is kept
abbrev pub StandsInAny : Kept → Trees → Type 0
StandsInAny k db = StandsIn k db ⊎ StandsIn1 k db

-- each file that a stop may leave stands for this, as one of version 1 or 2
abbrev pub LeavesAny : {S : Type 0} → Ghosts S → Kept → Held S → Type 0
LeavesAny g k h = (db : Trees) → (state g h).may_leave db → StandsInAny k db
