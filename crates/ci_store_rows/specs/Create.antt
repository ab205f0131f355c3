-- A database before the tables are made, and before they have rows.
use Rattle.std.specs.Prelude.{◌≡◌, ◌≢◌, []}
use Rattle.std.specs.List.{AllByRecursion}
use Rattle.ci_store.specs.Prelude.{Schema, Database, IsDatabase, Ghosts, Held, state}

abbrev pub no_schema : Schema
no_schema = record { tables = []; indexes = []; views = [] }

-- the store has no table, no index and no view, as a new one
abbrev pub IsBlank : {S : Type 0} → Ghosts S → Held S → Type 0
IsBlank g h = (state g h).now.schema ≡ no_schema

-- a database of this schema, whose tables have no rows
pub record IsBare (schema : Schema) (db : Database) : Type 0 where
  pub listed : db.schema ≡ schema
  pub rows : AllByRecursion (λ t. db.trees t.tree ≡ []) schema.tables
  pub sound : schema.tables ≢ [] → IsDatabase db
