-- What it means that the trees of a database stand for lists of records.
use Rattle.std.specs.Prelude.{◌≡◌, ℕ, Bool, true, false, not, ◌&&◌, ◌==◌, List, [], ◌∷◌, map, filter, length, IsPermutation}
use Rattle.std.specs.List.{AllByRecursion, list_all, range_with_len}
use Rattle.sqlite.specs.Collation.TheVariants.{Binary}
use Rattle.sqlite.specs.Order.{Row, column}
use Rattle.sqlite.specs.Table.{Table}
use Rattle.sqlite.specs.Schema.{Schema}
use Rattle.sqlite.specs.Tree.{Trees}
use Rattle.sqlite.specs.Effect.{Database}
use Rattle.sqlite_catalog.specs.Listing.{IsSound}
use Rattle.sqlite_schema.specs.Names.{place_of}
use Rattle.sqlite_schema.specs.Rules.{equal}
use Rattle.sqlite_trees.specs.View.{IsShaped}
use Rattle.sqlite_trees.specs.declared.store.Shape.TheVariants as shape

-- the values of a row's columns, in the order of the table's columns
abbrev pub places : Table → List ℕ
places table = map (place_of table) (range_with_len 0 (length table.columns))

abbrev pub image : List ℕ → Row → Row
image at row = map (column row) at

-- the first columns have these values
abbrev pub has_key : Row → Row → Bool
has_key [] values = true
has_key (k ∷ key) [] = false
has_key (k ∷ key) (v ∷ values) = equal Binary v k && has_key key values

abbrev pub without : Row → List Row → List Row
without key records = filter (λ r. not (has_key key r)) records

-- the table has these records, each once, in some order
pub record Holds (table : Table) (records : List Row) (db : Trees) : Type 0 where
  pub shaped : IsShaped shape.Table (db table.tree)
  pub same : IsPermutation (map (image (places table)) (db table.tree)) records

-- each table of the schema has the records of its tree
abbrev pub HoldsAll : Schema → (ℕ → List Row) → Trees → Type 0
HoldsAll schema records db = AllByRecursion (λ t. Holds t (records t.tree) db) schema.tables

-- the trees obey the schema, and each table has its records
pub record HoldsRows (schema : Schema) (records : ℕ → List Row) (db : Trees) : Type 0 where
  pub sound : IsSound schema db
  pub holds : HoldsAll schema records db

-- a database of this schema whose tables have these records
pub record IsOf (schema : Schema) (records : ℕ → List Row) (db : Database) : Type 0 where
  pub listed : db.schema ≡ schema
  pub inside : HoldsRows schema records db.trees

-- no two tables have one tree
abbrev pub are_apart : List Table → Bool
are_apart [] = true
are_apart (t ∷ more) = list_all (λ other. not (other.tree == t.tree)) more && are_apart more
