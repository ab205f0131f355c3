-- A connection that is open, outside a transaction, shows what alone a stop leaves.
use Rattle.ci_store.proofs.OneSchema.{one_schema}
use Rattle.ci_store.specs.Prelude.{Table, Schema, Trees, Database, IsDatabase, IsSound, Has, Kept}
use Rattle.ci_store_rows.specs.Prelude.{the_schema, StandsIn, Stands}
use Rattle.ci_store_rows.proofs.Words.{◌≡◌, ◌≤◌, refl, length, nat_le, leb-true, test_has}

few_uniques : (t : Table) → Has the_schema.tables t → length t.uniques ≤ 1
few_uniques t h = leb-true _ _ (test_has (λ (t : Table). nat_le (length t.uniques) 1) the_schema.tables t refl h)

-- trees that stand for a state list this schema alone
pub the_one_schema : (other : Schema) (db : Trees) → IsSound the_schema db → IsSound other db → other ≡ the_schema
the_one_schema other db = one_schema the_schema.tables the_schema.indexes other db few_uniques

-- a database whose trees stand for a state stands for it
pub stands_whole : (k : Kept) (db : Database) → IsDatabase db → StandsIn k db.trees → Stands k db
stands_whole k db sound inside = record { listed = the_one_schema db.schema db.trees inside.tables.sound sound; inside = inside }
