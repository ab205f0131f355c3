-- One list of what is kept changes, and the others stay.
use Rattle.ci_store.specs.Prelude.{Row, Table, Kept, trace_cmp, Trace, Unfinished, Database}
use Rattle.ci_store_rows.specs.Prelude.{the_schema, rows_at, Rises, IsRegular, Stands}
use Rattle.ci_store_rows.proofs.Words.{rules, ◌≡◌, ◌≢◌, ◌==◌, ℕ, List, [], ◌∷◌, ◌++◌, if◌then◌else◌, ap, ne_eqb, AllByRecursion, all_from}

-- ---- the rows of the other tables

elsewhere : (before after : List (ℕ × List Row)) (tree : ℕ) (rows others : List Row) (u : ℕ) → u ≢ tree → rows_at u (before ++ (tree, others) ∷ after) ≡ rows_at u (before ++ (tree, rows) ∷ after)
elsewhere [] after tree rows others u apart = rw (ne_eqb u tree apart)
elsewhere (b ∷ before) after tree rows others u apart = ap (λ l. if u == b.0 then b.1 else l) (elsewhere before after tree rows others u apart)

-- the other tables have the rows that they had
abbrev pub IsAlike : (ℕ → List Row) → (ℕ → List Row) → Table → Type 0
IsAlike f g table = AllByRecursion (λ u. u.tree ≢ table.tree → g u.tree ≡ f u.tree) the_schema.tables

-- where the lists of rows differ in that of one tree alone
pub alike_but : (before after : List (ℕ × List Row)) (table : Table) (rows others : List Row) → IsAlike (λ u. rows_at u (before ++ (table.tree, rows) ∷ after)) (λ u. rows_at u (before ++ (table.tree, others) ∷ after)) table
alike_but before after table rows others = all_from (λ u. u.tree ≢ table.tree → rows_at u.tree (before ++ (table.tree, others) ∷ after) ≡ rows_at u.tree (before ++ (table.tree, rows) ∷ after)) the_schema.tables (λ u _ apart. elsewhere before after table.tree rows others u.tree apart)

-- ---- what is regular still

pub regular_with_traces : (k : Kept) (xs : List Trace) → Rises trace_cmp xs → IsRegular k → IsRegular (record k { state = record k.state { traces = xs } })
regular_with_traces k xs up o = search rules

-- the tables stand for what is kept whatever it says of the pipelines that aren't finished
pub stands_with_unfinished : (k : Kept) (xs : List Unfinished) (db : Database) → Stands k db → Stands (record k { unfinished = xs }) db
stands_with_unfinished k xs db stands =
    let o = stands.inside.regular in
    record { listed = stands.listed; inside = record { tables = stands.inside.tables; regular = search rules } }
