-- The first rows of `meta`.
use Rattle.ci_store.specs.Prelude.{Text, value_cmp, Row, Table, Trees, Database, Executes, IsSound, IsShaped, nothing_kept, first_numbers, image, places, without, Holds, IsOf}
use Rattle.ci_store_rows.specs.Prelude.{UPDATE_META, INSERT_META, the_schema, meta, meta_row, meta_rows, Stands, IsBare}
use Rattle.sqlite.specs.State.{State as Store}
use Rattle.sqlite_sql.specs.Ops.{binary}
use Rattle.std.proofs.lemmas.List.{append-nil}
use Rattle.std.proofs.lemmas.List.Sorted.{IsPermutation-refl, IsPermutation-middle, IsPermutation-sym}
use Rattle.sqlite_trees.specs.declared.store.Shape.TheVariants as shape
use Rattle.ci_store_rows.proofs.Words.{◌≡◌, ℕ, zero, suc, ◌+◌, ◌<◌, ◌==◌, if◌then◌else◌, take, List, [], ◌∷◌, ◌++◌, codes, map, Ok, sym, subst, arith, slice_index_or}
use Rattle.ci_store_rows.proofs.Words.{IsPermutation, inserts_one, all_weaker}
use Rattle.ci_store_rows.proofs.OneList.{alike_but}
use Rattle.ci_store_rows.proofs.Records.{is}
use Rattle.ci_store_rows.proofs.Meta.{sets, terms, means, gives}

abbrev first_rows : List Row
first_rows = meta_rows first_numbers

-- the rows of each table after so many of the first rows
abbrev pub rows_after : ℕ → ℕ → List Row
rows_after k tree = if tree == meta.tree then take k first_rows else []

empty : (t : Table) (db : Trees) → db t.tree ≡ [] → Holds t [] db
empty t db none = record { shaped = subst (IsShaped shape.Table) (sym none) (tt, tt); same = subst (λ rows. IsPermutation (map (image (places t)) rows) []) (sym none) (IsPermutation-refl []) }

pub begins : (db : Database) → IsBare the_schema db → IsOf the_schema (rows_after 0) db
begins db bare = record {
  listed = bare.listed;
  inside = record { sound = subst (λ s. IsSound s db.trees) bare.listed (bare.sound (λ e. cc)); holds = all_weaker _ (λ t. Holds t [] db.trees) (λ t none. empty t db.trees none) the_schema.tables bare.rows };
}

pub ends : (db : Database) → IsOf the_schema (rows_after 7) db → Stands nothing_kept db
ends db it = record {
  listed = it.listed;
  inside = record { tables = record { sound = it.inside.sound; holds = it.inside.holds }; regular = record { projects = tt; variables = tt; runners = tt; pipelines = tt; jobs = tt; job_variables = tt; needs = tt; attempts = tt; traces = tt; modes = tt; board = tt; holders = tt; tags = tt; specs = tt } };
}

-- a row that is new is put after those that are there
adds : (rows : List Row) (row : Row) → IsPermutation (row ∷ rows) (rows ++ row ∷ [])
adds rows row = subst (λ l. IsPermutation (row ∷ l) (rows ++ row ∷ [])) (append-nil rows) (IsPermutation-sym _ _ (IsPermutation-middle rows row []))

abbrev pub key_at : ℕ → List ℕ
key_at k = slice_index_or (codes "format" ∷ codes "version" ∷ codes "next_project" ∷ codes "next_runner" ∷ codes "next_pipeline" ∷ codes "next_job" ∷ codes "next_attempt" ∷ []) k []

abbrev pub number_at : ℕ → ℕ
number_at k = slice_index_or (1128878163 ∷ 2 ∷ 1 ∷ 1 ∷ 1 ∷ 1 ∷ 1 ∷ []) k 0

-- no row has the key before it is put
grown : (k : ℕ) → k < 7 → IsPermutation (meta_row (key_at k) (number_at k) ∷ without (Text (key_at k) ∷ []) (rows_after k meta.tree)) (rows_after (k + 1) meta.tree)
unfolding binary value_cmp lib.Ieee.is_nan lib.Ieee.lt
grown zero low = adds (take 0 first_rows) _
grown (suc zero) low = adds (take 1 first_rows) _
grown (suc (suc zero)) low = adds (take 2 first_rows) _
grown (suc (suc (suc zero))) low = adds (take 3 first_rows) _
grown (suc (suc (suc (suc zero)))) low = adds (take 4 first_rows) _
grown (suc (suc (suc (suc (suc zero))))) low = adds (take 5 first_rows) _
grown (suc (suc (suc (suc (suc (suc zero)))))) low = adds (take 6 first_rows) _
grown (suc (suc (suc (suc (suc (suc (suc k))))))) low = absurd (omega (arith, low))

pub fills_next : (k : ℕ) → k < 7 → (key : List ℕ) (num : ℕ) → (key ≡ key_at k) × (num ≡ number_at k) → (old new : Store) (count : ℕ) → IsOf the_schema (rows_after k) old.now → Executes INSERT_META.now (meta_row key num) old new (Ok count)
    → IsOf the_schema (rows_after (k + 1)) new.now
fills_next k low key num same old new count it h =
    inserts_one the_schema 0 meta UPDATE_META.now INSERT_META.now (is 1 0 ∷ []) sets terms means (Text (key_at k) ∷ []) (meta_row (key_at k) (number_at k)) (gives (key_at k) (number_at k)) (rows_after k) (rows_after (k + 1))
    (alike_but [] [] meta (take k first_rows) (take (k + 1) first_rows)) (grown k low) old new count it
    (subst (λ row. Executes INSERT_META.now row old new (Ok count)) (λ i. meta_row (same.0 i) (same.1 i)) h)
