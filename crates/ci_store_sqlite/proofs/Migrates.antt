-- What the two statements make of a store of version 1.
use Rattle.std.proofs.Common.{◌≡◌, ◌∙◌, ℕ, List, [], ◌∷◌, ◌++◌, codes, map, drop, None, Ok, true, false, IsTrue, sym, ap, subst, IsPermutation}
use Rattle.std.specs.List.{AllByRecursion}
use Rattle.std.proofs.lemmas.List.Sorted.{IsPermutation-sym, IsPermutation-refl, IsPermutation-middle}
use Rattle.ci_store.specs.Prelude.{Text, value_cmp, Row, Table, Schema, Trees, Database, Tally, lacks_sequence, Shows, Executes, Ghosts, Held, state, CreateTable, created}
use Rattle.ci_store.specs.Prelude.{next_tree, KeepsRows, IsSound, IsShaped, Kept, Numbers, image, places, without, Holds, IsOf}
use Rattle.sqlite_sql.specs.Ops.{binary}
use Rattle.sqlite.specs.State.{State, Writes}
use Rattle.sqlite.proofs.Callers.{runs_as}
use Rattle.sqlite_trees.specs.declared.store.Shape.TheVariants as shape
use Rattle.ci_store.proofs.Puts.{updates_one}
use Rattle.ci_store_sqlite.specs.Prelude.{UPDATE_META, INSERT_META, CREATE_MODE, the_schema, meta, mode, mode_row, meta_row, meta_rows, rows_by_tree, rows_of, Stands, StandsIn}
use Rattle.ci_store_sqlite.specs.Prelude.{IsAt, schema_of_1, meta_rows_of_1, rows_of_1, Stands1, HasTable}
use Rattle.ci_store_rows.proofs.OneList.{alike_but}
use Rattle.ci_store_rows.proofs.Records.{is}
use Rattle.ci_store_rows.proofs.Meta.{sets, terms, means, gives}
use Rattle.ci_store_rows.proofs.Creates.{went, same_value, MeansTable, makes_mode}

-- ---- CREATE TABLE over tables that have rows

holds_kept : (tables : List Table) (records : ℕ → List Row) (old new : Trees) → AllByRecursion (λ t. Holds t (records t.tree) old) tables → KeepsRows tables old new → AllByRecursion (λ t. Holds t (records t.tree) new) tables
holds_kept [] records old new holds kept = tt
holds_kept (t ∷ tables) records old new holds kept = (
  record {
    shaped = subst (IsShaped shape.Table) (sym kept.0) holds.0.shaped;
    same = subst (λ rows. IsPermutation (map (image (places t)) rows) (records t.tree)) (sym kept.0) holds.0.same;
  },
  holds_kept tables records old new holds.1 kept.1,
)

holds_none : (table : Table) (records : List Row) (db : Trees) → db table.tree ≡ [] → records ≡ [] → Holds table records db
holds_none table records db none empty = record {
  shaped = subst (IsShaped shape.Table) (sym none) (tt, tt);
  same = subst (λ rows. IsPermutation (map (image (places table)) rows) records) (sym none) (subst (IsPermutation []) (sym empty) (IsPermutation-refl []));
}

one_more : (P : Table → Type 0) (tables : List Table) (table : Table) → AllByRecursion P tables → P table → AllByRecursion P (tables ++ table ∷ [])
one_more P [] table all own = (own, tt)
one_more P (t ∷ tables) table all own = (all.0, one_more P tables table all.1 own)

creates_among : (before after : Schema) (text : List ℕ) (table : Table) → MeansTable before after text table → (records : ℕ → List Row) → records (next_tree before) ≡ [] → (old new : State) (count : ℕ) → IsOf before records old.now
    → Executes text [] old new (Ok count) → IsOf after records new.now
creates_among before after text table means records none old new count it h =
    let w = subst (λ t. Writes old new None CreateTable t [] count) means.whole (runs_as text [] old new before it.listed CreateTable means.command means.plain count h) in
    let all = went w.changed in
    let first = went all.1 in
    let made = first.1 in
    let both : Ok made.table ≡ Ok table = sym made.defined ∙ means.defined in
    let same : made.table ≡ table = cc in
    let schema : first.0.schema ≡ after = made.is ∙ ap (λ s. created s made.table) it.listed ∙ ap (created before) same ∙ means.is in
    let plain : lacks_sequence first.0.schema ≡ false = ap lacks_sequence schema ∙ means.uncounted in
    let now : new.now ≡ first.0 = ap (λ (p : Tally × Database). p.1) (same_value all.2) ∙ same_value (rw plain at first.2) in
    let empty : first.0.trees (next_tree before) ≡ [] = subst (λ s. first.0.trees (next_tree s) ≡ []) it.listed made.empty in
    let kept : KeepsRows before.tables old.now.trees first.0.trees = subst (λ (s : Schema). KeepsRows s.tables old.now.trees first.0.trees) it.listed made.others in
    let listed : new.now.schema ≡ after = ap (λ (d : Database). d.schema) now ∙ schema in
    let more = one_more (λ t. Holds t (records t.tree) first.0.trees) before.tables (record table { tree = next_tree before }) (holds_kept before.tables records old.now.trees first.0.trees it.inside.holds kept)
    (holds_none (record table { tree = next_tree before }) (records (next_tree before)) first.0.trees empty none) in
    record {
      listed = listed;
      inside = record {
        sound = subst (λ s. IsSound s new.now.trees) listed w.sound;
        holds = subst (λ (s : Schema). AllByRecursion (λ t. Holds t (records t.tree) new.now.trees) s.tables) means.is (subst (λ (d : Database). AllByRecursion (λ t. Holds t (records t.tree) d.trees) (created before table).tables) (sym now) more);
      };
    }

-- the table of process modes is made, and has no row
pub makes_table : (k : Kept) (old new : State) (count : ℕ) → Stands1 k old.now → Executes CREATE_MODE.now [] old new (Ok count) → HasTable k new.now
makes_table k old new count stands h = record {
  tables = creates_among schema_of_1 the_schema CREATE_MODE.now (record mode { tree = 0 }) makes_mode (rows_of_1 k) (ap (map mode_row) stands.inside.unordered) old new count (record { listed = stands.listed; inside = stands.inside.tables }) h;
  regular = stands.inside.regular;
}

-- ---- the version

moved : (next : Numbers) → IsPermutation (meta_row (codes "version") 2 ∷ without (Text (codes "version") ∷ []) (meta_rows_of_1 next)) (meta_rows next)
unfolding binary value_cmp lib.Ieee.is_nan lib.Ieee.lt
moved next = IsPermutation-sym _ _ (IsPermutation-middle (meta_row (codes "format") 1128878163 ∷ []) _ _)

-- the version is written: the tables are those of version 2
pub writes_version : (k : Kept) (old new : State) → HasTable k old.now → Executes UPDATE_META.now (meta_row (codes "version") 2) old new (Ok 1) → Stands k new.now
writes_version k old new has h =
    let whole = updates_one the_schema 0 meta UPDATE_META.now INSERT_META.now (is 1 0 ∷ []) sets terms means (Text (codes "version") ∷ []) (meta_row (codes "version") 2) (gives (codes "version") 2) (rows_of_1 k) (rows_of k)
    (alike_but [] (drop 1 (rows_by_tree k)) meta (meta_rows_of_1 k.state.next) (meta_rows k.state.next)) (moved k.state.next) old new has.tables h in
    record { listed = whole.listed; inside = record { tables = whole.inside; regular = has.regular } }

-- ---- the transaction, from its begin to its end

module _ {S : Type 0} (g : Ghosts S) (old begun between made : Held S) (begins : begun ≡ record old { in_transaction = true })
    (one : (k : Kept) → Stands1 k (state g begun).now → HasTable k (state g between).now) (two : (k : Kept) → HasTable k (state g between).now → Stands k (state g made).now) where
  both : (k : Kept) → Stands1 k (state g old).now → Stands k (state g made).now
  both k stands = two k (one k (subst (λ h. Stands1 k (state g h).now) (sym begins) stands))

  -- what is committed stands for what was kept
  pub commits_both : (db : Trees) → db ≡ (state g made).now.trees → (k : Kept) → Stands1 k (state g old).now → StandsIn k db
  commits_both db is k stands = subst (λ t. StandsIn k t) (sym is) (both k stands).inside

  -- it is committed
  pub is_at_both : (ended new : Held S) → new ≡ ended → Shows (state g made) (state g ended) (state g made).now (state g made).now false
      → ((db : Trees) → IsTrue (state g ended).is_open → (state g ended).may_leave db → db ≡ (state g ended).committed.trees)
      → IsTrue (state g new).is_open × ((k : Kept) → Stands1 k (state g old).now → IsAt g k new)
  is_at_both ended new same shows only =
      subst (λ h. IsTrue (state g h).is_open × ((k : Kept) → Stands1 k (state g old).now → IsAt g k h)) (sym same) (
        shows.is_open,
        λ k stands.
            let stood = both k stands in
            record {
              is_open = shows.is_open;
              now = subst (Stands k) (sym shows.now_is) stood;
              left = λ db may. subst (StandsIn k) (sym (only db shows.is_open may ∙ ap (λ (d : Database). d.trees) shows.committed_is)) stood.inside;
            },
      )
