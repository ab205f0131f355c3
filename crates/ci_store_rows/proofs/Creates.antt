-- Each CREATE adds its table or its index to the schema.
use Rattle.ci_store.specs.Prelude.{Table, Schema, Trees, Database, index_defined_by, Index, created, next_tree, KeepsRows, Tally, AtPlace, Defines, MakesIndex, lacks_sequence}
use Rattle.ci_store.specs.Prelude.{mode_of, Executes, understood, everything, CreateTable, CreateIndex}
use Rattle.ci_store_rows.specs.Prelude.{SCHEMA, CREATE_MODE, the_schema, IsBare}
use Rattle.sqlite.specs.State.{State, Writes}
use Rattle.sqlite_catalog.specs.Change.{indexed}
use Rattle.sqlite_tied.specs.Text.{table_defined_by}
use Rattle.ci_store_rows.specs.Schema as table
use Rattle.ci_store_rows.proofs.Words.{◌≡◌, ◌⊎◌, inl, inr, ℕ, zero, suc, map, ◌+◌, ◌<◌, List, [], ◌∷◌, false, Some, None, Ok, Err, Result, refl, sym, ap, subst, ◌∙◌, arith}
use Rattle.ci_store_rows.proofs.Words.{slice_get, slice_index_or, take, AllByRecursion, IsPlain, command_of, statement_of, runs_as, all-append, all_both}

-- a part that gave a value did not stop on the way
pub went : {B E R : Type 0} {b : B} {Stops : E → Type 0} → ((stop : E) × Stops stop × (Ok b ≡ Err stop)) ⊎ R → R
went (inl stopped) = absurd (let e = stopped.2 in cc)
went (inr on) = on

pub same_value : {B E : Type 0} {a b : B} → ◌≡◌ {A = Result B E} (Ok a) (Ok b) → a ≡ b
same_value e = cc

kept_bare : (tables : List Table) (old new : Trees) → AllByRecursion (λ t. old t.tree ≡ []) tables → KeepsRows tables old new → AllByRecursion (λ t. new t.tree ≡ []) tables
kept_bare tables old new = all_both (λ (t : Table). old t.tree ≡ []) (λ t. new t.tree ≡ old t.tree) (λ t. new t.tree ≡ []) (λ t none same. same ∙ none) tables

-- what the text of a table means, which `refl` finds
pub record MeansTable (before after : Schema) (text : List ℕ) (table : Table) : Type 0 where
  pub command : command_of (understood before text) ≡ CreateTable
  pub plain : IsPlain (understood before text)
  pub whole : statement_of text (understood before text) ≡ text
  pub defined : table_defined_by text ≡ Ok table
  pub is : created before table ≡ after
  pub uncounted : lacks_sequence after ≡ false

creates_table : (before after : Schema) (text : List ℕ) (table : Table) → MeansTable before after text table → (old new : State) (count : ℕ) → IsBare before old.now → Executes text [] old new (Ok count) → IsBare after new.now
creates_table before after text table means old new count bare h =
    let w = subst (λ t. Writes old new None CreateTable t [] count) means.whole (runs_as text [] old new before bare.listed CreateTable means.command means.plain count h) in
    let all = went w.changed in
    let first = went all.1 in
    let made = first.1 in
    let both : Ok made.table ≡ Ok table = sym made.defined ∙ means.defined in
    let same : made.table ≡ table = cc in
    let schema : first.0.schema ≡ after = made.is ∙ ap (λ s. created s made.table) bare.listed ∙ ap (created before) same ∙ means.is in
    let plain : lacks_sequence first.0.schema ≡ false = ap lacks_sequence schema ∙ means.uncounted in
    let now : new.now ≡ first.0 = ap (λ (p : Tally × Database). p.1) (same_value all.2) ∙ same_value (rw plain at first.2) in
    let empty : first.0.trees (next_tree before) ≡ [] = subst (λ s. first.0.trees (next_tree s) ≡ []) bare.listed made.empty in
    let kept : KeepsRows before.tables old.now.trees first.0.trees = subst (λ (s : Schema). KeepsRows s.tables old.now.trees first.0.trees) bare.listed made.others in
    let rows = all-append (λ (t : Table). first.0.trees t.tree ≡ []) before.tables (record table { tree = next_tree before } ∷ []) (kept_bare before.tables old.now.trees first.0.trees bare.rows kept) (empty, tt) in
    record {
      listed = ap (λ (d : Database). d.schema) now ∙ schema;
      rows = subst (λ (s : Schema). AllByRecursion (λ t. new.now.trees t.tree ≡ []) s.tables) means.is (subst (λ (d : Database). AllByRecursion (λ t. d.trees t.tree ≡ []) (created before table).tables) (sym now) rows);
      sound = λ _. w.sound;
    }

-- what the text of an index means
pub record MeansIndex (before after : Schema) (at : ℕ) (table : Table) (text : List ℕ) (index : Index) : Type 0 where
  pub there : slice_get before.tables at ≡ Some table
  pub command : command_of (understood before text) ≡ CreateIndex at
  pub plain : IsPlain (understood before text)
  pub whole : statement_of text (understood before text) ≡ text
  pub defined : index_defined_by table text ≡ Ok index
  pub is : indexed before table index ≡ after

creates_index : (before after : Schema) (at : ℕ) (table : Table) (text : List ℕ) (index : Index) → MeansIndex before after at table text index → (old new : State) (count : ℕ) → IsBare before old.now → Executes text [] old new (Ok count)
    → IsBare after new.now
creates_index before after at table text index means old new count bare h =
    let w = subst (λ t. Writes old new None (CreateIndex at) t [] count) means.whole (runs_as text [] old new before bare.listed (CreateIndex at) means.command means.plain count h) in
    let there : slice_get old.now.schema.tables at ≡ Some table = ap (λ (s : Schema). slice_get s.tables at) bare.listed ∙ means.there in
    let done = subst (λ o. AtPlace (λ (table : Table). Defines (mode_of old) (MakesIndex text old.now table)) o (Ok (w.tally, new.now))) there w.changed in
    let all = went done in
    let made = all.1 in
    let both : Ok made.index ≡ Ok index = sym made.defined ∙ means.defined in
    let same : made.index ≡ index = cc in
    let schema : all.0.schema ≡ after = made.is ∙ ap (λ s. indexed s table made.index) bare.listed ∙ ap (indexed before table) same ∙ means.is in
    let now : new.now ≡ all.0 = ap (λ (p : Tally × Database). p.1) (same_value all.2) in
    let kept : KeepsRows before.tables old.now.trees all.0.trees = subst (λ (s : Schema). KeepsRows s.tables old.now.trees all.0.trees) bare.listed made.rows in
    let rows = kept_bare before.tables old.now.trees all.0.trees bare.rows kept in
    record {
      listed = ap (λ (d : Database). d.schema) now ∙ schema;
      rows = subst (λ (s : Schema). AllByRecursion (λ t. new.now.trees t.tree ≡ []) s.tables) means.is (subst (λ (d : Database). AllByRecursion (λ t. d.trees t.tree ≡ []) before.tables) (sym now) rows);
      sound = λ _. w.sound;
    }

-- how many tables and indexes there are after the first texts
abbrev counts : List (ℕ × ℕ)
counts = (0, 0) ∷ (1, 1) ∷ (2, 2) ∷ (3, 3) ∷ (4, 3) ∷ (5, 3) ∷ (5, 4) ∷ (6, 5) ∷ (7, 5) ∷ (7, 6) ∷ (7, 7) ∷ (8, 8) ∷ (9, 9) ∷ (9, 10) ∷ (10, 10) ∷ (10, 11) ∷ (11, 12) ∷ (12, 13) ∷ (12, 14) ∷ (12, 15) ∷ (12, 16) ∷ (12, 17) ∷ []

-- the schema after the first texts
abbrev pub schema_after : ℕ → Schema
schema_after k =
    let count = slice_index_or counts k (13, 18) in
    record { tables = take count.0 the_schema.tables; indexes = take count.1 the_schema.indexes; views = [] }

abbrev pub text_at : ℕ → List ℕ
text_at k = slice_index_or (map (λ t. t.now) SCHEMA) k []

-- after each text the schema is that of one text more
abbrev RunsNext : ℕ → Type 1
RunsNext k = (old new : State) (count : ℕ) → IsBare (schema_after k) old.now → Executes (text_at k) [] old new (Ok count) → IsBare (schema_after (k + 1)) new.now

by_table : (k : ℕ) (table : Table) → MeansTable (schema_after k) (schema_after (k + 1)) (text_at k) (record table { tree = 0 }) → RunsNext k
by_table k table = creates_table (schema_after k) (schema_after (k + 1)) (text_at k) (record table { tree = 0 })

by_index : (k at : ℕ) (table : Table) (index : Index) → MeansIndex (schema_after k) (schema_after (k + 1)) at table (text_at k) (record index { tree = 0 }) → RunsNext k
by_index k at table index = creates_index (schema_after k) (schema_after (k + 1)) at table (text_at k) (record index { tree = 0 })

-- each text is understood as what makes its table or its index, which `refl` finds
all_run : (k : ℕ) → k < 21 → RunsNext k
unfolding understood everything
all_run zero low = by_table 0 table.meta (record { command = refl; plain = (refl, refl); whole = refl; defined = refl; is = refl; uncounted = refl })
all_run (suc zero) low = by_table 1 table.project (record { command = refl; plain = (refl, refl); whole = refl; defined = refl; is = refl; uncounted = refl })
all_run (suc (suc zero)) low = by_table 2 table.runner (record { command = refl; plain = (refl, refl); whole = refl; defined = refl; is = refl; uncounted = refl })
all_run (suc (suc (suc zero))) low = by_table 3 table.pipeline (record { command = refl; plain = (refl, refl); whole = refl; defined = refl; is = refl; uncounted = refl })
all_run (suc (suc (suc (suc zero)))) low = by_table 4 table.job (record { command = refl; plain = (refl, refl); whole = refl; defined = refl; is = refl; uncounted = refl })
all_run (suc (suc (suc (suc (suc zero))))) low = by_index 5 4 table.job table.job_pipeline (record { there = refl; command = refl; plain = (refl, refl); whole = refl; defined = refl; is = refl })
all_run (suc (suc (suc (suc (suc (suc zero)))))) low = by_table 6 table.jobvar (record { command = refl; plain = (refl, refl); whole = refl; defined = refl; is = refl; uncounted = refl })
all_run (suc (suc (suc (suc (suc (suc (suc zero))))))) low = by_table 7 table.attempt (record { command = refl; plain = (refl, refl); whole = refl; defined = refl; is = refl; uncounted = refl })
all_run (suc (suc (suc (suc (suc (suc (suc (suc zero)))))))) low = by_index 8 6 table.attempt table.attempt_job (record { there = refl; command = refl; plain = (refl, refl); whole = refl; defined = refl; is = refl })
all_run (suc (suc (suc (suc (suc (suc (suc (suc (suc zero))))))))) low = by_index 9 6 table.attempt table.attempt_state (record { there = refl; command = refl; plain = (refl, refl); whole = refl; defined = refl; is = refl })
all_run (suc (suc (suc (suc (suc (suc (suc (suc (suc (suc zero)))))))))) low = by_table 10 table.piece (record { command = refl; plain = (refl, refl); whole = refl; defined = refl; is = refl; uncounted = refl })
all_run (suc (suc (suc (suc (suc (suc (suc (suc (suc (suc (suc zero))))))))))) low = by_table 11 table.need (record { command = refl; plain = (refl, refl); whole = refl; defined = refl; is = refl; uncounted = refl })
all_run (suc (suc (suc (suc (suc (suc (suc (suc (suc (suc (suc (suc zero)))))))))))) low = by_index 12 8 table.need table.need_pred (record { there = refl; command = refl; plain = (refl, refl); whole = refl; defined = refl; is = refl })
all_run (suc (suc (suc (suc (suc (suc (suc (suc (suc (suc (suc (suc (suc zero))))))))))))) low = by_table 13 table.board (record { command = refl; plain = (refl, refl); whole = refl; defined = refl; is = refl; uncounted = refl })
all_run (suc (suc (suc (suc (suc (suc (suc (suc (suc (suc (suc (suc (suc (suc zero)))))))))))))) low = by_index 14 9 table.board table.board_status (record { there = refl; command = refl; plain = (refl, refl); whole = refl; defined = refl; is = refl })
all_run (suc (suc (suc (suc (suc (suc (suc (suc (suc (suc (suc (suc (suc (suc (suc zero))))))))))))))) low = by_table 15 table.variable (record { command = refl; plain = (refl, refl); whole = refl; defined = refl; is = refl; uncounted = refl })
all_run (suc (suc (suc (suc (suc (suc (suc (suc (suc (suc (suc (suc (suc (suc (suc (suc zero)))))))))))))))) low = by_table 16 table.holder (record { command = refl; plain = (refl, refl); whole = refl; defined = refl; is = refl; uncounted = refl })
all_run (suc (suc (suc (suc (suc (suc (suc (suc (suc (suc (suc (suc (suc (suc (suc (suc (suc zero))))))))))))))))) low = by_index 17 11 table.holder table.holder_attempt (record { there = refl; command = refl; plain = (refl, refl); whole = refl; defined = refl; is = refl })
all_run (suc (suc (suc (suc (suc (suc (suc (suc (suc (suc (suc (suc (suc (suc (suc (suc (suc (suc zero)))))))))))))))))) low = by_index 18 3 table.pipeline table.pipeline_ref (record { there = refl; command = refl; plain = (refl, refl); whole = refl; defined = refl; is = refl })
all_run (suc (suc (suc (suc (suc (suc (suc (suc (suc (suc (suc (suc (suc (suc (suc (suc (suc (suc (suc zero))))))))))))))))))) low = by_index 19 6 table.attempt table.attempt_runner (record { there = refl; command = refl; plain = (refl, refl); whole = refl; defined = refl; is = refl })
all_run (suc (suc (suc (suc (suc (suc (suc (suc (suc (suc (suc (suc (suc (suc (suc (suc (suc (suc (suc (suc zero)))))))))))))))))))) low = by_index 20 3 table.pipeline table.pipeline_created (record { there = refl; command = refl; plain = (refl, refl); whole = refl; defined = refl; is = refl })
all_run (suc (suc (suc (suc (suc (suc (suc (suc (suc (suc (suc (suc (suc (suc (suc (suc (suc (suc (suc (suc (suc k))))))))))))))))))))) low = absurd (omega (arith, low))

pub runs_next : (k : ℕ) → k < 21 → (text : List ℕ) (old new : State) (count : ℕ) → IsBare (schema_after k) old.now → Executes text [] old new (Ok count) → text ≡ text_at k → IsBare (schema_after (k + 1)) new.now
runs_next k low text old new count bare h is = all_run k low old new count bare (subst (λ t. Executes t [] old new (Ok count)) is h)

-- ---- what version 2 has more

pub makes_mode : MeansTable (schema_after 21) the_schema CREATE_MODE.now (record table.mode { tree = 0 })
unfolding understood everything
makes_mode = record { command = refl; plain = (refl, refl); whole = refl; defined = refl; is = refl; uncounted = refl }

pub runs_mode : (old new : State) (count : ℕ) → IsBare (schema_after 21) old.now → Executes CREATE_MODE.now [] old new (Ok count) → IsBare the_schema new.now
runs_mode = creates_table (schema_after 21) the_schema CREATE_MODE.now _ makes_mode
