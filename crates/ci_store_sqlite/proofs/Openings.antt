-- What an opening finds of `meta`.
use Rattle.std.proofs.Common.{◌≡◌, ◌≢◌, ◌∙◌, ◌<◌, ◌≤◌, ℕ, List, [], ◌∷◌, length, get_or, filter, codes, Bool, true, false, MatchBool, Result, Ok, Err, IfOk, inl, inr, refl, sym, ap, subst, subst₂, append-nil, arith, IsPermutation}
use Rattle.ci_store.specs.Prelude.{Text, Row, column, Database, Reads, understood, reads_listing, IsSourceOf, Shown, ShowsRows, IsUnchanged, Survives, CommitsShowing, IsNotRun}
use Rattle.ci_store.specs.Prelude.{store_error, Trees, Schema, value_cmp, everything, Compiled, CompileError, first, StoreError, OutOfMemory, Io, Corrupt, Full, Broken as Closed}
use Rattle.ci_store.specs.Prelude.{Unstorable, SqlInputError, Kept, Numbers, has_key}
use Rattle.sqlite.specs.State.{State as Seen}
use Rattle.sqlite.specs.Clock.{timed}
use Rattle.sqlite_sql.specs.Ops.{binary}
use Rattle.sqlite.proofs.Callers.{IsPlain, command_of, one_permutation}
use Rattle.ci_store.specs.declared.fault.StoreFault.{StoreFault}
use Rattle.ci_store.specs.declared.fault.StoreFault.TheVariants.{Memory as Refused, Broken}
use Rattle.ci_store.proofs.Plain.{is_selecting, plain_under}
use Rattle.ci_store.proofs.Selects.{selects_of}
use Rattle.ci_store_sqlite.specs.Prelude.{SELECT_META, OpenFault, O1, O2, O3, Memory, the_schema, meta, SelectsMeta, HasNumber, LacksNumber, Blames, IsFailure}
use Rattle.ci_store_sqlite.specs.Prelude.{open_fault_of, number, Stands, meta_row, meta_rows}
use Rattle.ci_store_rows.proofs.NextLoads.{means_meta, plain_meta}
use Rattle.ci_store_rows.proofs.Records.{is}
use Rattle.ci_store_rows.proofs.Shows.{held}

-- ---- the query of `meta`, whatever the schema

selecting : is_selecting (first SELECT_META.now) ≡ true
unfolding first everything
selecting = refl

plain_any : (schema : Schema) (c : Compiled) → understood schema SELECT_META.now ≡ Ok c → IsPlain (Ok c)
plain_any = plain_under SELECT_META.now selecting

commits_nothing : (params : Row) (s : Seen) (db : Trees) → ¬ CommitsShowing SELECT_META.now params s db
unfolding CommitsShowing
commits_nothing params s db h =
    let none = (plain_any s.now.schema h.0 h.1.is).0 in
    absurd (let some = rw none at h.2 in cc)

pub survives_query : (params : Row) (old new : Seen) → Survives old new (CommitsShowing SELECT_META.now params old) → Survives old new (λ _. ⊥)
survives_query params old new s = record {
  clean = s.clean;
  shield = s.shield;
  counts = s.counts;
  limit = s.limit;
  closes = s.closes;
  crash = λ clean db may. elim (s.crash clean db may) [ inl was ↦ inl was | inr commits ↦ absurd (commits_nothing params old db commits) ];
}

pub same_after_query : (params : Row) (old new : Seen) (rows : List Row) → Shown SELECT_META.now params old new rows → IsUnchanged old new
unfolding Shown
same_after_query params old new rows h =
    let none = (plain_any old.now.schema h.0 h.1.is).0 in
    (subst (ShowsRows old new SELECT_META.now h.0 (timed params h.0.formats h.1.now) rows) none h.2).3

pub selected : (key : List ℕ) (old new : Seen) (rows : List Row) → Shown SELECT_META.now (Text key ∷ []) old new rows → SelectsMeta key rows old.now
unfolding Shown
selected key old new rows h =
    let bare = plain_any old.now.schema h.0 h.1.is in
    let it = rw (bare.0, bare.1, append-nil (Text key ∷ [])) at h.2 in
    record { plan = h.0; is = h.1.is; source = it.0; from = it.1; read = it.2 }

-- ---- its answer

pub one_found : (key : List ℕ) (num : ℕ) (db : Database) (rows : List Row) (row : Row) → 1 ≤ length rows → length rows < 2 → get_or rows 0 row ≡ row → SelectsMeta key rows db
    → (r : Result Bool StoreFault) → IfOk r (λ found. MatchBool found (column row 1 ≡ number num) (column row 1 ≢ number num)) → IfOk r (λ found. MatchBool found (HasNumber key num db) (LacksNumber key num db))
one_found key num db [] row high low first it r h = absurd (omega arith)
one_found key num db (a ∷ b ∷ rows) row high low first it r h = absurd (omega arith)
one_found key num db (a ∷ []) row high low first it (Err e) h = tt
one_found key num db (a ∷ []) row high low first it (Ok true) h = (a ∷ [], it, (a, refl, ap (λ r. column r 1) first ∙ h))
one_found key num db (a ∷ []) row high low first it (Ok false) h = inr (a ∷ [], it, λ one. let same : a ≡ one.0 = cc in h (ap (λ r. column r 1) (sym first ∙ same) ∙ one.2))

pub none_found : (key : List ℕ) (num : ℕ) (db : Database) (rows : List Row) → length rows ≢ 1 → SelectsMeta key rows db → LacksNumber key num db
none_found key num db rows other it = inr (rows, it, λ one. other (ap length one.1))

-- ---- a statement that is not understood

not_as_store : (cause : StoreError) (fault : CompileError) → SqlInputError fault ≢ store_error cause
not_as_store OutOfMemory fault is = absurd cc
not_as_store Io fault is = absurd cc
not_as_store Corrupt fault is = absurd cc
not_as_store Full fault is = absurd cc
not_as_store Closed fault is = absurd cc
not_as_store Unstorable fault is = absurd cc

pub not_understood : (params : Row) (old new : Seen) (fault : CompileError) → IsNotRun old new SELECT_META.now params (SqlInputError fault) → Blames O1 old.now
unfolding IsNotRun
not_understood params old new fault (inl (inl h, same)) = inl (h.0, h.1)
not_understood params old new fault (inl (inr (c, is, inl h), same)) = absurd (let e = h.1 in cc)
not_understood params old new fault (inl (inr (c, is, inr (inl h)), same)) = absurd (let e = h.1 in cc)
not_understood params old new fault (inl (inr (c, is, inr (inr h)), same)) = absurd (let e = h.1 in cc)
not_understood params old new fault (inr fails) = absurd (not_as_store fails.0 fault fails.1)

pub not_run_same : (params : Row) (old new : Seen) (fault : CompileError) → IsNotRun old new SELECT_META.now params (SqlInputError fault) → IsUnchanged old new
unfolding IsNotRun
not_run_same params old new fault (inl h) = h.1
not_run_same params old new fault (inr fails) = absurd (not_as_store fails.0 fault fails.1)

-- ---- a store that holds a state is of this format and version

pub of_state : (k : Kept) (db : Database) → Stands k db → (key : List ℕ) (num : ℕ) → filter (has_key (Text key ∷ [])) (meta_rows k.state.next) ≡ meta_row key num ∷ [] → (rows : List Row) → SelectsMeta key rows db → rows ≡ meta_row key num ∷ []
of_state k db stands key num one rows it =
    let known = sym it.is ∙ ap (λ (schema : Schema). understood schema SELECT_META.now) stands.listed in
    let source : it.source ≡ db = subst (λ b. IsSourceOf b db it.source) (ap (λ (schema : Schema). reads_listing schema SELECT_META.now) stands.listed ∙ means_meta.unlisted) it.from in
    let read = subst₂ (λ k d. Reads k d (Text key ∷ []) rows) (ap command_of known ∙ means_meta.is) source it.read in
    one_permutation (meta_row key num) rows
    (subst (λ l. IsPermutation l rows) one (selects_of the_schema meta SELECT_META.now (is 1 0 ∷ []) _ [] _ means_meta (Text key ∷ []) (has_key (Text key ∷ [])) (λ r. refl) (λ r. refl) db (meta_rows k.state.next) rows (held k db stands 0 meta refl) read))

never_lacks : (k : Kept) (db : Database) → Stands k db → (key : List ℕ) (num : ℕ) → filter (has_key (Text key ∷ [])) (meta_rows k.state.next) ≡ meta_row key num ∷ [] → ¬ LacksNumber key num db
never_lacks k db stands key num one (inl bad) = subst IsPlain (ap (λ (schema : Schema). understood schema SELECT_META.now) (sym stands.listed) ∙ bad.1) plain_meta
never_lacks k db stands key num one (inr it) = it.2 (meta_row key num, of_state k db stands key num one it.0 it.1, refl)

format_row : (next : Numbers) → filter (has_key (Text (codes "format") ∷ [])) (meta_rows next) ≡ meta_row (codes "format") 1128878163 ∷ []
unfolding binary value_cmp lib.Ieee.is_nan lib.Ieee.lt
format_row next = refl

pub version_row : (next : Numbers) → filter (has_key (Text (codes "version") ∷ [])) (meta_rows next) ≡ meta_row (codes "version") 2 ∷ []
unfolding binary value_cmp lib.Ieee.is_nan lib.Ieee.lt
version_row next = refl

pub never_blamed : (k : Kept) (db : Database) → Stands k db → (fault : OpenFault) → Blames fault db → IsFailure fault
never_blamed k db stands O1 lacks = never_lacks k db stands (codes "format") 1128878163 (format_row k.state.next) lacks
never_blamed k db stands O2 h = never_lacks k db stands (codes "version") 2 (version_row k.state.next) h.1
never_blamed k db stands O3 h = tt
never_blamed k db stands Memory h = tt

-- ---- faults of the store

pub blames_none : (fault : StoreFault) (db : Database) → Blames (open_fault_of fault) db
blames_none Refused db = tt
blames_none Broken db = tt

pub is_failure : (fault : StoreFault) → IsFailure (open_fault_of fault)
is_failure Refused = tt
is_failure Broken = tt
