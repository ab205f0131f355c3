-- Which version a store has that stands for what is kept.
use Rattle.std.proofs.Common.{◌≡◌, ◌∙◌, ◌⊎◌, ◌≤◌, ◌≢◌, ℕ, List, [], ◌∷◌, filter, length, nat_le, codes, inl, inr, ⊎_elim, arith, IsTrue, refl, sym, ap, subst, subst₂, IsPermutation}
use Rattle.std.proofs.lemmas.Bool.{leb-true}
use Rattle.ci_store.specs.Prelude.{Text, value_cmp, Row, column, Table, Schema, Database, IsDatabase, Reads, understood, reads_listing, IsSourceOf, HasCleanDisk, Survives}
use Rattle.ci_store.specs.Prelude.{IsUnchanged, Ghosts, Held, state, everything, Has, Kept, Numbers, has_key}
use Rattle.sqlite_sql.specs.Ops.{binary}
use Rattle.sqlite.proofs.Callers.{IsPlain, command_of, one_permutation}
use Rattle.sqlite.proofs.StateLemmas.{survives_then}
use Rattle.sqlite_rules.proofs.ListLemmas.{test_has}
use Rattle.ci_store.proofs.OneSchema.{one_schema}
use Rattle.ci_store.proofs.Selects.{MeansSelect, selects_of}
use Rattle.ci_store_sqlite.specs.Prelude.{SELECT_META, meta, meta_row, Stands, StandsIn, number, SelectsMeta, HasNumber, LacksNumber, IsFailure, OpenFault, O1, O2, O3, Memory}
use Rattle.ci_store_sqlite.specs.Prelude.{schema_of_1, meta_rows_of_1, StandsIn1, Stands1, StandsInAny, LeavesAny, BlamesAny}
use Rattle.ci_store_rows.proofs.Records.{is}
use Rattle.ci_store_rows.proofs.Shows.{columns_of, names_of}
use Rattle.ci_store_rows.proofs.Whole.{stands_whole}
use Rattle.ci_store_sqlite.proofs.Openings.{of_state, version_row, never_blamed}

-- ---- a store of version 1 lists its schema alone

few_uniques : (t : Table) → Has schema_of_1.tables t → length t.uniques ≤ 1
few_uniques t h = leb-true _ _ (test_has (λ (t : Table). nat_le (length t.uniques) 1) schema_of_1.tables t refl h)

pub stands_whole_1 : (k : Kept) (db : Database) → IsDatabase db → StandsIn1 k db.trees → Stands1 k db
stands_whole_1 k db sound inside = record { listed = one_schema schema_of_1.tables schema_of_1.indexes db.schema db.trees few_uniques inside.tables.sound sound; inside = inside }

-- ---- what its `meta` shows

means_meta_1 : MeansSelect schema_of_1 meta SELECT_META.now (is 1 0 ∷ []) (columns_of meta) [] (names_of meta)
unfolding understood everything
means_meta_1 = record { is = refl; unlisted = refl; plain = (refl, refl) }

of_state_1 : (k : Kept) (db : Database) → Stands1 k db → (key : List ℕ) (num : ℕ) → filter (has_key (Text key ∷ [])) (meta_rows_of_1 k.state.next) ≡ meta_row key num ∷ [] → (rows : List Row) → SelectsMeta key rows db → rows ≡ meta_row key num ∷ []
of_state_1 k db stands key num one rows it =
    let known = sym it.is ∙ ap (λ (schema : Schema). understood schema SELECT_META.now) stands.listed in
    let source : it.source ≡ db = subst (λ b. IsSourceOf b db it.source) (ap (λ (schema : Schema). reads_listing schema SELECT_META.now) stands.listed ∙ means_meta_1.unlisted) it.from in
    let read = subst₂ (λ k d. Reads k d (Text key ∷ []) rows) (ap command_of known ∙ means_meta_1.is) source it.read in
    one_permutation (meta_row key num) rows
    (subst (λ l. IsPermutation l rows) one (selects_of schema_of_1 meta SELECT_META.now (is 1 0 ∷ []) _ [] _ means_meta_1 (Text key ∷ []) (has_key (Text key ∷ [])) (λ r. refl) (λ r. refl) db (meta_rows_of_1 k.state.next) rows stands.inside.tables.holds.0 read))

never_lacks_1 : (k : Kept) (db : Database) → Stands1 k db → (key : List ℕ) (num : ℕ) → filter (has_key (Text key ∷ [])) (meta_rows_of_1 k.state.next) ≡ meta_row key num ∷ [] → ¬ LacksNumber key num db
never_lacks_1 k db stands key num one (inl bad) = subst IsPlain (ap (λ (schema : Schema). understood schema SELECT_META.now) (sym stands.listed) ∙ bad.1) means_meta_1.plain
never_lacks_1 k db stands key num one (inr it) = it.2 (meta_row key num, of_state_1 k db stands key num one it.0 it.1, refl)

format_row_1 : (next : Numbers) → filter (has_key (Text (codes "format") ∷ [])) (meta_rows_of_1 next) ≡ meta_row (codes "format") 1128878163 ∷ []
unfolding binary value_cmp lib.Ieee.is_nan lib.Ieee.lt
format_row_1 next = refl

version_row_1 : (next : Numbers) → filter (has_key (Text (codes "version") ∷ [])) (meta_rows_of_1 next) ≡ meta_row (codes "version") 1 ∷ []
unfolding binary value_cmp lib.Ieee.is_nan lib.Ieee.lt
version_row_1 next = refl

-- ---- each refusal is a failure, of a store that stands for what is kept

-- what is kept, as a database of one of the two versions
abbrev pub StandsAny : Kept → Database → Type 0
StandsAny k db = Stands k db ⊎ Stands1 k db

blamed_1 : (k : Kept) (db : Database) → Stands1 k db → (fault : OpenFault) → BlamesAny fault db → IsFailure fault
blamed_1 k db stands O1 lacks = never_lacks_1 k db stands (codes "format") 1128878163 (format_row_1 k.state.next) lacks
blamed_1 k db stands O2 h = never_lacks_1 k db stands (codes "version") 1 (version_row_1 k.state.next) h.1
blamed_1 k db stands O3 h = tt
blamed_1 k db stands Memory h = tt

blamed_2 : (k : Kept) (db : Database) → Stands k db → (fault : OpenFault) → BlamesAny fault db → IsFailure fault
blamed_2 k db stands O1 lacks = never_blamed k db stands O1 lacks
blamed_2 k db stands O2 h = never_blamed k db stands O2 h.0
blamed_2 k db stands O3 h = tt
blamed_2 k db stands Memory h = tt

pub never_blamed_any : (k : Kept) (db : Database) → StandsAny k db → (fault : OpenFault) → BlamesAny fault db → IsFailure fault
never_blamed_any k db stands fault blames = ⊎_elim (λ s. blamed_2 k db s fault blames) (λ s. blamed_1 k db s fault blames) stands

-- ---- which of the two it is

two_is_not_one : number 2 ≢ number 1
two_is_not_one e = absurd cc

first_or : List Row → Row
first_or [] = []
first_or (r ∷ more) = r

-- the one row has the number that it is found to have
same_number : (key : List ℕ) (written found : ℕ) (rows : List Row) (row : Row) → rows ≡ meta_row key written ∷ [] → rows ≡ row ∷ [] → column row 1 ≡ number found → number written ≡ number found
unfolding first_or
same_number key written found rows row one other has = ap (λ (l : List Row). column (first_or l) 1) (sym one ∙ other) ∙ has

pub has_not_1 : (k : Kept) (db : Database) → Stands k db → ¬ HasNumber (codes "version") 1 db
has_not_1 k db stands has = two_is_not_one (same_number (codes "version") 2 1 has.0 has.2.0 (of_state k db stands (codes "version") 2 (version_row k.state.next) has.0 has.1) has.2.1 has.2.2)

has_not_2 : (k : Kept) (db : Database) → Stands1 k db → ¬ HasNumber (codes "version") 2 db
has_not_2 k db stands has = two_is_not_one (sym (same_number (codes "version") 1 2 has.0 has.2.0 (of_state_1 k db stands (codes "version") 1 (version_row_1 k.state.next) has.0 has.1) has.2.1 has.2.2))

-- a connection that is open, outside a transaction, stands for what its files stand for
pub open_any : {S : Type 0} (g : Ghosts S) (k : Kept) (h : Held S) → (state g h).now ≡ (state g h).committed → IsDatabase (state g h).now → (state g h).may_leave (state g h).committed.trees → LeavesAny g k h → StandsAny k (state g h).now
open_any g k h settled sound may any =
    let inside : StandsInAny k (state g h).now.trees = subst (λ (d : Database). StandsInAny k d.trees) (sym settled) (any (state g h).committed.trees may) in
    ⊎_elim (λ s. inl (stands_whole k (state g h).now sound s)) (λ s. inr (stands_whole_1 k (state g h).now sound s)) inside

pub is_of_1 : (k : Kept) (db : Database) → StandsAny k db → HasNumber (codes "version") 1 db → Stands1 k db
is_of_1 k db stands has = ⊎_elim (λ s. absurd (has_not_1 k db s has)) (λ s. s) stands

pub is_of_2 : (k : Kept) (db : Database) → StandsAny k db → HasNumber (codes "version") 2 db → Stands k db
is_of_2 k db stands has = ⊎_elim (λ s. s) (λ s. absurd (has_not_2 k db s has)) stands

-- ---- what a migration is given, and what it leaves

module _ {S : Type 0} (g : Ghosts S) (old mid : Held S) (same : HasCleanDisk (state g mid) → IsUnchanged (state g old) (state g mid)) (settled : IsTrue (state g old).is_open → (state g old).now ≡ (state g old).committed)
    (sound : IsTrue (state g old).is_open → IsDatabase (state g old).now) (may : IsTrue (state g old).is_open → (state g old).may_leave (state g old).committed.trees)
    (has : HasCleanDisk (state g mid) → HasNumber (codes "version") 1 (state g old).now) where
  -- a connection that has the version 1 stands for what its files stand for, as version 1 does
  pub stands_as_1 : HasCleanDisk (state g mid) → (k : Kept) → LeavesAny g k old → Stands1 k (state g mid).now
  stands_as_1 clean k any =
      let shows = (same clean).0 in
      subst (Stands1 k) (sym shows.now_is) (is_of_1 k (state g old).now (open_any g k old (settled shows.was_open) (sound shows.was_open) (may shows.was_open) any) (has clean))

  module _ (new : Held S) (first : Survives (state g old) (state g mid) (λ _. ⊥)) (second : Survives (state g mid) (state g new) (λ db. (k : Kept) → Stands1 k (state g mid).now → StandsIn k db)) where
    pub leaves_any : HasCleanDisk (state g new) → (k : Kept) → LeavesAny g k old → LeavesAny g k new
    leaves_any clean k any db leaves =
        let early : HasCleanDisk (state g mid) = omega (arith, clean, second.clean) in
        ⊎_elim (λ was. ⊎_elim (λ before. any db before) (λ none. absurd none) (first.crash early db was)) (λ made. inl (made k (stands_as_1 early k any))) (second.crash clean db leaves)

    pub survives_both : Survives (state g old) (state g new) (λ db. HasNumber (codes "version") 1 (state g old).now × ((k : Kept) → LeavesAny g k old → StandsIn k db))
    survives_both =
        survives_then (state g old) (state g mid) (state g new) (λ _. ⊥) (λ db. (k : Kept) → Stands1 k (state g mid).now → StandsIn k db) (λ db. HasNumber (codes "version") 1 (state g old).now × ((k : Kept) → LeavesAny g k old → StandsIn k db)) (λ _ db none. absurd none)
        (λ late db made. let early : HasCleanDisk (state g mid) = omega (arith, late, second.clean) in (has early, λ k any. made k (stands_as_1 early k any))) first second
