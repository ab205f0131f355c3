-- The trees of a database list one schema.
use Rattle.std.proofs.Common.{◌≡◌, inl, inr, ℕ, zero, suc, ◌+◌, ◌<◌, ◌≤◌, pos, List, [], ◌∷◌, filter, length, slice_get, true, false, Some, refl, sym, ap, subst, ◌∙◌, arith, map}
use Rattle.std.proofs.Common.{is_eq}
use Rattle.std.specs.List.{AllZip}
use Rattle.std.specs.Char.{to_ascii_lowercase}
use Rattle.std.proofs.lemmas.Cmp.{tied_itself, nat_list_cmp_total}
use Rattle.ci_store.specs.Prelude.{Value, Null, Int, Text, Real, Blob, Row, column, Table, Schema, Trees, Index, same_name, IsAscending, catalog_tree, IsTableRow, IsIndexRow}
use Rattle.ci_store.specs.Prelude.{IsViewRow, IsDefined, automatic, IsSound, is_index_row, Has}
use Rattle.sqlite.specs.Tree.{rowid}
use Rattle.sqlite.specs.Compile.{table_defined_by}
use Rattle.sqlite_rules.proofs.ListLemmas.{all_has}

same_tree : (v : Value) (a b : ℕ) → v ≡ Int (pos (a + 1)) → v ≡ Int (pos (b + 1)) → a ≡ b
same_tree v a b ha hb = let e : a + 1 ≡ b + 1 = cc in omega (arith, e)

same_table : (row : Row) (a b : Table) → IsTableRow row a → IsTableRow row b → a ≡ b
same_table row a b ha hb =
    let sql : ha.sql ≡ hb.sql = let x = ha.sql_is in let y = hb.sql_is in cc in
    let tree = same_tree (rowid row) a.tree b.tree ha.described.id hb.described.id in
    let made : ha.defined.0 ≡ hb.defined.0 = let x = ha.defined.1 in let y = hb.defined.1 in let z = ap table_defined_by sql in cc in
    ha.defined.2 ∙ (λ i. record (made i) { tree = tree i }) ∙ sym hb.defined.2

same_tables : (rows : List Row) (xs bs : List Table) → AllZip IsTableRow rows xs → AllZip IsTableRow rows bs → xs ≡ bs
same_tables [] [] [] ha hb = refl
same_tables [] [] (b ∷ bs) ha hb = absurd hb
same_tables [] (a ∷ xs) bs ha hb = absurd ha
same_tables (r ∷ rows) [] bs ha hb = absurd ha
same_tables (r ∷ rows) (a ∷ xs) [] ha hb = absurd hb
same_tables (r ∷ rows) (a ∷ xs) (b ∷ bs) ha hb = λ i. same_table r a b ha.0 hb.0 i ∷ same_tables rows xs bs ha.1 hb.1 i

itself : (name : List ℕ) → same_name name name ≡ true
unfolding same_name
itself name = ap is_eq (tied_itself nat_list_cmp_total (map to_ascii_lowercase name))

-- a name is that of one table
one_named : (tables : List Table) → IsAscending (λ s t. same_name s.name t.name ≡ false) tables → (a b : Table) → Has tables a → Has tables b → a.name ≡ b.name → a ≡ b
one_named [] up a b ha hb same = absurd ha
one_named (t ∷ tables) up a b (inl ia) (inl ib) same = ia ∙ sym ib
one_named (t ∷ tables) up a b (inl ia) (inr hb) same = absurd (let e = all_has _ tables b up.0 hb in let f : same_name t.name b.name ≡ true = subst (λ n. same_name t.name n ≡ true) (sym (ap (λ (t : Table). t.name) ia) ∙ same) (itself t.name) in cc)
one_named (t ∷ tables) up a b (inr ha) (inl ib) same = absurd (let e = all_has _ tables a up.0 ha in let f : same_name t.name a.name ≡ true = subst (λ n. same_name t.name n ≡ true) (sym (ap (λ (t : Table). t.name) ib) ∙ sym same) (itself t.name) in cc)
one_named (t ∷ tables) up a b (inr ha) (inr hb) same = one_named tables up.1 a b ha hb same

low_place : {X : Type 0} (xs : List X) (at : ℕ) (x : X) → slice_get xs at ≡ Some x → at < length xs
low_place [] at x h = cc
low_place (y ∷ xs) zero x h = omega arith
low_place (y ∷ xs) (suc at) x h = omega (arith, low_place xs at x h)

-- of a table with at most one UNIQUE
same_defined : (t : Table) (a b : Index) (v : Value) → length t.uniques ≤ 1 → a.tree ≡ b.tree → IsDefined t a v → IsDefined t b v → a ≡ b
same_defined t a b Null few tree ha hb =
    let p = low_place t.uniques ha.0 ha.1 ha.2 in
    let q = low_place t.uniques hb.0 hb.1 hb.2 in
    let at : ha.0 ≡ hb.0 = omega (arith, p, q, few) in
    let key : ha.1 ≡ hb.1 = let x = ha.2 in let y = hb.2 in let z = ap (slice_get t.uniques) at in cc in
    ha.3 ∙ (λ i. automatic t (at i) (key i) (tree i)) ∙ sym hb.3
same_defined t a b (Int n) few tree ha hb = absurd ha
same_defined t a b (Real x) few tree ha hb = absurd ha
same_defined t a b (Text sql) few tree ha hb =
    let made : ha.0 ≡ hb.0 = let x = ha.1 in let y = hb.1 in cc in
    ha.2 ∙ (λ i. record (made i) { tree = tree i; table = t.tree }) ∙ sym hb.2
same_defined t a b (Blob x) few tree ha hb = absurd ha

module _ (tables : List Table) (up : IsAscending (λ s t. same_name s.name t.name ≡ false) tables) (few : (t : Table) → Has tables t → length t.uniques ≤ 1) where
  same_index : (row : Row) (a b : Index) → IsIndexRow tables row a → IsIndexRow tables row b → a ≡ b
  same_index row a b ha hb =
      let owner : ha.table.name ≡ hb.table.name = let x = ha.described.owner_is in let y = hb.described.owner_is in cc in
      let table = one_named tables up ha.table hb.table ha.listed hb.listed owner in
      same_defined ha.table a b (column row 4) (few ha.table ha.listed) (same_tree (rowid row) a.tree b.tree ha.described.id hb.described.id) ha.defined (subst (λ t. IsDefined t b (column row 4)) (sym table) hb.defined)

  same_indexes : (rows : List Row) (xs bs : List Index) → AllZip (IsIndexRow tables) rows xs → AllZip (IsIndexRow tables) rows bs → xs ≡ bs
  same_indexes [] [] [] ha hb = refl
  same_indexes [] [] (b ∷ bs) ha hb = absurd hb
  same_indexes [] (a ∷ xs) bs ha hb = absurd ha
  same_indexes (r ∷ rows) [] bs ha hb = absurd ha
  same_indexes (r ∷ rows) (a ∷ xs) [] ha hb = absurd hb
  same_indexes (r ∷ rows) (a ∷ xs) (b ∷ bs) ha hb = λ i. same_index r a b ha.0 hb.0 i ∷ same_indexes rows xs bs ha.1 hb.1 i

no_views : {A B : Type 0} (R : A → B → Type 0) (rows : List A) (bs : List B) → AllZip R rows [] → AllZip R rows bs → [] ≡ bs
no_views R [] [] ha hb = refl
no_views R [] (b ∷ bs) ha hb = absurd hb
no_views R (r ∷ rows) bs ha hb = absurd ha

-- A schema with no view and at most one UNIQUE a table is the one that its trees list.
pub one_schema : (tables : List Table) (indexes : List Index) (other : Schema) (db : Trees) → ((t : Table) → Has tables t → length t.uniques ≤ 1)
    → IsSound (record { tables = tables; indexes = indexes; views = [] }) db → IsSound other db → other ≡ record { tables = tables; indexes = indexes; views = [] }
one_schema tables indexes other db few ha hb =
    let a = ha.lists.listed in
    let b = hb.lists.listed in
    let t : tables ≡ other.tables = same_tables _ tables other.tables a.tables b.tables in
    let i : indexes ≡ other.indexes = same_indexes tables a.named few _ indexes other.indexes a.indexes (subst (λ ts. AllZip (IsIndexRow ts) (filter is_index_row (db catalog_tree)) other.indexes) (sym t) b.indexes) in
    let v : [] ≡ other.views = no_views IsViewRow _ other.views a.views b.views in
    sym (λ k. record { tables = t k; indexes = i k; views = v k })
