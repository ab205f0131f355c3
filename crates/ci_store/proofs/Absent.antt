-- An insert that is taken finds no row with its key.
use Rattle.std.proofs.Common.{◌≡◌, inl, ℤ, List, [], ◌∷◌, filter, Bool, true, false, not, ◌&&◌, Some, refl, sym, ap, subst, ◌∙◌, is_eq, Ordering, Less, Equal, Greater}
use Rattle.std.specs.Ordering.{is_ne}
use Rattle.std.specs.List.{list_any}
use Rattle.std.proofs.lemmas.Bool.{and_parts, not-true}
use Rattle.ci_store.specs.Prelude.{Int, value_cmp, is_true, from_truth, Index, Unique, equal, differ, agree, guards, clashes, Table, Schema, Trees, IsSound, IsShaped, Has}
use Rattle.ci_store.specs.Prelude.{are_fresh, have_rowids, is_taken}
use Rattle.sqlite_value.specs.Order.{Row}
use Rattle.sqlite.specs.Collation.TheVariants.{Binary}
use Rattle.sqlite.specs.Ops.{binary}
use Rattle.sqlite_trees.specs.Tree.{rowid}
use Rattle.sqlite_trees.specs.declared.store.Shape.TheVariants as shape
use Rattle.sqlite_rules.specs.Edit.{id_in, put_all}
use Rattle.sqlite_rules.proofs.ListLemmas.{all_has, all_from, test_has}
use Rattle.sqlite_rules.proofs.TableLemmas.{int_is, put_all_adds, put_all_keeps}
use Rattle.sqlite_keyed.proofs.ListLemmas.{none_from_any, filter_none}

truth_of : (b : Bool) → is_true (from_truth (Some b)) ≡ b
truth_of true = refl
truth_of false = refl

pub equal_ints : (a b : ℤ) → equal Binary (Int a) (Int b) ≡ is_eq (value_cmp (Int a) (Int b))
unfolding binary
equal_ints a b = truth_of (is_eq (value_cmp (Int a) (Int b)))

-- where the key is the rowid
pub absent_rowid : (rows : List Row) (new_row : Row) (news : List Row) (n : ℤ) (p : Row → Bool) → ((r : Row) → p r ≡ (equal Binary (rowid r) (Int n) && true)) → IsShaped shape.Table rows → rowid new_row ≡ Int n → are_fresh rows (new_row ∷ news) ≡ true
    → filter p rows ≡ []
absent_rowid rows new_row news n p is shaped id fresh = filter_none p rows (all_from _ rows each)
  where
    free : list_any (λ r. is_eq (value_cmp (rowid r) (rowid new_row))) rows ≡ false
    free = not-true (is_taken rows new_row) (and_parts _ _ fresh).0

    each : (r : Row) → Has rows r → p r ≡ false
    each r h =
        let int = int_is (rowid r) (all_has _ rows r shaped.1 h) in
        let apart = all_has _ rows r (none_from_any (λ r. is_eq (value_cmp (rowid r) (rowid new_row))) rows free) h in
        is r ∙ ap (λ v. equal Binary v (Int n) && true) int ∙ ap (λ b. b && true) (equal_ints (id_in (rowid r)) n ∙ ap (λ v. is_eq (value_cmp v (Int n))) (sym int) ∙ ap (λ v. is_eq (value_cmp (rowid r) v)) (sym id) ∙ apart)

not_equal : (o : Ordering) → is_ne o ≡ not (is_eq o)
not_equal Less = refl
not_equal Equal = refl
not_equal Greater = refl

differ_ints : (a b : ℤ) → differ (Int a) (Int b) ≡ not (is_eq (value_cmp (Int a) (Int b)))
unfolding binary
differ_ints a b = truth_of (is_ne (value_cmp (Int a) (Int b))) ∙ not_equal (value_cmp (Int a) (Int b))

first_false : (a b : Bool) → (a && b) ≡ false → b ≡ true → a ≡ false
first_false true b h is = absurd (let e = sym is ∙ h in cc)
first_false false b h is = refl

second_false : (a b : Bool) → a ≡ true → not (a && b) ≡ true → b ≡ false
second_false true true is h = absurd cc
second_false true false is h = refl
second_false false b is h = absurd cc

abbrev clash : Index → Row → Row → Bool
clash index new_row r = agree index.order index.columns r index.columns new_row && differ (rowid r) (rowid new_row)

-- where the key is that of a unique index
pub absent_unique : (schema : Schema) (table : Table) (index : Index) → Has schema.tables table → Has schema.indexes index → guards index table ≡ true
    → (rows : List Row) (new_row : Row) (news : List Row) (db : Trees) (p : Row → Bool) → ((r : Row) → p r ≡ agree index.order index.columns r index.columns new_row) → IsShaped shape.Table rows → have_rowids (new_row ∷ news) ≡ true
    → are_fresh rows (new_row ∷ news) ≡ true → db table.tree ≡ put_all rows (new_row ∷ news) → IsSound schema db → filter p rows ≡ []
absent_unique schema table index listed indexed guarded rows new_row news db p is shaped keyed fresh put sound = filter_none p rows (all_from _ rows each)
  where
    there : (r : Row) → Has (put_all rows (new_row ∷ news)) r → Has (db table.tree) r
    there r h = subst (λ l. Has l r) (sym put) h

    apart : list_any (clash index new_row) (db table.tree) ≡ false
    apart =
        let kept = all_has _ (db table.tree) new_row (all_has _ schema.tables table (sound.obeys.rules Unique) listed) (there new_row (put_all_adds (new_row ∷ news) rows new_row fresh (inl refl))) in
        second_false (guards index table) (clashes index.order index.columns (db table.tree) new_row) guarded (test_has _ schema.indexes index kept indexed)

    free : list_any (λ r. is_eq (value_cmp (rowid r) (rowid new_row))) rows ≡ false
    free = not-true (is_taken rows new_row) (and_parts _ _ fresh).0

    each : (r : Row) → Has rows r → p r ≡ false
    each r h =
        let int = int_is (rowid r) (all_has _ rows r shaped.1 h) in
        let int' = int_is (rowid new_row) (and_parts _ _ keyed).0 in
        let other = all_has _ rows r (none_from_any (λ r. is_eq (value_cmp (rowid r) (rowid new_row))) rows free) h in
        let far : differ (rowid r) (rowid new_row) ≡ true =
        (λ i. differ (int i) (int' i)) ∙ differ_ints (id_in (rowid r)) (id_in (rowid new_row)) ∙ (λ i. not (is_eq (value_cmp (sym int i) (sym int' i)))) ∙ ap not other in
        is r ∙ first_false _ _ (all_has _ (db table.tree) r (none_from_any (clash index new_row) (db table.tree) apart) (there r (put_all_keeps (new_row ∷ news) rows r fresh h))) far
