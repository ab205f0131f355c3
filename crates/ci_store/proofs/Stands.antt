-- How the records follow the writes.
use Rattle.std.proofs.Common.{◌≡◌, ◌≢◌, inl, inr, ℕ, ◌==◌, List, [], ◌∷◌, map, filter, Bool, true, false, not, sym, ap, subst, ◌∙◌, IsPermutation, eqb, eqb-true, eq-eqb}
use Rattle.std.specs.List.{AllByRecursion}
use Rattle.std.proofs.lemmas.Bool.{and_parts, cases_Bool, eqb-false, not-true}
use Rattle.std.proofs.lemmas.List.Sorted.{IsPermutation-map, IsPermutation-sym, IsPermutation-cons, IsPermutation-trans}
use Rattle.ci_store.specs.Prelude.{Row, Table, Schema, Trees, Database, Has, is_taken, are_fresh, have_rowids, IsShaped, places, image, has_key, without, Holds, HoldsAll, are_apart}
use Rattle.sqlite.specs.Tree.{put_row}
use Rattle.sqlite_rules.proofs.ListLemmas.{all_has, all_from, test_has}
use Rattle.sqlite_trees.specs.declared.store.Shape.TheVariants as shape
use Rattle.sqlite_trees.proofs.TreeLemmas.{IsShaped-filter, IsShaped-put_row}
use Rattle.sqlite_trees.proofs.ListLemmas.{IsPermutation-filter, filter-map, filter_same}
use Rattle.ci_store.proofs.Rows.{put_free}
use Rattle.ci_store.proofs.Writes.{Sets}

-- ---- one table

-- the rows that lack the key are the records without it
pub images_without : (at : List ℕ) (key : Row) (p : Row → Bool) (rows records : List Row) → ((r : Row) → p r ≡ has_key key (image at r)) → IsPermutation (map (image at) rows) records
    → IsPermutation (map (image at) (filter (λ r. not (p r)) rows)) (without key records)
images_without at key p rows records tests same =
    let moved : filter (λ r. not (has_key key r)) (map (image at) rows) ≡ map (image at) (filter (λ r. not (p r)) rows) =
    filter-map (λ r. not (has_key key r)) (image at) rows ∙ ap (map (image at)) (filter_same _ _ rows (all_from _ rows (λ r _. ap not (sym (tests r))))) in
    subst (λ l. IsPermutation l (without key records)) moved (IsPermutation-filter (λ r. not (has_key key r)) _ _ same)

pub removed : (table : Table) (key : Row) (p : Row → Bool) (records : List Row) (old new : Trees) → ((r : Row) → p r ≡ has_key key (image (places table) r)) → Holds table records old
    → new table.tree ≡ filter (λ r. not (p r)) (old table.tree) → Holds table (without key records) new
removed table key p records old new tests held is =
    record {
      shaped = subst (IsShaped shape.Table) (sym is) (IsShaped-filter shape.Table _ _ held.shaped);
      same = subst (λ rows. IsPermutation (map (image (places table)) rows) (without key records)) (sym is) (images_without (places table) key p (old table.tree) records tests held.same);
    }

pub one_more : (at : List ℕ) (new_row : Row) (rows records : List Row) → IsPermutation (map (image at) rows) records → is_taken rows new_row ≡ false → IsPermutation (map (image at) (put_row new_row rows)) (image at new_row ∷ records)
one_more at new_row rows records same free = IsPermutation-trans _ _ _ (IsPermutation-sym _ _ (IsPermutation-map (image at) _ _ (put_free new_row rows free))) (IsPermutation-cons _ _ _ same)

pub added : (table : Table) (new_row : Row) (rows records : List Row) (new : Trees) → IsShaped shape.Table rows → IsPermutation (map (image (places table)) rows) records
    → are_fresh rows (new_row ∷ []) ≡ true → have_rowids (new_row ∷ []) ≡ true → new table.tree ≡ put_row new_row rows → Holds table (image (places table) new_row ∷ records) new
added table new_row rows records new shaped same fresh keyed is =
    record {
      shaped = subst (IsShaped shape.Table) (sym is) (IsShaped-put_row new_row rows (and_parts _ _ keyed).0 shaped);
      same = subst (λ rows. IsPermutation (map (image (places table)) rows) (image (places table) new_row ∷ records)) (sym is) (one_more (places table) new_row rows records same (not-true _ (and_parts _ _ fresh).0));
    }

-- ---- each table

differ : (t u : Table) → not (t.tree == u.tree) ≡ true → t.tree ≡ u.tree → ⊥
differ t u other same = absurd (let a = not-true _ other in let b = eq-eqb t.tree u.tree same in cc)

same_tree : (tables : List Table) (s t : Table) → are_apart tables ≡ true → Has tables s → Has tables t → s.tree ≡ t.tree → s ≡ t
same_tree [] s t apart hs ht same = absurd hs
same_tree (u ∷ tables) s t apart (inl is) (inl it) same = is ∙ sym it
same_tree (u ∷ tables) s t apart (inl is) (inr ht) same =
    absurd (differ t u (test_has _ tables t (and_parts _ _ apart).0 ht) (sym same ∙ ap (λ (t : Table). t.tree) is))
same_tree (u ∷ tables) s t apart (inr hs) (inl it) same =
    absurd (differ s u (test_has _ tables s (and_parts _ _ apart).0 hs) (same ∙ ap (λ (t : Table). t.tree) it))
same_tree (u ∷ tables) s t apart (inr hs) (inr ht) same = same_tree tables s t (and_parts _ _ apart).1 hs ht same

pub follows : (schema : Schema) (table : Table) (f g : ℕ → List Row) (rows : List Row) (old new : Database) → are_apart schema.tables ≡ true → Has schema.tables table → Sets schema table.tree rows old new
    → AllByRecursion (λ t. t.tree ≢ table.tree → g t.tree ≡ f t.tree) schema.tables → HoldsAll schema f old.trees → Holds table (g table.tree) new.trees → HoldsAll schema g new.trees
follows schema table f g rows old new apart there sets alike held own = all_from _ schema.tables each
  where
    kept : (t : Table) → Has schema.tables t → t.tree ≢ table.tree → Holds t (g t.tree) new.trees
    kept t h ne =
        let was : Holds t (f t.tree) old.trees = all_has _ schema.tables t held h in
        let is = all_has _ schema.tables t sets.others h ne in
        record {
          shaped = subst (IsShaped shape.Table) (sym is) was.shaped;
          same = subst (λ rows. IsPermutation (map (image (places t)) rows) (g t.tree)) (sym is) (subst (IsPermutation _) (sym (all_has _ schema.tables t alike h ne)) was.same);
        }

    each : (t : Table) → Has schema.tables t → Holds t (g t.tree) new.trees
    each t h = elim (cases_Bool (eqb t.tree table.tree)) [
      | inl e ↦ subst (λ t. Holds t (g t.tree) new.trees) (sym (same_tree schema.tables t table apart h there (eqb-true _ _ e))) own
      | inr e ↦ kept t h (eqb-false _ _ e)
    ]
