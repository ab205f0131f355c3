-- SELECT of rows in the order of the key.
use Rattle.std.proofs.Common.{◌≡◌, ℕ, List, [], ◌∷◌, map, filter, Bool, refl, sym, ap, subst, ◌∙◌, IsPermutation, Less}
use Rattle.std.specs.Cmp.{IsTotalOrder}
use Rattle.std.proofs.lemmas.List.Sorted.{IsPermutation-map, IsPermutation-sym, IsPermutation-trans}
use Rattle.ci_store.specs.Prelude.{Row, Term, Output, output, output_cmp, limited, Table, Schema, Shown, IsAscending, places, image, Holds}
use Rattle.sqlite_value.specs.declared.keys.Key.{Key}
use Rattle.sqlite.specs.State.{State}
use Rattle.sqlite.proofs.Callers.{reads_as}
use Rattle.sqlite_keyed.proofs.SortLemmas.{sorted_unique}
use Rattle.sqlite_rules.proofs.ListLemmas.{all_from}
use Rattle.sqlite_trees.proofs.ListLemmas.{IsPermutation-filter, filter-map, filter_same}
use Rattle.ci_store.proofs.Queries.{query, picks, count_of, answered_to, map_map}
use Rattle.ci_store.proofs.Selects.{MeansSelectTo}

module _ (limit : Term) (schema : Schema) (table : Table) (text : List ℕ) (tests shown : List Term) (order : List (Term × Key)) (names : List (List ℕ)) (means : MeansSelectTo limit schema table text tests shown order names)
    (key : Row) (test : Row → Bool) (tested : (r : Row) → picks tests key r ≡ test (image (places table) r))
    (pair : Row → Output) (paired : (r : Row) → output (query table.tree tests shown order) (key ∷ r ∷ []) ≡ pair (image (places table) r)) (second : (im : Row) → (pair im).1 ≡ im)
    (total : IsTotalOrder (output_cmp (query table.tree tests shown order))) where
  -- the rows that pass, in their order, and of them the first ones that the limit lets through
  pub selects_sorted : (old new : State) (records rows : List Row) → old.now.schema ≡ schema → Holds table records old.now.trees → Shown text key old new rows
      → IsAscending (λ a b. output_cmp (query table.tree tests shown order) a b ≡ Less) (map pair (filter test records)) → rows ≡ limited (count_of limit key) (filter test records)
  selects_sorted old new records rows has held h strict =
      let read = reads_as text key old new schema has _ means.is means.plain means.unlisted rows h in
      let a = answered_to limit old.now.schema old.now.trees table.tree tests shown order key rows read in
      let tree = old.now.trees table.tree in
      let images : map (image (places table)) (filter (picks tests key) tree) ≡ filter test (map (image (places table)) tree) =
      ap (map (image (places table))) (filter_same _ _ tree (all_from _ tree (λ r _. tested r))) ∙ sym (filter-map test (image (places table)) tree) in
      let outputs : map (λ r. output (query table.tree tests shown order) (key ∷ r ∷ [])) (filter (picks tests key) tree) ≡ map pair (filter test (map (image (places table)) tree)) =
      (λ i. map (λ r. paired r i) (filter (picks tests key) tree)) ∙ sym (map_map pair (image (places table)) (filter (picks tests key) tree)) ∙ ap (map pair) images in
      let same : IsPermutation (map pair (filter test records)) a.ordered =
      IsPermutation-trans _ _ _ (IsPermutation-sym _ _ (IsPermutation-map pair _ _ (IsPermutation-filter test _ _ held.same))) (subst (λ l. IsPermutation l a.ordered) outputs a.same) in
      let is : a.ordered ≡ map pair (filter test records) = sorted_unique _ total (map pair (filter test records)) a.ordered strict same a.sorted in
      let seen : map (λ (o : Output). o.1) a.ordered ≡ filter test records =
      ap (map (λ (o : Output). o.1)) is ∙ map_map (λ (o : Output). o.1) pair (filter test records) ∙ (λ i. map (λ im. second im i) (filter test records)) ∙ itself (filter test records) in
      a.shown ∙ ap (limited (count_of limit key)) seen
    where
      itself : (xs : List Row) → map (λ x. x) xs ≡ xs
      itself [] = refl
      itself (x ∷ xs) = ap (λ l. x ∷ l) (itself xs)
