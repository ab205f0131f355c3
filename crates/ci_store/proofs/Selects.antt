-- What a SELECT over one table shows of its records.
use Rattle.std.proofs.Common.{◌≡◌, ℕ, List, [], ◌∷◌, map, filter, Bool, true, false, refl, sym, ap, subst, ◌∙◌, IsPermutation}
use Rattle.std.proofs.lemmas.List.Sorted.{IsPermutation-sym, IsPermutation-trans}
use Rattle.ci_store.specs.Prelude.{Row, Term, eval_all, Table, Schema, Select, Database, Answers, Shown, ShowsRows, IsUnchanged, understood, reads_listing, Has, places, image}
use Rattle.ci_store.specs.Prelude.{Holds}
use Rattle.sqlite_value.specs.declared.keys.Key.{Key}
use Rattle.sqlite.specs.State.{State}
use Rattle.sqlite.specs.Clock.{timed}
use Rattle.sqlite.proofs.Callers.{IsPlain, command_of, reads_as}
use Rattle.sqlite_rules.proofs.ListLemmas.{all_from, has_kept}
use Rattle.ci_store.proofs.Writes.{perm_nil, map_nil}
use Rattle.sqlite_trees.proofs.ListLemmas.{IsPermutation-filter, filter-map, filter_same}
use Rattle.ci_store.proofs.Queries.{query, query_to, no_limit, picks, answered, shows}

-- what the text of a query of so many rows at most means, which `refl` finds
pub record MeansSelectTo (limit : Term) (schema : Schema) (table : Table) (text : List ℕ) (tests project : List Term) (order : List (Term × Key)) (names : List (List ℕ)) : Type 0 where
  pub is : command_of (understood schema text) ≡ Select (record { lets = []; body = query_to limit table.tree tests project order }) names
  pub unlisted : reads_listing schema text ≡ false
  pub plain : IsPlain (understood schema text)

-- the same of a query without a limit
abbrev pub MeansSelect : Schema → Table → List ℕ → List Term → List Term → List (Term × Key) → List (List ℕ) → Type 0
MeansSelect = MeansSelectTo no_limit

module _ (schema : Schema) (table : Table) (text : List ℕ) (tests project : List Term) (order : List (Term × Key)) (names : List (List ℕ)) (means : MeansSelect schema table text tests project order names)
    (key : Row) (test : Row → Bool) (tested : (r : Row) → picks tests key r ≡ test (image (places table) r)) (showed : (r : Row) → eval_all project (key ∷ r ∷ []) ≡ image (places table) r) where
  -- what the query answers of a database whose table has these records
  pub selects_of : (db : Database) (records rows : List Row) → Holds table records db.trees → Answers db (record { lets = []; body = query table.tree tests project order }) key rows
      → IsPermutation (filter test records) rows
  selects_of db records rows held read =
      let answer = shows table.tree tests project order db.trees key rows (answered db.schema db.trees table.tree tests project order key rows read) in
      let images : map (λ r. eval_all project (key ∷ r ∷ [])) (filter (picks tests key) (db.trees table.tree)) ≡ filter test (map (image (places table)) (db.trees table.tree)) =
      (λ i. map (λ r. showed r i) (filter (picks tests key) (db.trees table.tree)))
      ∙ ap (map (image (places table))) (filter_same _ _ (db.trees table.tree) (all_from _ (db.trees table.tree) (λ r _. tested r)))
      ∙ sym (filter-map test (image (places table)) (db.trees table.tree)) in
      IsPermutation-trans _ _ _ (IsPermutation-sym _ _ (IsPermutation-filter test _ _ held.same)) (subst (λ l. IsPermutation l rows) images answer)

  pub selects : (old new : State) (records rows : List Row) → old.now.schema ≡ schema → Holds table records old.now.trees → Shown text key old new rows
      → IsPermutation (filter test records) rows
  selects old new records rows has held shown = selects_of old.now records rows held (reads_as text key old new schema has _ means.is means.plain means.unlisted rows shown)

pub shown_same : (sql : List ℕ) (params : Row) (old new : State) (rows : List Row) → IsPlain (understood old.now.schema sql) → Shown sql params old new rows → IsUnchanged old new
unfolding Shown
shown_same sql params old new rows plain h =
    let none = (subst IsPlain h.1.is plain).0 in
    (subst (ShowsRows old new sql h.0 (timed params h.0.formats h.1.now) rows) none h.2).3

none_passes : (p : Row → Bool) (rows : List Row) → filter p rows ≡ [] → (r : Row) → Has rows r → p r ≡ false
none_passes p rows none r h = go (p r) refl
  where
    go : (b : Bool) → p r ≡ b → b ≡ false
    go false is = refl
    go true is = absurd (subst (λ l. Has l r) none (has_kept p rows r h is))

-- no row passes the tests of a query that shows none
pub shows_none : (schema : Schema) (table : Table) (text : List ℕ) (tests project : List Term) (order : List (Term × Key)) (names : List (List ℕ)) → MeansSelect schema table text tests project order names
    → (key : Row) (old new : State) → old.now.schema ≡ schema → Shown text key old new [] → (r : Row) → Has (old.now.trees table.tree) r → picks tests key r ≡ false
shows_none schema table text tests project order names means key old new has shown =
    let read = reads_as text key old new schema has _ means.is means.plain means.unlisted [] shown in
    let answer = shows table.tree tests project order old.now.trees key [] (answered old.now.schema old.now.trees table.tree tests project order key [] read) in
    none_passes (picks tests key) (old.now.trees table.tree) (map_nil (λ r. eval_all project (key ∷ r ∷ [])) _ (perm_nil _ answer))
