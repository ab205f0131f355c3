-- Rows that are put, and one that is removed, in any table.
use Rattle.std.proofs.Common.{◌≡◌, ◌≢◌, inl, inr, ℕ, ◌/◌, List, [], ◌∷◌, map, drop, filter, length, Bool, true, false, not, cond, Some, Ok, slice_get, refl, sym, ap, subst, IsPermutation}
use Rattle.std.specs.List.{AllByRecursion}
use Rattle.std.proofs.lemmas.Bool.{and_parts, not-true}
use Rattle.std.proofs.lemmas.List.Sorted.{IsPermutation-trans}
use Rattle.ci_store.specs.Prelude.{Row, Term, col, eval_all, Table, Schema, Values, Insert, Update, Delete, Chosen, Trees, with_rowid, cast_row, value_rows, IsDatabase, IsSound}
use Rattle.ci_store.specs.Prelude.{Executes, Ghosts, Held, state, understood, works, Enforced, Has, are_fresh, have_rowids, IsShaped, places, image, has_key, without, Holds, IsOf}
use Rattle.ci_store.specs.Prelude.{are_apart, HasPut}
use Rattle.sqlite.specs.Tree.{put_row}
use Rattle.sqlite.specs.State.{State}
use Rattle.sqlite_rules.specs.Edit.{numbered, put_all}
use Rattle.sqlite_rules.proofs.ListLemmas.{all_has, all_from, has_got}
use Rattle.sqlite_trees.specs.declared.store.Shape.TheVariants as shape
use Rattle.sqlite_trees.proofs.TreeLemmas.{IsShaped-filter, IsShaped-put_row}
use Rattle.sqlite.proofs.Callers.{IsPlain, command_of, statement_of, runs_as}
use Rattle.ci_store.proofs.Queries.{picks}
use Rattle.ci_store.proofs.Writes.{Sets, program, IsWholeStep, deletes, updates, inserts}
use Rattle.ci_store.proofs.Stands.{images_without, removed, one_more, added, follows}

pub other_order : (table : Table) (xs ys : List Row) (db : Trees) → IsPermutation xs ys → Holds table xs db → Holds table ys db
other_order table xs ys db moved held = record { shaped = held.shaped; same = IsPermutation-trans _ _ _ held.same moved }

-- what the texts of a table mean, which `refl` finds
pub record MeansPut (schema : Schema) (at : ℕ) (table : Table) (update insert : List ℕ) (tests sets terms : List Term) : Type 0 where
  pub there : slice_get schema.tables at ≡ Some table
  pub apart : are_apart schema.tables ≡ true
  pub update_is : command_of (understood schema update) ≡ Update at (program table.tree tests (col 1 0 ∷ sets))
  pub update_plain : IsPlain (understood schema update)
  pub insert_is : command_of (understood schema insert) ≡ Insert at (Values terms (length terms))
  pub insert_plain : IsPlain (understood schema insert)
  pub uncounted : table.is_counted ≡ false
  pub unstamped : table.stamps.terms ≡ []
  pub idle : works schema Enforced 0 table.tree [] [] ≡ []
  pub alone : (olds : List Row) (a : Row) → works schema Enforced 0 table.tree olds (a ∷ []) ≡ []

-- what they do with the values of a record
pub record GivesRecord (schema : Schema) (table : Table) (tests sets terms : List Term) (key params : Row) : Type 0 where
  pub tested : (r : Row) → picks tests params r ≡ has_key key (image (places table) r)
  pub updated : (r : Row) → image (places table) (cast_row table (eval_all sets (params ∷ r ∷ []))) ≡ params
  pub source : value_rows params (length terms) (length terms / length terms) terms ≡ eval_all terms (params ∷ []) ∷ []
  pub inserted : (rows : List Row) → image (places table) (with_rowid Chosen rows (cast_row table (eval_all terms (params ∷ [])))) ≡ params
  -- the insert is taken only where no row has the key
  pub absent : (rows : List Row) (new_row : Row) (news : List Row) (db : Trees) → IsShaped shape.Table rows → image (places table) new_row ≡ params → have_rowids (new_row ∷ news) ≡ true → are_fresh rows (new_row ∷ news) ≡ true → db table.tree ≡ put_all rows (new_row ∷ news) → IsSound schema db
      → filter (picks tests params) rows ≡ []

rest_is : (p : Row → Bool) (rows : List Row) → filter p rows ≡ [] → filter (λ r. not (p r)) rows ≡ rows
rest_is p [] h = refl
rest_is p (r ∷ rows) h = go (p r) h (rest_is p rows)
  where
    go : (b : Bool) → cond b (r ∷ filter p rows) (filter p rows) ≡ [] → (filter p rows ≡ [] → filter (λ r. not (p r)) rows ≡ rows) → cond (not b) (r ∷ filter (λ r. not (p r)) rows) (filter (λ r. not (p r)) rows) ≡ r ∷ rows
    go true h more = cc
    go false h more = ap (λ l. r ∷ l) (more h)

-- the values of rows, each with its key, are put one after the other
abbrev pub put_each : List (Row × Row) → List Row → List Row
put_each [] records = records
put_each (n ∷ news) records = put_each news (n.1 ∷ without n.0 records)

-- the source of a row with these values
abbrev pub source : List Term → Row × Row → Row
source terms n = eval_all terms (n.1 ∷ [])

-- the rows that are added to others
abbrev pub new_rows : Table → List Term → List Row → List (Row × Row) → List Row
new_rows table terms rows news = numbered Chosen rows (map (λ s. cast_row table (drop 0 s)) (map (source terms) news))

-- what a text means that inserts rows
pub record MeansInsert (schema : Schema) (at : ℕ) (text : List ℕ) (terms : List Term) (width : ℕ) : Type 0 where
  pub is : command_of (understood schema text) ≡ Insert at (Values terms width)
  pub plain : IsPlain (understood schema text)

module _ (schema : Schema) (at : ℕ) (table : Table) (update insert : List ℕ) (tests sets terms : List Term) (means : MeansPut schema at table update insert tests sets terms) where
  abbrev Gives : Row × Row → Type 0
  Gives n = GivesRecord schema table tests sets terms n.0 n.1

  all_held : (db : Trees) → IsSound schema db → (news : List (Row × Row)) → AllByRecursion Gives news → (rows records : List Row) → IsShaped shape.Table rows → IsPermutation (map (image (places table)) rows) records
      → have_rowids (new_rows table terms rows news) ≡ true → are_fresh rows (new_rows table terms rows news) ≡ true → db table.tree ≡ put_all rows (new_rows table terms rows news) → Holds table (put_each news records) db
  all_held db sound [] gives rows records shaped same keyed fresh is =
      record { shaped = subst (IsShaped shape.Table) (sym is) shaped; same = subst (λ l. IsPermutation (map (image (places table)) l) records) (sym is) same }
  all_held db sound (n ∷ news) gives rows records shaped same keyed fresh is =
      let new_row = with_rowid Chosen rows (cast_row table (source terms n)) in
      let shown = gives.0.inserted rows in
      let none = gives.0.absent rows new_row (new_rows table terms (put_row new_row rows) news) db shaped shown keyed fresh is sound in
      let others : IsPermutation (map (image (places table)) rows) (without n.0 records) =
      subst (λ l. IsPermutation (map (image (places table)) l) (without n.0 records)) (rest_is _ _ none) (images_without (places table) n.0 (picks tests n.1) _ _ gives.0.tested same) in
      let with_it : IsPermutation (map (image (places table)) (put_row new_row rows)) (n.1 ∷ without n.0 records) =
      subst (λ v. IsPermutation (map (image (places table)) (put_row new_row rows)) (v ∷ without n.0 records)) shown (one_more (places table) new_row rows _ others (not-true _ (and_parts _ _ fresh).0)) in
      all_held db sound news gives.1 (put_row new_row rows) _ (IsShaped-put_row new_row rows (and_parts _ _ keyed).0 shaped) with_it (and_parts _ _ keyed).1 (and_parts _ _ fresh).1 is

  pub inserts_several : {text : List ℕ} {all : List Term} {width : ℕ} → MeansInsert schema at text all width → (news : List (Row × Row)) → AllByRecursion Gives news
      → (params : Row) → value_rows params width (length all / width) all ≡ map (source terms) news → ((rows : List Row) → works schema Enforced 0 table.tree [] (new_rows table terms rows news) ≡ [])
      → (f g : ℕ → List Row) → AllByRecursion (λ t. t.tree ≢ table.tree → g t.tree ≡ f t.tree) schema.tables → IsPermutation (put_each news (f table.tree)) (g table.tree)
      → (old new : State) (count : ℕ) → IsOf schema f old.now → Executes text params old new (Ok count) → IsOf schema g new.now
  inserts_several {text = text} {all = all} {width = width} inserting news gives params given idle f g alike put old new count stands h =
      let rows = old.now.trees table.tree in
      let here = has_got schema.tables at table means.there in
      let was = all_has _ schema.tables table stands.inside.holds here in
      let ran = runs_as text params old new schema stands.listed (Insert at (Values all width)) inserting.is inserting.plain count h in
      let made = inserts schema at table means.there old new stands.listed params count (statement_of text (understood schema text)) all width (map (source terms) news) ran means.uncounted means.unstamped given (idle rows) in
      let sound = subst (λ s. IsSound s new.now.trees) made.goal.listed ran.sound in
      let own = other_order table _ _ new.now.trees put (all_held new.now.trees sound news gives rows (f table.tree) was.shaped was.same made.keyed made.fresh made.goal.is) in
      record { listed = made.goal.listed; inside = record { sound = sound; holds = follows schema table f g _ old.now new.now means.apart here made.goal alike stands.inside.holds own } }

module _ (schema : Schema) (at : ℕ) (table : Table) (update insert : List ℕ) (tests sets terms : List Term) (means : MeansPut schema at table update insert tests sets terms)
    (key params : Row) (gives : GivesRecord schema table tests sets terms key params) (f g : ℕ → List Row) (alike : AllByRecursion (λ t. t.tree ≢ table.tree → g t.tree ≡ f t.tree) schema.tables)
    (put : IsPermutation (params ∷ without key (f table.tree)) (g table.tree)) where
  here : Has schema.tables table
  here = has_got schema.tables at table means.there

  abbrev Stands : (ℕ → List Row) → State → Type 0
  Stands f s = IsOf schema f s.now

  held : (f : ℕ → List Row) (s : State) → Stands f s → Holds table (f table.tree) s.now.trees
  held f s stands = all_has _ schema.tables table stands.inside.holds here

  abbrev changed_row : Row → Row
  changed_row r = cast_row table (eval_all sets (params ∷ r ∷ []))

  from_one : (old new : State) (r : Row) → Stands f old → IsDatabase new.now
      → Sets schema table.tree (put_row (changed_row r) (filter (λ r. not (picks tests params r)) (old.now.trees table.tree))) old.now new.now
      → are_fresh (filter (λ r. not (picks tests params r)) (old.now.trees table.tree)) (changed_row r ∷ []) ≡ true → have_rowids (changed_row r ∷ []) ≡ true → Stands g new
  from_one old new r stands sound sets_to fresh keyed =
      let was = held f old stands in
      let rest = filter (λ r. not (picks tests params r)) (old.now.trees table.tree) in
      let own = added table (changed_row r) rest (without key (f table.tree)) new.now.trees (IsShaped-filter shape.Table _ _ was.shaped) (images_without (places table) key (picks tests params) _ _ gives.tested was.same) fresh keyed sets_to.is in
      let same = other_order table _ _ new.now.trees put (subst (λ x. Holds table (x ∷ without key (f table.tree)) new.now.trees) (gives.updated r) own) in
      record {
        listed = sets_to.listed;
        inside = record { sound = subst (λ s. IsSound s new.now.trees) sets_to.listed sound; holds = follows schema table f g _ old.now new.now means.apart here sets_to alike stands.inside.holds same };
      }

  -- a step that leaves the rows of the table
  from_same : (old new : State) → Stands f old → IsDatabase new.now → Sets schema table.tree (old.now.trees table.tree) old.now new.now → Stands f new
  from_same old new stands sound kept =
      let was = held f old stands in
      let still : Holds table (f table.tree) new.now.trees = record {
        shaped = subst (IsShaped shape.Table) (sym kept.is) was.shaped;
        same = subst (λ l. IsPermutation (map (image (places table)) l) (f table.tree)) (sym kept.is) was.same;
      } in
      record {
        listed = kept.listed;
        inside = record { sound = subst (λ s. IsSound s new.now.trees) kept.listed sound; holds = follows schema table f f _ old.now new.now means.apart here kept (all_from _ schema.tables (λ t _ _. refl)) stands.inside.holds still };
      }

  pub updates_none : (old new : State) → Stands f old → Executes update params old new (Ok 0) → Stands f new
  updates_none old new stands h =
      let ran = runs_as update params old new schema stands.listed (Update at (program table.tree tests (col 1 0 ∷ sets))) means.update_is means.update_plain 0 h in
      let up = updates schema at table means.there old new stands.listed params 0 (statement_of update (understood schema update)) tests sets ran means.idle means.alone (held f old stands).shaped in
      from_same old new stands ran.sound (up.none refl).1

  pub updates_one : (old new : State) → Stands f old → Executes update params old new (Ok 1) → Stands g new
  updates_one old new stands h =
      let ran = runs_as update params old new schema stands.listed (Update at (program table.tree tests (col 1 0 ∷ sets))) means.update_is means.update_plain 1 h in
      let up = updates schema at table means.there old new stands.listed params 1 (statement_of update (understood schema update)) tests sets ran means.idle means.alone (held f old stands).shaped in
      let it = up.one refl in
      from_one old new it.0 stands ran.sound it.2.0 it.2.1 it.2.2

  pub inserts_one : (old new : State) (count : ℕ) → Stands f old → Executes insert params old new (Ok count) → Stands g new
  inserts_one old new count stands h =
      inserts_several schema at table update insert tests sets terms means (record { is = means.insert_is; plain = means.insert_plain }) ((key, params) ∷ []) (gives, tt) params gives.source (λ rows. means.alone [] (with_rowid Chosen rows (cast_row table (eval_all terms (params ∷ []))))) f g alike put old new count stands h

  pub puts : {S : Type 0} (ghosts : Ghosts S) (before after : Held S) → Stands f (state ghosts before) → HasPut ghosts update insert params before after → Stands g (state ghosts after)
  puts ghosts before after stands (inl one) = updates_one (state ghosts before) (state ghosts after) stands one
  puts ghosts before after stands (inr two) =
      let mid : Stands f (state ghosts two.0) = elim two.1 [
        | inl same ↦ subst (λ h. Stands f (state ghosts h)) (sym same) stands
        | inr none ↦ updates_none (state ghosts before) (state ghosts two.0) stands none
      ] in
      inserts_one (state ghosts two.0) (state ghosts after) two.2 mid two.3

-- what the text that removes a row means
pub record MeansRemove (schema : Schema) (at : ℕ) (table : Table) (delete : List ℕ) (tests : List Term) : Type 0 where
  pub there : slice_get schema.tables at ≡ Some table
  pub apart : are_apart schema.tables ≡ true
  pub delete_is : command_of (understood schema delete) ≡ Delete at (program table.tree tests (col 1 0 ∷ []))
  pub delete_plain : IsPlain (understood schema delete)

module _ (schema : Schema) (at : ℕ) (table : Table) (delete : List ℕ) (tests : List Term) (means : MeansRemove schema at table delete tests) (key : Row) (f g : ℕ → List Row)
    (tested : (r : Row) → picks tests key r ≡ has_key key (image (places table) r)) (alike : AllByRecursion (λ t. t.tree ≢ table.tree → g t.tree ≡ f t.tree) schema.tables)
    (gone : IsPermutation (without key (f table.tree)) (g table.tree)) where
  pub removes : (old new : State) (count : ℕ) → IsOf schema f old.now → IsWholeStep schema table tests key old.now.trees → Executes delete key old new (Ok count) → IsOf schema g new.now
  removes old new count stands whole h =
      let there = has_got schema.tables at table means.there in
      let was = all_has _ schema.tables table stands.inside.holds there in
      let ran = runs_as delete key old new schema stands.listed (Delete at (program table.tree tests (col 1 0 ∷ []))) means.delete_is means.delete_plain count h in
      let sets_to = deletes schema at table means.there old new stands.listed key count (statement_of delete (understood schema delete)) tests ran whole was.shaped in
      let own = other_order table _ _ new.now.trees gone (removed table key (picks tests key) (f table.tree) old.now.trees new.now.trees tested was sets_to.is) in
      record {
        listed = sets_to.listed;
        inside = record { sound = subst (λ s. IsSound s new.now.trees) sets_to.listed ran.sound; holds = follows schema table f g _ old.now new.now means.apart there sets_to alike stands.inside.holds own };
      }
