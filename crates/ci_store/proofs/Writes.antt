-- What DELETE, UPDATE and INSERT make of one table.
use Rattle.std.proofs.Common.{◌≡◌, ◌≢◌, ◌⊎◌, inl, inr, ℕ, ℤ, List, [], ◌∷◌, map, drop, filter, length, ◌/◌, ◌-◌, ◌++◌, append-nil, MatchBool, arith, Bool, true, false, not, cond, Option, Some, None, Ok, Err, Result, slice_get, unwrap_or, refl, sym, ap, subst, ◌∙◌, IsPermutation}
use Rattle.std.specs.List.{AllByRecursion}
use Rattle.std.proofs.lemmas.List.Sorted.{IsPermutation-map, IsPermutation-sym, length_permutation}
use Rattle.ci_store.specs.Prelude.{Row, Term, col, eval_all, Table, Schema, Values, Insert, Update, Delete, Chosen, Above, Given, Trees, Database, value_rows, Tally, Does, AtPlace}
use Rattle.ci_store.specs.Prelude.{OnRows, Part, Written, Task, stamped, mode_of, Edit, edit_of, edited, taken_by, left_by, Program, Error, cast_row, Applies}
use Rattle.ci_store.specs.Prelude.{are_fresh, have_rowids, works, ids_of, Enforced, IsShaped}
use Rattle.sqlite.specs.Command.{Command}
use Rattle.sqlite.specs.Tree.{rowid, put_row}
use Rattle.sqlite.specs.State.{State, Writes}
use Rattle.sqlite.specs.Edit.{id_in, put_all}
use Rattle.sqlite_rules.specs.Action.{Writes as Makes}
use Rattle.sqlite_trees.specs.declared.store.Shape.TheVariants as shape
use Rattle.sqlite.proofs.Callers.{one_step, one_permutation}
use Rattle.ci_store.proofs.Queries.{query, picks, Answered, answered, shows, map_map}
use Rattle.ci_store.proofs.Rows.{ids, left}

-- a part that gave a value did not stop on the way
went : {B E R : Type 0} {b : B} {Stops : E → Type 0} → ((stop : E) × Stops stop × (Ok b ≡ Err stop)) ⊎ R → R
went (inl stopped) = absurd (let e = stopped.2 in cc)
went (inr on) = on

same_value : {B E : Type 0} {a b : B} → ◌≡◌ {A = Result B E} (Ok a) (Ok b) → a ≡ b
same_value e = cc

-- the tree has these rows, and each other table those that it had
pub record Sets (schema : Schema) (tree : ℕ) (rows : List Row) (old new : Database) : Type 0 where
  pub listed : new.schema ≡ schema
  pub is : new.trees tree ≡ rows
  pub others : AllByRecursion (λ t. t.tree ≢ tree → new.trees t.tree ≡ old.trees t.tree) schema.tables

uncounted_is : (P Q : Type 0) (b c : Bool) → b ≡ false → MatchBool (cond b c false) P Q → Q
uncounted_is P Q true c is h = cc
uncounted_is P Q false c is h = h

pub perm_nil : {X : Type 0} (xs : List X) → IsPermutation xs [] → xs ≡ []
perm_nil [] h = refl
perm_nil (x ∷ xs) h = absurd (omega (arith, length_permutation (x ∷ xs) [] h))

pub map_nil : {A B : Type 0} (f : A → B) (xs : List A) → map f xs ≡ [] → xs ≡ []
map_nil f [] h = refl
map_nil f (x ∷ xs) h = cc

pub map_one : {A B : Type 0} (f : A → B) (xs : List A) (b : B) → map f xs ≡ b ∷ [] → (a : A) × (xs ≡ a ∷ []) × (b ≡ f a)
map_one f [] b h = cc
map_one f (x ∷ []) b h = (x, refl, cc)
map_one f (x ∷ y ∷ xs) b h = cc

-- no foreign key acts on a step that takes rows out of the table
abbrev pub IsActedOnByNone : Schema → ℕ → List Row → Type 0
IsActedOnByNone schema tree news = (olds : List Row) → works schema Enforced 0 tree olds news ≡ []

abbrev pub program : ℕ → List Term → List Term → Program
program tree tests project = record { lets = []; body = query tree tests project [] }

-- the rowids that an answer begins with are those of the rows that pass
gone_same : (tree : ℕ) (tests more : List Term) (db : Trees) (params : Row) (rows : List Row) → Answered tree tests (col 1 0 ∷ more) [] db params rows
    → IsPermutation (ids (filter (picks tests params) (db tree))) (ids_of rows)
gone_same tree tests more db params rows a =
    subst (λ l. IsPermutation l (ids_of rows)) (map_map (λ r. id_in (rowid r)) (λ r. eval_all (col 1 0 ∷ more) (params ∷ r ∷ [])) _)
    (IsPermutation-map (λ r. id_in (rowid r)) _ _ (shows tree tests (col 1 0 ∷ more) [] db params rows a))

-- a step that takes out the rows that pass the tests is the whole of its write
abbrev pub IsWholeStep : Schema → Table → List Term → Row → Trees → Type 0
IsWholeStep schema table tests params db =
    (rows : List Row) (next : Trees) → IsPermutation (ids (filter (picks tests params) (db table.tree))) (ids_of rows)
    → Makes schema Enforced db (edit_of db table (ids_of rows) Given 0 []) (Ok next) → Applies schema Enforced db (edit_of db table (ids_of rows) Given 0 []) next

pub whole_if_alone : (schema : Schema) (table : Table) (tests : List Term) (params : Row) (db : Trees) → IsActedOnByNone schema table.tree [] → IsWholeStep schema table tests params db
whole_if_alone schema table tests params db alone rows next same made = one_step schema Enforced db next (edit_of db table (ids_of rows) Given 0 []) (alone (taken_by db (edit_of db table (ids_of rows) Given 0 []))) made

module _ (schema : Schema) (at : ℕ) (table : Table) (there : slice_get schema.tables at ≡ Some table) (old new : State) (has : old.now.schema ≡ schema) (params : Row) (count : ℕ) (text : List ℕ) where
  abbrev task : Task
  task = record { limit = old.step_limit; keys = Enforced; schema = schema; table = table; params = params }

  abbrev DoesTo : Command → Part (Tally × Database)
  DoesTo command = OnRows task (mode_of old) None command old.now.trees

  -- each of the three goes to the rows of its table
  on_rows : (command : Command) (out : Result (Tally × Database) (Option Error)) → AtPlace (λ (table : Table). OnRows (record { limit = old.step_limit; keys = Enforced; schema = schema; table = table; params = params }) (mode_of old) None command old.now.trees) (slice_get schema.tables at) out
      → DoesTo command out
  on_rows command out h = subst (λ o. AtPlace (λ (table : Table). OnRows (record { limit = old.step_limit; keys = Enforced; schema = schema; table = table; params = params }) (mode_of old) None command old.now.trees) o out) there h

  abbrev Goal : List Row → Type 0
  Goal rows = Sets schema table.tree rows old.now new.now

  sets : (edit : Edit) (next : Trees) (rows : List Row) → edit.table ≡ table → Applies schema Enforced old.now.trees edit next → edited old.now.trees edit ≡ rows → new.now ≡ record { schema = schema; trees = next } → Goal rows
  sets edit next rows same step made now =
      let tree : edit.table.tree ≡ table.tree = ap (λ (t : Table). t.tree) same in
      let it : Sets schema table.tree rows old.now (record { schema = schema; trees = next }) = record {
        listed = refl;
        is = subst (λ t. next t ≡ edited old.now.trees edit) tree step.rows ∙ made;
        others = subst (λ n. AllByRecursion (λ t. t.tree ≢ n → next t.tree ≡ old.now.trees t.tree) schema.tables) tree step.tables;
      } in
      subst (Sets schema table.tree rows old.now) (sym now) it

  pub deletes : (tests : List Term) → Writes old new None (Delete at (program table.tree tests (col 1 0 ∷ []))) text params count
      → IsWholeStep schema table tests params old.now.trees → IsShaped shape.Table (old.now.trees table.tree)
      → Goal (filter (λ r. not (picks tests params r)) (old.now.trees table.tree))
  deletes tests w whole shaped =
      let db = old.now.trees in
      let q : Program = program table.tree tests (col 1 0 ∷ []) in
      let ran : DoesTo (Delete at q) (Ok (w.tally, new.now)) = on_rows (Delete at q) _ (subst (λ s. Does old.step_limit (mode_of old) params (record old.now { schema = s }) text None (Delete at q) (Ok (w.tally, new.now))) has w.changed) in
      let done = went ran in
      let now = ap (λ (p : Tally × Database). p.1) (same_value (went (went done.2).2).2) in
      let asked = went done.1 in
      let rows = asked.0 in
      let made = went asked.2 in
      let trees : done.0.trees ≡ made.0 = ap (λ (it : Written). it.trees) (same_value made.2) in
      let edit = edit_of db table (ids_of rows) Given 0 [] in
      let answer = answered schema db table.tree tests (col 1 0 ∷ []) [] params rows asked.1 in
      let gone = gone_same table.tree tests [] db params rows answer in
      let step : Applies schema Enforced db edit made.0 = whole rows made.0 gone made.1 in
      sets edit made.0 _ refl step (left _ _ _ shaped gone) (now ∙ ap (λ (t : Trees). record { schema = schema; trees = t }) trees)

  -- what an UPDATE makes, by how many rows it changed
  pub record Updated (tests project : List Term) : Type 0 where
    pub none : count ≡ 0 → (filter (picks tests params) (old.now.trees table.tree) ≡ []) × Goal (old.now.trees table.tree)
    pub one : count ≡ 1 → (r : Row) × (filter (picks tests params) (old.now.trees table.tree) ≡ r ∷ [])
        × (let new_row = cast_row table (eval_all project (params ∷ r ∷ [])) in
        Goal (put_row new_row (filter (λ r. not (picks tests params r)) (old.now.trees table.tree)))
        × (are_fresh (filter (λ r. not (picks tests params r)) (old.now.trees table.tree)) (new_row ∷ []) ≡ true)
        × (have_rowids (new_row ∷ []) ≡ true))

  updated_from : (tests project : List Term) (rows : List Row) (next : Trees) → Answered table.tree tests (col 1 0 ∷ project) [] old.now.trees params rows
      → Makes schema Enforced old.now.trees (edit_of old.now.trees table (ids_of rows) Given 1 rows) (Ok next) → new.now ≡ record { schema = schema; trees = next }
      → count ≡ length (edit_of old.now.trees table (ids_of rows) Given 1 rows).news → works schema Enforced 0 table.tree [] [] ≡ []
      → ((olds : List Row) (a : Row) → works schema Enforced 0 table.tree olds (a ∷ []) ≡ []) → IsShaped shape.Table (old.now.trees table.tree) → Updated tests project
  updated_from tests project [] next answer made now counted idle alone shaped =
      let db = old.now.trees in
      let edit = edit_of db table [] Given 1 [] in
      let step : Applies schema Enforced db edit next = one_step schema Enforced db next edit idle made in
      record {
        none = λ _. (map_nil _ _ (perm_nil _ (shows table.tree tests (col 1 0 ∷ project) [] db params [] answer)), sets edit next _ refl step refl now);
        one = λ is. absurd (omega (arith, is, counted));
      }
  updated_from tests project (a ∷ []) next answer made now counted idle alone shaped =
      let db = old.now.trees in
      let edit = edit_of db table (ids_of (a ∷ [])) Given 1 (a ∷ []) in
      let step : Applies schema Enforced db edit next = one_step schema Enforced db next edit (alone (taken_by db edit) _) made in
      let found = map_one _ _ _ (one_permutation a _ (IsPermutation-sym _ _ (shows table.tree tests (col 1 0 ∷ project) [] db params (a ∷ []) answer))) in
      let rest : left_by db edit ≡ filter (λ r. not (picks tests params r)) (db table.tree) = left _ _ _ shaped (gone_same table.tree tests project db params (a ∷ []) answer) in
      let is : cast_row table (drop 1 a) ≡ cast_row table (eval_all project (params ∷ found.0 ∷ [])) = ap (λ x. cast_row table (drop 1 x)) found.2 in
      record {
        none = λ is. absurd (omega (arith, is, counted));
        one = λ _. (found.0, found.1, (sets edit next _ refl step (λ i. put_row (is i) (rest i)) now, subst (λ x. are_fresh (filter (λ r. not (picks tests params r)) (db table.tree)) (x ∷ []) ≡ true) is (subst (λ l. are_fresh l (cast_row table (drop 1 a) ∷ []) ≡ true) rest step.fresh), subst (λ x. have_rowids (x ∷ []) ≡ true) is step.keyed));
      }
  updated_from tests project (a ∷ b ∷ rows) next answer made now counted idle alone shaped =
      record { none = λ is. absurd (omega (arith, is, counted)); one = λ is. absurd (omega (arith, is, counted)) }

  pub updates : (tests project : List Term) → Writes old new None (Update at (program table.tree tests (col 1 0 ∷ project))) text params count
      → works schema Enforced 0 table.tree [] [] ≡ [] → ((olds : List Row) (a : Row) → works schema Enforced 0 table.tree olds (a ∷ []) ≡ []) → IsShaped shape.Table (old.now.trees table.tree)
      → Updated tests project
  updates tests project w idle alone shaped =
      let db = old.now.trees in
      let q : Program = program table.tree tests (col 1 0 ∷ project) in
      let ran : DoesTo (Update at q) (Ok (w.tally, new.now)) = on_rows (Update at q) _ (subst (λ s. Does old.step_limit (mode_of old) params (record old.now { schema = s }) text None (Update at q) (Ok (w.tally, new.now))) has w.changed) in
      let done = went ran in
      let ended = same_value (went (went done.2).2).2 in
      let asked = went done.1 in
      let made = went asked.2 in
      let it : done.0 ≡ record { trees = made.0; rows = (edit_of db table (ids_of asked.0) Given 1 asked.0).news; last = None } = same_value made.2 in
      updated_from tests project asked.0 made.0 (answered schema db table.tree tests (col 1 0 ∷ project) [] params asked.0 asked.1) made.1
      (ap (λ (p : Tally × Database). p.1) ended ∙ ap (λ (it : Written). record { schema = schema; trees = it.trees }) it)
      (w.counted ∙ ap (λ (p : Tally × Database). unwrap_or p.0.rows 0) ended ∙ ap (λ (it : Written). length it.rows) it) idle alone shaped

  chosen : (b : Bool) → b ≡ false → (db : Trees) (top : ℤ) (rows : List Row) (next : Trees) → Makes schema Enforced db (edit_of db table [] (cond b (Above top) Chosen) 0 rows) (Ok next)
      → Makes schema Enforced db (edit_of db table [] Chosen 0 rows) (Ok next)
  chosen true is db top rows next h = cc
  chosen false is db top rows next h = h

  -- the rows that an INSERT adds
  abbrev pub news : List Row → List Row
  news sources = (edit_of old.now.trees table [] Chosen 0 sources).news

  -- what an INSERT makes
  pub record Inserted (sources : List Row) : Type 0 where
    pub goal : Goal (put_all (old.now.trees table.tree) (news sources))
    pub fresh : are_fresh (old.now.trees table.tree) (news sources) ≡ true
    pub keyed : have_rowids (news sources) ≡ true

  pub inserts : (terms : List Term) (width : ℕ) (sources : List Row) → Writes old new None (Insert at (Values terms width)) text params count → table.is_counted ≡ false → table.stamps.terms ≡ []
      → value_rows params width (length terms / width) terms ≡ sources → works schema Enforced 0 table.tree [] (news sources) ≡ [] → Inserted sources
  inserts terms width sources w uncounted unstamped given idle =
      let db = old.now.trees in
      let c : Command = Insert at (Values terms width) in
      let ran : DoesTo c (Ok (w.tally, new.now)) = on_rows c _ (subst (λ s. Does old.step_limit (mode_of old) params (record old.now { schema = s }) text None c (Ok (w.tally, new.now))) has w.changed) in
      let done = went ran in
      let ended = same_value (went (went done.2).2).2 in
      let sourced = went done.1 in
      let rows = sourced.0 in
      let counter = went sourced.2 in
      let counted = went counter.2 in
      let next = went counted.2 in
      let mid : Trees = counted.0 in
      let same : next.0 ≡ mid = same_value (uncounted_is _ _ table.is_counted _ uncounted next.1) in
      let stamps : stamped table params ≡ params = ap (λ (t : List Term). params ++ eval_all t (drop (length params - length table.stamps.formats) params ∷ [])) unstamped ∙ append-nil params in
      let is : rows ≡ sources = sourced.1.1 ∙ ap (λ p. value_rows p width (length terms / width) terms) stamps ∙ given in
      let made = chosen table.is_counted uncounted db _ rows mid counted.1 in
      let put = subst (λ rows. Makes schema Enforced db (edit_of db table [] Chosen 0 rows) (Ok mid)) is made in
      let edit = edit_of db table [] Chosen 0 sources in
      let step : Applies schema Enforced db edit mid = one_step schema Enforced db mid edit idle put in
      let last : done.0.trees ≡ next.0 = ap (λ (it : Written). it.trees) (same_value next.2) in
      let now : new.now ≡ record { schema = schema; trees = mid } = ap (λ (p : Tally × Database). p.1) ended ∙ ap (λ (t : Trees). record { schema = schema; trees = t }) (last ∙ same) in
      record { goal = sets edit mid _ refl step refl now; fresh = step.fresh; keyed = step.keyed }
