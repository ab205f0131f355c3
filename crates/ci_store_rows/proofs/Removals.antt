-- The removal of a row that rows of other tables may refer to.
use Rattle.ci_store.proofs.Childless.{IsChildless, LacksChild, cascade, lone, whole_if_childless}
use Rattle.ci_store.specs.Prelude.{plain, Row, column, Term, Table, Trees, Database, Shown, Ghosts, Held, state, understood, Enforced, Has, Work, works, pairs, loses, IsShaped}
use Rattle.ci_store.specs.Prelude.{Kept, indexed, without_record, Key, IndexChange}
use Rattle.ci_store_rows.specs.Prelude.{the_schema, number, Stands, in_state, Makes, ShowsNone, RemovesUnreferred}
use Rattle.sqlite_value.specs.declared.keys.Key.{Key as Order}
use Rattle.sqlite_trees.specs.declared.store.Shape.TheVariants as shape
use Rattle.ci_store_rows.proofs.Words.{◌≡◌, ◌≢◌, ℕ, pos, List, [], ◌∷◌, ◌++◌, map, filter, not, is_eq, Bool, true, false, ◌&&◌, cond, Some, None, Result, OnOk, IsTrue}
use Rattle.ci_store_rows.proofs.Words.{slice_get, refl, sym, ap, subst, ◌∙◌, inl, inr, nat_cmp, AllByRecursion, list_any, cons_option, IsPlain, all_has, has_got, on_ok}
use Rattle.ci_store_rows.proofs.Words.{IsWholeStep, MeansPut, MeansRemove, MeansSelect, shows_none, shown_same, ascending-filter, all-filter, Ordering}
use Rattle.ci_store_rows.proofs.Records.{is, same_number, remove_stands}
use Rattle.ci_store_rows.proofs.Shows.{held as table_held}
use Rattle.ci_store_rows.proofs.Tables.{Kind, Changing, Numbered, numbered_sets}

-- a table with a column that refers to another's number, and a query of the rows that refer to one
pub record Referring : Type 0 where
  pub child : Table
  pub at : ℕ
  pub there : slice_get the_schema.tables at ≡ Some child
  pub place : ℕ
  pub text : List ℕ
  pub columns : List Term
  pub order : List (Term × Order)
  pub names : List (List ℕ)
  pub means : MeansSelect the_schema child text (is place 0 ∷ []) columns order names

abbrev pub queries : List Referring → List (List ℕ)
queries rs = map (λ r. r.text) rs

-- ---- what the queries show

just : (b : Bool) → (b && true) ≡ false → b ≡ false
just true h = absurd cc
just false h = refl

-- no row of these tables refers to the number
abbrev pub LacksEach : List Referring → ℕ → Trees → Type 0
LacksEach rs n db = AllByRecursion (λ r. LacksChild r.child r.place (pos n) db) rs

module _ {S : Type 0} (g : Ghosts S) (k : Kept) (n : ℕ) where
  unchanged_by_one : (r : Referring) (old new : Held S) → Stands k (state g old).now → Shown r.text (number n ∷ []) (state g old) (state g new) [] → (state g old).now ≡ (state g new).now
  unchanged_by_one r old new stands h = sym (shown_same r.text (number n ∷ []) (state g old) (state g new) [] (subst (λ schema. IsPlain (understood schema r.text)) (sym stands.listed) r.means.plain) h).0.now_is

  -- queries that show no row change nothing
  pub unchanged_by : (mid : Held S) (rs : List Referring) (old : Held S) → Stands k (state g old).now → ShowsNone g (queries rs) (number n ∷ []) old mid → (state g old).now ≡ (state g mid).now
  unchanged_by mid [] old stands none = ap (λ h. (state g h).now) none
  unchanged_by mid (r ∷ rs) old stands none =
      let still = unchanged_by_one r old none.0 stands none.1 in
      still ∙ unchanged_by mid rs none.0 (subst (Stands k) still stands) none.2

  pub lacks_each : (mid : Held S) (rs : List Referring) (old : Held S) → Stands k (state g old).now → ShowsNone g (queries rs) (number n ∷ []) old mid → LacksEach rs n (state g mid).now.trees
  lacks_each mid [] old stands none = tt
  lacks_each mid (r ∷ rs) old stands none =
      let still = unchanged_by_one r old none.0 stands none.1 in
      let lacks : LacksChild r.child r.place (pos n) (state g old).now.trees =
      λ row there. just _ (shows_none the_schema r.child r.text (is r.place 0 ∷ []) r.columns r.order r.names r.means (number n ∷ []) (state g old) (state g none.0) stands.listed none.1 row there) in
      (subst (λ (db : Database). LacksChild r.child r.place (pos n) db.trees) (still ∙ unchanged_by mid rs none.0 (subst (Stands k) still stands) none.2) lacks, lacks_each mid rs none.0 (subst (Stands k) still stands) none.2)

-- ---- what a removal sets off

-- the works that cascade to the tables, where a row is removed
abbrev pub cascades : Bool → List Referring → List ℕ → List Row → List Work
cascades b [] parent olds = []
cascades b (r ∷ rs) parent olds = cons_option (cond b (Some (cascade r.child r.place parent olds)) None) [] ++ cascades b rs parent olds

-- what the removal of a row of the table sets off, where these tables refer to it
abbrev pub SetsOff : Table → List Referring → Type 0
SetsOff table rs = (olds : List Row) → works the_schema Enforced 0 table.tree olds [] ≡ cascades (list_any (loses plain (0 ∷ [])) (pairs olds [])) rs table.name olds

-- what the texts mean that change a table whose key is a number
pub record MeansChanges (at : ℕ) (table : Table) (rs : List Referring) (update insert delete : List ℕ) : Type 0 where
  pub puts : MeansPut the_schema at table update insert (is 0 0 ∷ []) (numbered_sets table) (numbered_sets table)
  pub removes : MeansRemove the_schema at table delete (is 0 0 ∷ [])
  pub sets_off : SetsOff table rs

-- the works of one table that refers twice are those of each
pub twice : (b : Bool) (one other : Work) (more : List Work) → cons_option (cond b (Some one) None) (cons_option (cond b (Some other) None) []) ++ more ≡ cons_option (cond b (Some one) None) [] ++ (cons_option (cond b (Some other) None) [] ++ more)
twice true one other more = refl
twice false one other more = refl

-- a table that the step leaves
lacks_still : (table child : Table) (place n : ℕ) (db mid : Trees) → Has the_schema.tables child → child.tree ≢ table.tree → LacksChild child place (pos n) db → AllByRecursion (λ t. t.tree ≢ table.tree → mid t.tree ≡ db t.tree) the_schema.tables
    → LacksChild child place (pos n) mid
lacks_still table child place n db mid listed other lacks others r there = lacks r (subst (λ l. Has l r) (all_has (λ (t : Table). t.tree ≢ table.tree → mid t.tree ≡ db t.tree) the_schema.tables child others listed other) there)

module _ (table : Table) (parent : List ℕ) (n : ℕ) (db mid : Trees) (olds : List Row) (are : (old : Row) → Has olds old → column old 0 ≡ number n)
    (others : AllByRecursion (λ t. t.tree ≢ table.tree → mid t.tree ≡ db t.tree) the_schema.tables) where
  each_childless : (b : Bool) (rs : List Referring) → AllByRecursion (λ r. r.child.tree ≢ table.tree) rs → LacksEach rs n db → (w : Work) → Has (cascades b rs parent olds) w → IsChildless mid w
  each_childless b [] apart lacks w h = absurd h
  each_childless true (r ∷ rs) apart lacks w (inl same) =
      subst (IsChildless mid) (sym same) (lone r.child r.place parent olds (pos n) mid are (lacks_still table r.child r.place n db mid (has_got the_schema.tables r.at r.child r.there) apart.0 lacks.0 others))
  each_childless true (r ∷ rs) apart lacks w (inr h) = each_childless true rs apart.1 lacks.1 w h
  each_childless false (r ∷ rs) apart lacks w h = each_childless false rs apart.1 lacks.1 w h

-- the removal by a number, where no row refers to it, is a step of its own
whole_if_unreferred : (table : Table) (rs : List Referring) → SetsOff table rs → AllByRecursion (λ r. r.child.tree ≢ table.tree) rs → (n : ℕ) (db : Trees) → IsShaped shape.Table (db table.tree) → LacksEach rs n db → IsWholeStep the_schema table (is 0 0 ∷ []) (number n ∷ []) db
whole_if_unreferred table rs sets_off apart n db shaped lacks =
    whole_if_childless the_schema table (is 0 0 ∷ []) (number n ∷ []) (pos n) db (λ r. refl) shaped
    (λ olds mid are others w h. each_childless table table.name n db mid olds are others (list_any (loses plain (0 ∷ [])) (pairs olds [])) rs apart lacks w (subst (λ l. Has l w) (sets_off olds) h))

-- ---- from the tables' steps to the state's

module _ {S : Type 0} (g : Ghosts S) (old new : Held S) where
  -- the removal of a record by its number
  pub removed_numbered : {A : Type 0} (kind : Kind A) {id_of : A → ℕ} (numbers : Numbered kind id_of) {cmp : A → A → Ordering} {holding : List A → Kept → Kept} {Also : A → Type 0} (changing : Changing kind cmp holding Also) (rs : List Referring) {update insert delete : List ℕ} → MeansChanges kind.at kind.table rs update insert delete
      → AllByRecursion (λ r. r.child.tree ≢ kind.table.tree) rs → (id : ℕ) (k : Kept) → Stands k (state g old).now → RemovesUnreferred g (queries rs) delete (number id ∷ []) old new
      → Stands (holding (filter (λ x. not (is_eq (nat_cmp (id_of x) id))) (kind.list k)) k) (state g new).now
  removed_numbered kind {id_of} numbers {holding = holding} changing rs {delete = delete} means apart id k stands h =
      let o = stands.inside.regular in
      let held = changing.holds k o in
      let stands' = subst (Stands k) (unchanged_by g k id h.mid rs old stands h.none) stands in
      let whole = whole_if_unreferred kind.table rs means.sets_off apart id (state g h.mid).now.trees (table_held k (state g h.mid).now stands' kind.at kind.table kind.there).shaped (lacks_each g k id h.mid rs old stands h.none) in
      remove_stands kind.values (kind.list k) k (holding (filter (λ x. not (is_eq (nat_cmp (id_of x) id))) (kind.list k)) k) kind.table (kind.was k) (changing.alike k _)
      (changing.regular k _ (ascending-filter _ _ (kind.list k) held.0) (all-filter _ _ (kind.list k) held.1) o) kind.at delete (is 0 0 ∷ []) means.removes (number id ∷ []) (λ r. sym (numbers.tested id r))
      (λ x. is_eq (nat_cmp (id_of x) id)) (λ x. numbers.keyed id x ∙ same_number (id_of x) id) (changing.now k _) g h.mid new h.count stands' whole h.removed

  -- the same removal by values that are the same
  pub by_key : {A E : Type 0} (result : Result A E) (texts : List (List ℕ)) (delete : List ℕ) {params row : Row} → params ≡ row → OnOk result (IsTrue new.in_transaction × RemovesUnreferred g texts delete params old new)
      → OnOk result (IsTrue new.in_transaction × RemovesUnreferred g texts delete row old new)
  by_key result texts delete same h = subst (λ row. OnOk result (IsTrue new.in_transaction × RemovesUnreferred g texts delete row old new)) same h

  -- a removal by the values of a key
  pub removed_by : {A E : Type 0} {other key : Key} → other ≡ key → (result : Result A E) (texts : List (List ℕ)) (delete : List ℕ) {params row : Row} → params ≡ row
      → ((k : Kept) → Stands k (state g old).now → RemovesUnreferred g texts delete row old new → Stands (in_state (without_record key) k) (state g new).now)
      → OnOk result (IsTrue new.in_transaction × RemovesUnreferred g texts delete params old new) → OnOk result (Makes g (in_state (without_record other)) old new)
  removed_by same result texts delete same_key removes h =
      on_ok result
      (λ ran. (ran.0, λ k stands. subst (λ key. Stands (in_state (without_record key) k) (state g new).now) (sym same) (removes k stands (subst (λ row. RemovesUnreferred g texts delete row old new) same_key ran.1)))) h

  -- a removal that a change of the indexes asks for
  pub removed_indexed : {A E : Type 0} {other change : IndexChange} → other ≡ change → (result : Result A E) (texts : List (List ℕ)) (delete : List ℕ) {row : Row}
      → ((k : Kept) → Stands k (state g old).now → RemovesUnreferred g texts delete row old new → Stands (indexed change k) (state g new).now)
      → OnOk result (IsTrue new.in_transaction × RemovesUnreferred g texts delete row old new) → OnOk result (Makes g (indexed other) old new)
  removed_indexed same result texts delete removes h =
      on_ok result (λ ran. (ran.0, λ k stands. subst (λ change. Stands (indexed change k) (state g new).now) (sym same) (removes k stands ran.1))) h

-- one query more shows no row
pub one_more : {S : Type 0} (g : Ghosts S) (mid new : Held S) {X : Type 0} (text : X → List ℕ) (key : Row) (xs : List X) (x : X) (first : Held S) → ShowsNone g (map text xs) key first mid → Shown (text x) key (state g mid) (state g new) [] → ShowsNone g (map text (xs ++ x ∷ [])) key first new
one_more g mid new text key [] x first same h = (new, subst (λ o. Shown (text x) key (state g o) (state g new) []) (sym same) h, refl)
one_more g mid new text key (y ∷ xs) x first all h = (all.0, all.1, one_more g mid new text key xs x all.0 all.2 h)
