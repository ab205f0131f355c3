-- A table whose rows are those of records that are kept: what its queries show, and what is kept where a record is put.
use Rattle.ci_store.specs.Prelude.{Null, Integer, Row, column, Term, lit, col, Table, Has, Kept, IsAscending, equal, cast, cast_row, eval_all, value_rows, with_rowid, Chosen}
use Rattle.ci_store.specs.Prelude.{Ghosts, Held, state, HasPut, has_key, image, places, put, ascending, by_key, limited, Gt}
use Rattle.sqlite_value.specs.declared.keys.Key.{Key}
use Rattle.ci_store_rows.specs.Prelude.{LAST_INTEGER, the_schema, number, rows_of, Rises, IsRegular, Stands, Makes, ShowsRecords, FindsNumber, listed}
use Rattle.std.proofs.lemmas.List.Sorted.{IsPermutation-sym, IsPermutation-reverse, Contains-permutation}
use Rattle.ci_store_rows.proofs.Words.{Binary, ◌≡◌, ◌∙◌, ◌==◌, ◌&&◌, ℕ, ◌-◌, List, [], ◌∷◌, map, filter, find, reverse, take, drop, length, Bool, true, is_eq, Ordering, Less}
use Rattle.ci_store_rows.proofs.Words.{Equal, Option, Some, Result, OnOk, IsTrue, slice_get, nat_cmp, nat_lt, sym, ap, subst, inl, inr, AllByRecursion, range_with_len}
use Rattle.ci_store_rows.proofs.Words.{IsTotalOrder, ordering_then, ascending_weaker, ascending-filter, picks, no_limit, count_of, MeansSelectTo, MeansPut, GivesRecord}
use Rattle.ci_store_rows.proofs.Words.{absent_rowid, cast_int, on_ok, refl, pos, compares, all_of, ◌/◌, has_contained, contains_had, ◌/◌}
use Rattle.ci_store_rows.proofs.Lists.{put_rises, all_put}
use Rattle.ci_store_rows.proofs.OneList.{IsAlike}
use Rattle.ci_store_rows.proofs.Records.{is, above, put_stands, same_number, finds_number, finds_beyond, numbered}
use Rattle.ci_store_rows.proofs.Shows.{columns_of, names_of, by, backward, pair, shows_passing, shows_ordered, shows_backward, found_one, found_first, found_all, found_none}
use Rattle.ci_store_rows.proofs.Shows.{rising_number, falling_within, shows_sorted}

pub record Kind (A : Type 0) : Type 1 where
  pub at : ℕ
  pub table : Table
  pub there : slice_get the_schema.tables at ≡ Some table
  pub values : A → Row
  pub list : Kept → List A
  pub was : (k : Kept) → rows_of k table.tree ≡ map values (list k)
  pub is_row : Row → A → Type 0
  -- the row of a record that is kept is read as that record
  pub one : (k : Kept) → IsRegular k → (x y : A) → Has (list k) y → is_row (values y) x → x ≡ y
  pub showed : (key r : Row) → eval_all (columns_of table) (key ∷ r ∷ []) ≡ image (places table) r

-- where records with the same row are the same
abbrev pub exact : {A : Type 0} (at : ℕ) (table : Table) → slice_get the_schema.tables at ≡ Some table → (values : A → Row) (list : Kept → List A)
    → ((k : Kept) → rows_of k table.tree ≡ map values (list k))
    → ((key r : Row) → eval_all (columns_of table) (key ∷ r ∷ []) ≡ image (places table) r) → ((x y : A) → values x ≡ values y → x ≡ y) → Kind A
exact at table there values list was showed same =
    record {
      at = at;
      table = table;
      there = there;
      values = values;
      list = list;
      was = was;
      is_row = λ row x. row ≡ values x;
      one = λ k o x y _ is. sym (same y x is);
      showed =
          showed;
    }

-- what the text of a query of all columns means, of so many rows at most and of all
abbrev pub SelectsTo : Term → Table → List ℕ → List Term → List (Term × Key) → Type 0
SelectsTo limit table text tests order = MeansSelectTo limit the_schema table text tests (columns_of table) order (names_of table)

abbrev pub Selects : Table → List ℕ → List Term → List (Term × Key) → Type 0
Selects = SelectsTo no_limit

-- ---- what is kept with another list in place of the table's

-- the records have an order, and of each something holds besides
pub record Changing {A : Type 0} (kind : Kind A) (cmp : A → A → Ordering) (holding : List A → Kept → Kept) (Also : A → Type 0) : Type 0 where
  pub total : IsTotalOrder cmp
  pub now : (k : Kept) (xs : List A) → rows_of (holding xs k) kind.table.tree ≡ map kind.values xs
  pub alike : (k : Kept) (xs : List A) → IsAlike (rows_of k) (rows_of (holding xs k)) kind.table
  pub holds : (k : Kept) → IsRegular k → Rises cmp (kind.list k) × AllByRecursion Also (kind.list k)
  pub regular : (k : Kept) (xs : List A) → Rises cmp xs → AllByRecursion Also xs → IsRegular k → IsRegular (holding xs k)

-- where nothing holds besides
pub changes : {A : Type 0} {kind : Kind A} {cmp : A → A → Ordering} {holding : List A → Kept → Kept} → IsTotalOrder cmp
    → ((k : Kept) (xs : List A) → rows_of (holding xs k) kind.table.tree ≡ map kind.values xs)
    → ((k : Kept) (xs : List A) → IsAlike (rows_of k) (rows_of (holding xs k)) kind.table) → ((k : Kept) → IsRegular k → Rises cmp (kind.list k))
    → ((k : Kept) (xs : List A) → Rises cmp xs → IsRegular k → IsRegular (holding xs k)) → Changing kind cmp holding (λ x. Unit)
changes {kind = kind} total now alike rises regular =
    record { total = total; now = now; alike = alike; holds = λ k o. (rises k o, all_of (λ x. Unit) (λ x. tt) (kind.list k)); regular = λ k xs up all o. regular k xs up o }

-- a call that puts a row inside a transaction makes this change of what the tables keep
abbrev pub PutsRow : List ℕ → List ℕ → Row → (Kept → Kept) → Type 1
PutsRow update insert row change = (S C E : Type 0) (g : Ghosts S) (old new : Held S) (result : Result C E) (params : Row) → params ≡ row
    → OnOk result (IsTrue new.in_transaction × HasPut g update insert params old new) → OnOk result (Makes g change old new)

module _ {A : Type 0} (kind : Kind A) {cmp : A → A → Ordering} {holding : List A → Kept → Kept} {Also : A → Type 0} (changing : Changing kind cmp holding Also) where
  pub put_record : {update insert : List ℕ} {tests sets terms : List Term} → MeansPut the_schema kind.at kind.table update insert tests sets terms → (key : Row) (x : A)
      → GivesRecord the_schema kind.table tests sets terms key (kind.values x)
      → ((y : A) → has_key key (kind.values y) ≡ is_eq (cmp y x)) → Also x → PutsRow update insert (kind.values x) (λ k. holding (put cmp x (kind.list k)) k)
  put_record {update = update} {insert = insert} {tests = tests} {sets = sets} {terms = terms} means key x gives same_key also S C E g old new result params is =
      on_ok result (λ ran. (ran.0, λ k stands. go k stands (subst (λ row. HasPut g update insert row old new) is ran.1)))
    where
      go : (k : Kept) → Stands k (state g old).now → HasPut g update insert (kind.values x) old new → Stands (holding (put cmp x (kind.list k)) k) (state g new).now
      go k stands h =
          let o = stands.inside.regular in
          let held = changing.holds k o in
          put_stands kind.values (kind.list k) k (holding (put cmp x (kind.list k)) k) kind.table (kind.was k) (changing.alike k _)
          (changing.regular k _ (put_rises cmp changing.total x (kind.list k) held.0) (all_put cmp Also x (kind.list k) also held.1) o)
          kind.at update insert tests sets terms means cmp key x gives same_key (changing.now k _) g old new stands h

-- ---- a table whose key is the number of its records

-- what each of its texts makes of the values of a record
abbrev pub numbered_sets : Table → List Term
numbered_sets table = col 0 0 ∷ lit Null ∷ map (λ at. col 0 at) (range_with_len 1 (length table.columns - 1))

pub record Numbered {A : Type 0} (kind : Kind A) (id : A → ℕ) : Type 0 where
  pub first : (x : A) → column (kind.values x) 0 ≡ number (id x)
  pub place : (r : Row) → column (image (places kind.table) r) 0 ≡ column r 0
  pub keyed : (n : ℕ) (x : A) → has_key (number n ∷ []) (kind.values x) ≡ (equal Binary (number (id x)) (number n) && true)
  pub tested : (n : ℕ) (r : Row) → has_key (number n ∷ []) (image (places kind.table) r) ≡ (equal Binary (column r 0) (number n) && true)
  pub rises : (k : Kept) → IsRegular k → IsAscending (λ x y. nat_cmp (id x) (id y) ≡ Less) (kind.list k)

-- what the two queries mean that look for a number
pub record MeansNumbered (table : Table) (text over : List ℕ) : Type 0 where
  pub at_number : Selects table text (is 0 0 ∷ []) []
  pub over_it : Selects table over (above 0 0 ∷ []) []

-- the values of a row but its number, as the table keeps them
abbrev pub cells_of : Table → Row → Row
cells_of table row = drop 1 (cast_row table (eval_all (numbered_sets table) (row ∷ [])))

module _ {A : Type 0} (kind : Kind A) {id : A → ℕ} (numbers : Numbered kind id) (x : A) (made : (rows : List Row) → cast_row kind.table
    (eval_all (numbered_sets kind.table) (kind.values x ∷ rows)) ≡ cast Integer (number (id x)) ∷ cells_of kind.table (kind.values x))
    (source : value_rows (kind.values x) (length (numbered_sets kind.table)) (length (numbered_sets kind.table) / length (numbered_sets kind.table)) (numbered_sets kind.table)
    ≡ eval_all (numbered_sets kind.table) (kind.values x ∷ []) ∷ [])
    (shown : image (places kind.table) (number (id x) ∷ cells_of kind.table (kind.values x)) ≡ kind.values x) where
  compared : (r : Row) → picks (is 0 0 ∷ []) (kind.values x) r ≡ (equal Binary (column r 0) (number (id x)) && true)
  compared r = ap (λ v. equal Binary (column r 0) v && true) (numbers.first x)

  gives_numbered : GivesRecord the_schema kind.table (is 0 0 ∷ []) (numbered_sets kind.table) (numbered_sets kind.table) (number (id x) ∷ []) (kind.values x)
  gives_numbered = record {
    tested = λ r. compared r ∙ sym (numbers.tested (id x) r);
    updated = λ r. ap (image (places kind.table)) (made (r ∷ [])) ∙ ap (λ v. image (places kind.table) (v ∷ cells_of kind.table (kind.values x))) (cast_int (pos (id x))) ∙ shown;
    source = source;
    inserted = λ rows. ap (λ c. image (places kind.table) (with_rowid Chosen rows c)) (made []) ∙ ap (image (places kind.table)) (numbered rows (pos (id x)) _) ∙ shown;
    absent = λ rows new_row news db shaped is keyed fresh put sound.
        absent_rowid rows new_row news (pos (id x)) _ compared shaped (sym (numbers.place new_row) ∙ ap (λ image. column image 0) is ∙ numbers.first x) fresh;
  }

  pub put_numbered : {cmp : A → A → Ordering} {holding : List A → Kept → Kept} {Also : A → Type 0} (changing : Changing kind cmp holding Also)
      → ((y : A) → cmp y x ≡ nat_cmp (id y) (id x)) → {update insert : List ℕ}
      → MeansPut the_schema kind.at kind.table update insert (is 0 0 ∷ []) (numbered_sets kind.table) (numbered_sets kind.table)
      → Also x → PutsRow update insert (kind.values x) (λ k. holding (put cmp x (kind.list k)) k)
  put_numbered changing cmp_is means =
      put_record kind changing means (number (id x) ∷ []) x gives_numbered (λ y. numbers.keyed (id x) y ∙ same_number (id y) (id x) ∙ ap is_eq (sym (cmp_is y)))

-- ---- what a query shows

-- a row of which this is what it holds, as far as its columns go
abbrev pub back : Row → Row
back im = column im 0 ∷ im

module _ {S A : Type 0} (kind : Kind A) (g : Ghosts S) (old new : Held S) (k : Kept) (stands : Stands k (state g old).now) (text : List ℕ) (tests : List Term) (key : Row)
    (passes : A → Bool)
    (tested : (r : Row) → picks tests key r ≡ picks tests key (back (image (places kind.table) r))) (same : (x : A) → picks tests key (back (kind.values x)) ≡ passes x) where
  -- the one record that passes the tests
  pub one_found : Selects kind.table text tests [] → (found : Option A) → ShowsRecords kind.is_row g text key old new (listed found) → found ≡ find passes (kind.list k)
  one_found means found h =
      found_one kind.is_row kind.values passes (kind.list k) (kind.one k stands.inside.regular) h.rows
      (shows_passing kind.values kind.at kind.table kind.there text tests key (λ im. picks tests key (back im)) tested passes same k (kind.list k) (kind.was k) h.rows
      (kind.showed key) means (state g old) (state g new) stands h.shown)
      found h.read

-- ---- what a query shows in the order of the numbers, up or down

module _ {S A : Type 0} (kind : Kind A) {id : A → ℕ} (numbers : Numbered kind id) (g : Ghosts S) (old new : Held S) (k : Kept) (stands : Stands k (state g old).now) where
  -- the record with a number, which the first query looks for; no number is above the last one that the second looks from
  pub numbered_found : (text over : List ℕ) → MeansNumbered kind.table text over → (n : ℕ) (found : Option A) → FindsNumber kind.is_row g text over n old new found
      → found ≡ find (λ x. id x == n) (kind.list k)
  numbered_found text over means n found (inl h) =
      one_found kind g old new k stands text (is 0 0 ∷ []) (number n ∷ []) (λ x. id x == n) (λ r. ap (λ v. equal Binary v (number n) && true) (sym (numbers.place r)))
      (λ x. ap (λ v. equal Binary v (number n) && true) (numbers.first x) ∙ finds_number (id x) n) means.at_number found h
  numbered_found text over means n found (inr h) =
      h.0
      ∙ sym (found_none id LAST_INTEGER n h.1 kind.is_row kind.values (kind.list k) h.2.rows
      (shows_passing kind.values kind.at kind.table kind.there over (above 0 0 ∷ []) (number LAST_INTEGER ∷ []) (λ im. compares Gt (column im 0) (number LAST_INTEGER) && true)
      (λ r. ap (λ v. compares Gt v (number LAST_INTEGER) && true) (sym (numbers.place r)))
      (λ x. nat_lt LAST_INTEGER (id x)) (λ x. ap (λ v. compares Gt v (number LAST_INTEGER) && true) (numbers.first x) ∙ finds_beyond LAST_INTEGER (id x)) k (kind.list k)
      (kind.was k) h.2.rows
      (kind.showed (number LAST_INTEGER ∷ [])) means.over_it (state g old) (state g new) stands h.2.shown)
      h.2.read)

module _ {S A : Type 0} (kind : Kind A) {id : A → ℕ} (numbers : Numbered kind id) (g : Ghosts S) (old new : Held S) (k : Kept) (stands : Stands k (state g old).now)
    (text : List ℕ) (tests : List Term) (key : Row) (passes : A → Bool)
    (tested : (r : Row) → picks tests key r ≡ picks tests key (back (image (places kind.table) r))) (same : (x : A) → picks tests key (back (kind.values x)) ≡ passes x) where
  rising : (x y : A) → nat_cmp (id x) (id y) ≡ Less → ordering_then (by_key (ascending Binary) (column (kind.values x) 0) (column (kind.values y) 0)) Equal ≡ Less
  rising x y low = (λ i. ordering_then (by_key (ascending Binary) (numbers.first x i) (numbers.first y i)) Equal) ∙ rising_number (id x) (id y) low

  up : IsAscending (λ x y. ordering_then (by_key (ascending Binary) (column (kind.values x) 0) (column (kind.values y) 0)) Equal ≡ Less) (filter passes (kind.list k))
  up = ascending_weaker _ _ rising (filter passes (kind.list k)) (ascending-filter _ passes (kind.list k) (numbers.rises k stands.inside.regular))

  -- all that pass
  pub all_numbered : Selects kind.table text tests (by 0) → (found : List A) → ShowsRecords kind.is_row g text key old new found → found ≡ filter passes (kind.list k)
  all_numbered means found h =
      found_all kind.is_row kind.values passes (kind.list k) (kind.one k stands.inside.regular) h.rows
      (shows_sorted kind.values kind.at kind.table kind.there text tests key (λ im. picks tests key (back im)) tested passes same k (kind.list k) (kind.was k) h.rows 0 0
      (λ r i. (sym (numbers.place r) i ∷ [], kind.showed key r i)) means up (state g old) (state g new) stands h.shown)
      found h.read

  -- the first so many
  pub first_numbered : (limit : Term) (n : ℕ) → count_of limit key ≡ Some n → SelectsTo limit kind.table text tests (by 0) → (found : List A)
      → ShowsRecords kind.is_row g text key old new found → found ≡ take n (filter passes (kind.list k))
  first_numbered limit n count means found h =
      found_first kind.is_row kind.values passes (kind.list k) (kind.one k stands.inside.regular) n h.rows
      (shows_ordered kind.values kind.at kind.table kind.there text tests key (λ im. picks tests key (back im)) tested passes same k (kind.list k) (kind.was k) h.rows
      limit (by 0) (pair 0) (λ im. refl) (λ r i. (sym (numbers.place r) i ∷ [], kind.showed key r i)) means up (state g old) (state g new) stands h.shown
      ∙ ap (λ c. limited c (map kind.values (filter passes (kind.list k)))) count)
      found h.read

  -- the last so many
  pub last_numbered : (limit : Term) (n : ℕ) → count_of limit key ≡ Some n → SelectsTo limit kind.table text tests (backward 0) → (found : List A)
      → ShowsRecords kind.is_row g text key old new found
      → found ≡ take n (filter passes (reverse (kind.list k)))
  last_numbered limit n count means found h =
      let turned = IsPermutation-sym _ _ (IsPermutation-reverse (kind.list k)) in
      let falls = falling_within id passes (kind.list k) (ascending-filter _ passes (kind.list k) (numbers.rises k stands.inside.regular)) in
      found_first kind.is_row kind.values passes (reverse (kind.list k))
      (λ x y has. kind.one k stands.inside.regular x y (has_contained (kind.list k) y (Contains-permutation _ _ y turned (contains_had (reverse (kind.list k)) y has)))) n h.rows
      (shows_backward kind.values kind.at kind.table kind.there text tests key (λ im. picks tests key (back im)) tested passes same k (kind.list k) (kind.was k) h.rows
      limit 0 0 (λ r i. (sym (numbers.place r) i ∷ [], kind.showed key r i)) means (ascending_weaker _ _
      (λ x y low. (λ i. ordering_then (by_key (record { collation = Binary; descending = true }) (numbers.first x i) (numbers.first y i)) Equal) ∙ low) _ falls)
      (state g old) (state g new) stands h.shown
      ∙ ap (λ c. limited c (map kind.values (filter passes (reverse (kind.list k))))) count)
      found h.read
