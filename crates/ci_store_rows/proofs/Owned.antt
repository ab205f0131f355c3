-- A table whose key is the number of an owner and the second column, which may be a name.
use Rattle.ci_store.specs.Prelude.{Value, Null, Text, plain, equal, agree, Row, column, Term, lit, col, Table, output, output_cmp, Ghosts, Held, state, Kept, has_key, image}
use Rattle.ci_store.specs.Prelude.{places, is_null, cast, Integer, eval_all, cast_row, value_rows, with_rowid, Chosen, Index, guards}
use Rattle.ci_store_rows.specs.Prelude.{the_schema, number, rows_of, Rises, IsRegular, Stands, IsAt, ShowsRecords, RemovesUnreferred}
use Rattle.ci_store_rows.proofs.Words.{◌≡◌, ◌∙◌, ◌==◌, ℕ, List, [], ◌∷◌, map, filter, Bool, true, ◌&&◌, not, is_eq, Ordering, Less, Some, slice_get, sym, subst}
use Rattle.ci_store_rows.proofs.Words.{nat_cmp, ordering_then, slice_cmp, Binary, first_key-plain, filter_same, query, picks, IsActedOnByNone, whole_if_alone, MeansRemove}
use Rattle.ci_store_rows.proofs.Words.{MeansSelect, equal_int, equal_text, ap, drop, ascending-filter, has_got, GivesRecord, absent_unique, length, all-filter, ◌/◌, ◌/◌}
use Rattle.ci_store_rows.proofs.OneList.{IsAlike}
use Rattle.ci_store_rows.proofs.Records.{is, is_number, both_equal, remove_stands, unnumbered}
use Rattle.ci_store_rows.proofs.Shows.{columns_of, names_of, by, pair, shows_sorted, found_all, rise_within}
use Rattle.ci_store_rows.proofs.Tables.{Kind, Changing}

abbrev pub tests : List Term
tests = is 1 0 ∷ is 2 1 ∷ []

-- the terms of a table of three columns
abbrev pub three : List Term
three = col 0 0 ∷ col 0 1 ∷ col 0 2 ∷ []

-- the key whose second column is a name
abbrev pub named : ℕ → List ℕ → Row
named owner name = number owner ∷ Text name ∷ []

-- what tests for such a key say of a record with an owner and a name
pub same_named : (owner : ℕ) (name : List ℕ) (n : ℕ) (text : List ℕ)
    → (equal Binary (number n) (number owner) && (equal Binary (Text text) (Text name) && true)) ≡ is_eq (ordering_then (nat_cmp n owner) (slice_cmp nat_cmp text name))
same_named owner name n text = (λ i. equal_int n owner i && (equal_text text name i && true)) ∙ both_equal (nat_cmp n owner) (slice_cmp nat_cmp text name)

-- rows agree on the key where both columns are equal
pub agrees : (r new_row : Row) (x y : Value) (rest others : Row) → column new_row 1 ∷ column new_row 2 ∷ others ≡ x ∷ y ∷ rest
    → (equal Binary (column r 1) x && (equal Binary (column r 2) y && true)) ≡ agree plain (1 ∷ 2 ∷ []) r (1 ∷ 2 ∷ []) new_row
agrees r new_row x y rest others is =
    sym (λ i. equal (first_key-plain i).collation (column r 1) (column (is i) 0) && (equal (first_key-plain i).collation (column r 2) (column (is i) 1) && true))

-- the values of a row as the table keeps them
abbrev pub cells_of : Table → List Term → Row → Row
cells_of table cols row = drop 1 (cast_row table (eval_all (lit Null ∷ cols) (row ∷ [])))

-- what the texts do with the values of a row, which sets the columns to these terms
pub gives_keyed : (at : ℕ) (table : Table) → slice_get the_schema.tables at ≡ Some table → (place : ℕ) (index : Index) → slice_get the_schema.indexes place ≡ Some index
    → guards index table ≡ true → (cols : List Term) (key params : Row)
    → ((r : Row) → picks tests params r ≡ has_key key (image (places table) r))
    → ((r new_row : Row) → image (places table) new_row ≡ params → picks tests params r ≡ agree index.order index.columns r index.columns new_row)
    → ((r : Row) → cast_row table (eval_all (col 1 0 ∷ cols) (params ∷ r ∷ [])) ≡ column (cast_row table (eval_all (col 1 0 ∷ cols) (params ∷ r ∷ []))) 0 ∷ cells_of table cols params)
    → cast_row table (eval_all (lit Null ∷ cols) (params ∷ [])) ≡ cast Integer Null ∷ cells_of table cols params
    → value_rows params (length (lit Null ∷ cols)) (length (lit Null ∷ cols) / length (lit Null ∷ cols)) (lit Null ∷ cols) ≡ eval_all (lit Null ∷ cols) (params ∷ []) ∷ []
    → ((v : Value) → image (places table) (v ∷ cells_of table cols params) ≡ params) → GivesRecord the_schema table tests (col 1 0 ∷ cols) (lit Null ∷ cols) key params
gives_keyed at table there place index indexed guarded cols key params tested agreed kept made source shown = record {
  tested = tested;
  updated = λ r. ap (image (places table)) (kept r) ∙ shown _;
  source = source;
  inserted = λ rows. ap (λ c. image (places table) (with_rowid Chosen rows c)) made ∙ unnumbered (is_null (cast Integer Null)) _ _ (cells_of table cols params) params (image (places table)) shown;
  absent = λ rows new_row news db shaped is keyed fresh put sound.
      absent_unique the_schema table index (has_got the_schema.tables at table there) (has_got the_schema.indexes place index indexed) guarded rows new_row news db _ (λ r. agreed r new_row is) shaped keyed fresh put sound;
}

-- what the text of a removal means, of a table to which no other refers
pub record RemovesAlone (at : ℕ) (table : Table) (delete : List ℕ) (asked : List Term) : Type 0 where
  pub means : MeansRemove the_schema at table delete asked
  pub alone : IsActedOnByNone the_schema table.tree []

module _ {S : Type 0} (g : Ghosts S) (old new : Held S) {A : Type 0} (values : A → Row) (at : ℕ) (table : Table) where
  -- the removal of the records with values of the first columns, where no table refers to them
  pub removed_owned : (asked : List Term) (test : A → Bool) (xs : List A) (key : Row) (k next : Kept) → rows_of k table.tree ≡ map values xs
      → rows_of next table.tree ≡ map values (filter (λ x. not (test x)) xs) → IsAlike (rows_of k) (rows_of next) table
      → (IsRegular k → IsRegular next) → ((x : A) → has_key key (values x) ≡ test x) → ((r : Row) → picks asked key r ≡ has_key key (image (places table) r))
      → (delete : List ℕ) → RemovesAlone at table delete asked
      → Stands k (state g old).now → RemovesUnreferred g [] delete key old new → Stands next (state g new).now
  removed_owned asked test xs key k next was gone alike regular keyed tested delete removes stands h =
      remove_stands values xs k next table was alike (regular stands.inside.regular) at delete asked removes.means key tested test keyed gone g h.mid new h.count (subst (λ h. Stands k (state g h).now) h.none stands) (whole_if_alone the_schema table asked key (state g h.mid).now.trees removes.alone) h.removed

  -- the records of an owner, which a query shows in the order of the second column
  pub owned_found : (owner : A → ℕ) (second : A → A → Ordering) → ((x y : A) → values x ≡ values y → x ≡ y) → slice_get the_schema.tables at ≡ Some table
      → (text : List ℕ) → MeansSelect the_schema table text (is 1 0 ∷ []) (columns_of table) (by 2) (names_of table)
      → ((n : ℕ) (r : Row) → picks (is 1 0 ∷ []) (number n ∷ []) r ≡ (equal Binary (column (image (places table) r) 0) (number n) && true))
      → ((n : ℕ) (x : A) → (equal Binary (column (values x) 0) (number n) && true) ≡ is_eq (nat_cmp (owner x) n))
      → ((n : ℕ) (r : Row) → output (query table.tree (is 1 0 ∷ []) (columns_of table) (by 2)) ((number n ∷ []) ∷ r ∷ []) ≡ pair 1 (image (places table) r))
      → ((x y : A) → second x y ≡ Less → output_cmp (query table.tree (is 1 0 ∷ []) (columns_of table) (by 2)) (pair 1 (values x)) (pair 1 (values y)) ≡ Less)
      → (k : Kept) (xs : List A) → rows_of k table.tree ≡ map values xs → IsAt g k old → Rises (λ x y. ordering_then (nat_cmp (owner x) (owner y)) (second x y)) xs
      → (n : ℕ) (found : List A) → ShowsRecords (λ row x. row ≡ values x) g text (number n ∷ []) old new found → found ≡ filter (λ x. owner x == n) xs
  owned_found owner second same there text means tested owned paired lower k xs was at_s rises n found h =
      found_all (λ row x. row ≡ values x) values (λ x. is_eq (nat_cmp (owner x) n)) xs (λ x y _ is. sym (same y x is)) h.rows
      (shows_sorted values at table there text (is 1 0 ∷ []) (number n ∷ []) (λ im. equal Binary (column im 0) (number n) && true) (tested n) (λ x. is_eq (nat_cmp (owner x) n)) (owned n) k xs was h.rows 2 1 (paired n) means
      (rise_within owner second (λ x y. output_cmp (query table.tree (is 1 0 ∷ []) (columns_of table) (by 2)) (pair 1 (values x)) (pair 1 (values y)) ≡ Less) lower n xs rises) (state g old) (state g new) at_s.now h.shown)
      found h.read
      ∙ filter_same _ _ (λ x. is_number (owner x) n) xs

-- the same removal, of a list that can change
pub removed_listed : {A : Type 0} (kind : Kind A) {cmp : A → A → Ordering} {holding : List A → Kept → Kept} {Also : A → Type 0} (changing : Changing kind cmp holding Also) {S : Type 0} (g : Ghosts S) (old new : Held S) (asked : List Term) (test : A → Bool) (key : Row) → ((x : A) → has_key key (kind.values x) ≡ test x)
    → ((r : Row) → picks asked key r ≡ has_key key (image (places kind.table) r)) → {delete : List ℕ} → RemovesAlone kind.at kind.table delete asked → (k : Kept)
    → Stands k (state g old).now → RemovesUnreferred g [] delete key old new
    → Stands (holding (filter (λ x. not (test x)) (kind.list k)) k) (state g new).now
removed_listed kind changing g old new asked test key keyed tested {delete = delete} removes k stands =
    removed_owned g old new kind.values kind.at kind.table asked test (kind.list k) key k _ (kind.was k) (changing.now k _) (changing.alike k _)
    (λ o. let held = changing.holds k o in changing.regular k _ (ascending-filter _ _ (kind.list k) held.0) (all-filter _ _ (kind.list k) held.1) o) keyed tested delete removes stands
