-- What a query over one table shows of a state, and the records that its rows are read as.
use Rattle.ci_store.proofs.Ordered.{selects_sorted}
use Rattle.ci_store.specs.Prelude.{ascending, by_key, Text, Row, column, Term, col, eval_all, Output, output, output_cmp, key_cmp, limited, Table, Trees, Database, Shown}
use Rattle.ci_store.specs.Prelude.{IsAscending, Has, Kept, Holds, image, places}
use Rattle.sqlite_value.specs.declared.keys.Key.{Key}
use Rattle.ci_store_rows.specs.Prelude.{the_schema, number, Stands, rows_of, listed}
use Rattle.sqlite.specs.State.{State as Seen}
use Rattle.std.proofs.lemmas.List.{take-append-drop, take-map, take_all, length-take, append-nil, append_assoc}
use Rattle.std.proofs.lemmas.List.Sorted.{IsPermutation-trans, IsPermutation-map, IsPermutation-sym, IsPermutation-reverse, Contains-permutation}
use mathlib.Core.List.{reverse-cons}
use Rattle.ci_store_rows.proofs.Words.{Binary, IsPermutation-filter, ◌≡◌, ◌∙◌, ℕ, pos, List, [], ◌∷◌, ◌++◌, map, filter, reverse, find, take, drop, slice_get, Bool, true}
use Rattle.ci_store_rows.proofs.Words.{false, is_eq, Ordering, Less, Equal, Greater, Option, Some, None, option_map, refl, sym, ap, subst, cond, inl, inr, IsPermutation, ◌<◌}
use Rattle.ci_store_rows.proofs.Words.{◌≤◌, ◌==◌, suc, length, min, nat_lt, arith, nat_cmp, AllByRecursion, AllZip, All, Contains, last_or, lt-ltb, eqb-true, filter-filter}
use Rattle.ci_store_rows.proofs.Words.{ordering_then, IsTotalOrder, slice_cmp, filter-append, All-from_recursion, on_total, then_total, nat_cmp_total, tied_back, by_key_total}
use Rattle.ci_store_rows.proofs.Words.{value_cmp-Int, value_cmp-Text, then-Equal, one_permutation, reads_as, filter-map, filter_same, slice_get-filter, ascending-map}
use Rattle.ci_store_rows.proofs.Words.{ascending_weaker, ascending-filter, all_has, all_from, has_got, has_filtered, has_left, perm_nil, map_nil, map_one, query, picks}
use Rattle.ci_store_rows.proofs.Words.{no_limit, count_of, Answered, shows, answered, answered_to, map_map, MeansSelect, MeansSelectTo, selects, int_nat, all_weaker}
use Rattle.ci_store_rows.proofs.Words.{filter_all, all_of, ascending-append, all-permutation, has_contained, contains_had}

-- the columns of a row, in their order, and their names
abbrev pub columns_of : Table → List Term
columns_of table = map (λ at. col 1 at) (places table)

abbrev pub names_of : Table → List (List ℕ)
names_of table = map (λ c. c.name) table.columns

pub held : (k : Kept) (db : Database) → Stands k db → (at : ℕ) (t : Table) → slice_get the_schema.tables at ≡ Some t → Holds t (rows_of k t.tree) db.trees
held k db stands at t there = all_has (λ (t : Table). Holds t (rows_of k t.tree) db.trees) the_schema.tables t stands.inside.tables.holds (has_got the_schema.tables at t there)

-- the order of what is shown, by the column at a place of the row
abbrev pub pair : ℕ → Row → Output
pair at im = (column im at ∷ [], im)

abbrev pub by : ℕ → List (Term × Key)
by place = (col 1 place, ascending Binary) ∷ []

-- and by those at two places
abbrev pub pair_of_two : ℕ → ℕ → Row → Output
pair_of_two first second im = (column im first ∷ column im second ∷ [], im)

abbrev pub by_two : ℕ → ℕ → List (Term × Key)
by_two first second = (col 1 first, ascending Binary) ∷ (col 1 second, ascending Binary) ∷ []

-- the order turned round, by the column at a place of the row
abbrev pub backward : ℕ → List (Term × Key)
backward place = (col 1 place, record { collation = Binary; descending = true }) ∷ []

keys_total : (at : ℕ) (keys : List Key) → IsTotalOrder (key_cmp at keys)
keys_total at [] = record { antisymm = λ x y. refl; trans = λ x y z p q. p; congr = λ x y z p. refl }
keys_total at (key ∷ keys) = then_total (on_total (λ (r : Row). column r at) (by_key_total key)) (keys_total (suc at) keys)

order_total : (tests columns : List Term) (tree : ℕ) (order : List (Term × Key)) → IsTotalOrder (output_cmp (query tree tests columns order))
order_total tests columns tree order = on_total (λ (o : Output). o.0) (keys_total 0 (map (λ k. k.1) order))

-- what an answer of a part of the columns has of the records of its table
answers_part : (t : Table) (tests columns : List Term) (order : List (Term × Key)) (key : Row) (p : Row → Bool) → ((r : Row) → picks tests key r ≡ p (image (places t) r)) → (part : Row → Row) → ((r : Row) → eval_all columns (key ∷ r ∷ []) ≡ part (image (places t) r))
    → (db : Trees) (records rows : List Row) → Holds t records db → Answered t.tree tests columns order db key rows → IsPermutation (map part (filter p records)) rows
answers_part t tests columns order key p tested part showed db records rows held a =
    let there = db t.tree in
    let answer = shows t.tree tests columns order db key rows a in
    let images : map (λ r. eval_all columns (key ∷ r ∷ [])) (filter (picks tests key) there) ≡ map part (filter p (map (image (places t)) there)) =
    (λ i. map (λ r. showed r i) (filter (picks tests key) there))
    ∙ sym (map_map part (image (places t)) (filter (picks tests key) there))
    ∙ ap (λ l. map part (map (image (places t)) l)) (filter_same _ _ tested there)
    ∙ ap (map part) (sym (filter-map p (image (places t)) there)) in
    IsPermutation-trans _ _ _ (IsPermutation-map part _ _ (IsPermutation-sym _ _ (IsPermutation-filter p _ _ held.same))) (subst (λ l. IsPermutation l rows) images answer)

-- what a query of a part of the columns shows of them
shows_part : (t : Table) (text : List ℕ) (tests columns : List Term) (names : List (List ℕ)) → MeansSelect the_schema t text tests columns [] names → (key : Row) (p : Row → Bool) → ((r : Row) → picks tests key r ≡ p (image (places t) r))
    → (part : Row → Row) → ((r : Row) → eval_all columns (key ∷ r ∷ []) ≡ part (image (places t) r)) → (old new : Seen) (records rows : List Row) → old.now.schema ≡ the_schema → Holds t records old.now.trees → Shown text key old new rows
    → IsPermutation (map part (filter p records)) rows
shows_part t text tests columns names means key p tested part showed old new records rows has held shown =
    let read = reads_as text key old new the_schema has _ means.is means.plain means.unlisted rows shown in
    answers_part t tests columns [] key p tested part showed old.now.trees records rows held (answered old.now.schema old.now.trees t.tree tests columns [] key rows read)

module _ {A : Type 0} (values : A → Row) (at : ℕ) (t : Table) (there : slice_get the_schema.tables at ≡ Some t) (text : List ℕ) (tests : List Term) (key : Row) (p : Row → Bool)
    (tested : (r : Row) → picks tests key r ≡ p (image (places t) r)) (passes : A → Bool) (same : (x : A) → p (values x) ≡ passes x)
    (k : Kept) (xs : List A) (is : rows_of k t.tree ≡ map values xs) (rows : List Row) where
  filtered : (ys : List A) → filter p (map values ys) ≡ map values (filter passes ys)
  filtered ys = filter-map p values ys ∙ ap (map values) (filter_same _ _ same ys)

  -- the rows of the records that pass the tests, in some order
  pub shows_passing : (showed : (r : Row) → eval_all (columns_of t) (key ∷ r ∷ []) ≡ image (places t) r) → MeansSelect the_schema t text tests (columns_of t) [] (names_of t)
      → (old new : Seen) → Stands k old.now → Shown text key old new rows → IsPermutation (map values (filter passes xs)) rows
  shows_passing showed means old new stands h =
      subst (λ l. IsPermutation l rows) (ap (filter p) is ∙ filtered xs)
      (selects the_schema t text tests (columns_of t) [] (names_of t) means key p tested showed old new (rows_of k t.tree) rows stands.listed (held k old.now stands at t there) h)

  -- a part of the columns of each
  pub shows_columns : (columns : List Term) (names : List (List ℕ)) (part : Row → Row) (showed : (r : Row) → eval_all columns (key ∷ r ∷ []) ≡ part (image (places t) r)) → MeansSelect the_schema t text tests columns [] names
      → (old new : Seen) → Stands k old.now → Shown text key old new rows → IsPermutation (map (λ x. part (values x)) (filter passes xs)) rows
  shows_columns columns names part showed means old new stands h =
      subst (λ l. IsPermutation l rows) (ap (λ l. map part (filter p l)) is ∙ ap (map part) (filtered xs) ∙ map_map part values (filter passes xs))
      (shows_part t text tests columns names means key p tested part showed old new (rows_of k t.tree) rows stands.listed (held k old.now stands at t there) h)

  -- those rows in some order, and of them the first ones that a limit lets through
  pub shows_some : (limit : Term) (order : List (Term × Key)) (showed : (r : Row) → eval_all (columns_of t) (key ∷ r ∷ []) ≡ image (places t) r) → MeansSelectTo limit the_schema t text tests (columns_of t) order (names_of t)
      → (old new : Seen) → Stands k old.now → Shown text key old new rows → (all : List Row) × IsPermutation (map values (filter passes xs)) all × (rows ≡ limited (count_of limit key) all)
  shows_some limit order showed means old new stands h =
      let read = reads_as text key old new the_schema stands.listed _ means.is means.plain means.unlisted rows h in
      let a = answered_to limit old.now.schema old.now.trees t.tree tests (columns_of t) order key rows read in
      let all = map (λ (o : Output). o.1) a.ordered in
      let whole : Answered t.tree tests (columns_of t) order old.now.trees key all = record { ordered = a.ordered; same = a.same; sorted = a.sorted; shown = refl } in
      let those = ap (λ l. map (λ im. im) (filter p l)) is ∙ ap (map (λ im. im)) (filtered xs) ∙ map_map (λ im. im) values (filter passes xs) in
      (all, subst (λ l. IsPermutation l all) those (answers_part t tests (columns_of t) order key p tested (λ im. im) showed old.now.trees (rows_of k t.tree) all (held k old.now stands at t there) whole), a.shown)

  -- of records that the table has, and that stand in an order, the first ones that a limit lets through
  shows_in_order : (limit : Term) (order : List (Term × Key)) (pair : Row → Output) (second : (im : Row) → (pair im).1 ≡ im)
      → (paired : (r : Row) → output (query t.tree tests (columns_of t) order) (key ∷ r ∷ []) ≡ pair (image (places t) r)) → MeansSelectTo limit the_schema t text tests (columns_of t) order (names_of t)
      → (ys : List A) → IsAscending (λ x y. output_cmp (query t.tree tests (columns_of t) order) (pair (values x)) (pair (values y)) ≡ Less) (filter passes ys)
      → (old new : Seen) → Stands k old.now → Holds t (map values ys) old.now.trees → Shown text key old new rows → rows ≡ limited (count_of limit key) (map values (filter passes ys))
  shows_in_order limit order pair second paired means ys up old new stands has h =
      let Up = λ (a b : Output). output_cmp (query t.tree tests (columns_of t) order) a b ≡ Less in
      let up' = ascending-map Up pair _ (ascending-map (λ a b. Up (pair a) (pair b)) values _ up) in
      selects_sorted limit the_schema t text tests (columns_of t) order (names_of t) means key p tested pair paired second (order_total tests (columns_of t) t.tree order) old new (map values ys) rows stands.listed
      has h (subst (λ l. IsAscending Up (map pair l)) (sym (filtered ys)) up')
      ∙ ap (limited (count_of limit key)) (filtered ys)

  has_all : (old : Seen) → Stands k old.now → Holds t (map values xs) old.now.trees
  has_all old stands = subst (λ l. Holds t l old.now.trees) is (held k old.now stands at t there)

  -- and in an order, of them the first ones that a limit lets through
  pub shows_ordered : (limit : Term) (order : List (Term × Key)) (pair : Row → Output) (second : (im : Row) → (pair im).1 ≡ im)
      → (paired : (r : Row) → output (query t.tree tests (columns_of t) order) (key ∷ r ∷ []) ≡ pair (image (places t) r)) → MeansSelectTo limit the_schema t text tests (columns_of t) order (names_of t)
      → IsAscending (λ x y. output_cmp (query t.tree tests (columns_of t) order) (pair (values x)) (pair (values y)) ≡ Less) (filter passes xs)
      → (old new : Seen) → Stands k old.now → Shown text key old new rows → rows ≡ limited (count_of limit key) (map values (filter passes xs))
  shows_ordered limit order pair second paired means up old new stands h = shows_in_order limit order pair second paired means xs up old new stands (has_all old stands) h

  -- and in the order turned round, by a column
  pub shows_backward : (limit : Term) (place shown_at : ℕ) (paired : (r : Row) → output (query t.tree tests (columns_of t) (backward place)) (key ∷ r ∷ []) ≡ pair shown_at (image (places t) r)) → MeansSelectTo limit the_schema t text tests (columns_of t) (backward place) (names_of t)
      → IsAscending (λ x y. output_cmp (query t.tree tests (columns_of t) (backward place)) (pair shown_at (values x)) (pair shown_at (values y)) ≡ Less) (filter passes (reverse xs))
      → (old new : Seen) → Stands k old.now → Shown text key old new rows → rows ≡ limited (count_of limit key) (map values (filter passes (reverse xs)))
  shows_backward limit place shown_at paired means up old new stands h =
      let has = has_all old stands in
      shows_in_order limit (backward place) (pair shown_at) (λ im. refl) paired means (reverse xs) up old new stands
      (record { shaped = has.shaped; same = IsPermutation-trans _ _ _ has.same (IsPermutation-map values _ _ (IsPermutation-reverse xs)) }) h

  -- all of them, in the order of a column
  pub shows_sorted : (place shown_at : ℕ) (paired : (r : Row) → output (query t.tree tests (columns_of t) (by place)) (key ∷ r ∷ []) ≡ pair shown_at (image (places t) r)) → MeansSelect the_schema t text tests (columns_of t) (by place) (names_of t)
      → IsAscending (λ x y. output_cmp (query t.tree tests (columns_of t) (by place)) (pair shown_at (values x)) (pair shown_at (values y)) ≡ Less) (filter passes xs)
      → (old new : Seen) → Stands k old.now → Shown text key old new rows → rows ≡ map values (filter passes xs)
  shows_sorted place shown_at = shows_ordered no_limit (by place) (pair shown_at) (λ im. refl)

-- ---- the records that the rows are read as

-- what is made of the one record that passes, if one does
pub found_as : {A B : Type 0} (of : A → B) (is_row : Row → B → Type 0) (values : A → Row) (passes : A → Bool) (xs : List A) → ((x : B) (y : A) → Has xs y → is_row (values y) x → x ≡ of y)
    → (rows : List Row) → IsPermutation (map values (filter passes xs)) rows → (found : Option B) → AllZip is_row rows (listed found) → found ≡ option_map of (find passes xs)
found_as {A = A} {B = B} of is_row values passes xs one = go
  where
    first : find passes xs ≡ slice_get (filter passes xs) 0
    first = sym (slice_get-filter passes xs)

    made : (l : List A) → filter passes xs ≡ l → option_map of (find passes xs) ≡ option_map of (slice_get l 0)
    made l is = ap (option_map of) (first ∙ ap (λ l. slice_get l 0) is)

    go : (rows : List Row) → IsPermutation (map values (filter passes xs)) rows → (found : Option B) → AllZip is_row rows (listed found) → found ≡ option_map of (find passes xs)
    go [] same None read = sym (made [] (map_nil _ _ (perm_nil _ same)))
    go [] same (Some x) read = absurd read
    go (r ∷ rows) same None read = absurd read
    go (r ∷ []) same (Some x) read =
        let only = map_one values _ r (one_permutation r _ (IsPermutation-sym _ _ same)) in
        let there : Has (filter passes xs) only.0 = subst (λ l. Has l only.0) (sym only.1) (inl refl) in
        ap Some (one x only.0 (has_filtered passes xs only.0 there).0 (subst (λ row. is_row row x) only.2 read.0)) ∙ sym (made (only.0 ∷ []) only.1)
    go (r ∷ t ∷ rows) same (Some x) read = absurd read.1

as_it_is : {A : Type 0} (o : Option A) → option_map (λ x. x) o ≡ o
as_it_is None = refl
as_it_is (Some x) = refl

has_taken : {X : Type 0} (n : ℕ) (ys : List X) (y : X) → Has (take n ys) y → Has ys y
has_taken n ys y h = subst (λ l. Has l y) (take-append-drop n ys) (has_left (take n ys) (drop n ys) y h)

has_map : {X Y : Type 0} (f : X → Y) (xs : List X) (x : X) → Has xs x → Has (map f xs) (f x)
has_map f [] x h = absurd h
has_map f (y ∷ xs) x (inl same) = inl (ap f same)
has_map f (y ∷ xs) x (inr h) = inr (has_map f xs x h)

has_mapped : {X Y : Type 0} (f : X → Y) (xs : List X) (y : Y) → Has (map f xs) y → (x : X) × Has xs x × (y ≡ f x)
has_mapped f [] y h = absurd h
has_mapped f (x ∷ xs) y (inl same) = (x, inl refl, same)
has_mapped f (x ∷ xs) y (inr h) = let w = has_mapped f xs y h in (w.0, inr w.1, w.2)

module _ {X Y : Type 0} (R : X → Y → Type 0) where
  length_zipped : (xs : List X) (ys : List Y) → AllZip R xs ys → length xs ≡ length ys
  length_zipped [] [] all = refl
  length_zipped [] (y ∷ ys) all = absurd all
  length_zipped (x ∷ xs) [] all = absurd all
  length_zipped (x ∷ xs) (y ∷ ys) all = ap suc (length_zipped xs ys all.1)

  zipped : (xs : List X) (ys : List Y) → AllZip R xs ys → (x : X) → Has xs x → (y : Y) × Has ys y × R x y
  zipped [] ys all x h = absurd h
  zipped (z ∷ xs) [] all x h = absurd all
  zipped (z ∷ xs) (y ∷ ys) all x (inl same) = (y, inl refl, subst (λ z. R z y) (sym same) all.0)
  zipped (z ∷ xs) (y ∷ ys) all x (inr h) = let w = zipped xs ys all.1 x h in (w.0, inr w.1, w.2)

  zipped_back : (xs : List X) (ys : List Y) → AllZip R xs ys → (y : Y) → Has ys y → (x : X) × Has xs x × R x y
  zipped_back xs [] all y h = absurd h
  zipped_back [] (z ∷ ys) all y h = absurd all
  zipped_back (x ∷ xs) (z ∷ ys) all y (inl same) = (x, inl refl, subst (R x) (sym same) all.0)
  zipped_back (x ∷ xs) (z ∷ ys) all y (inr h) = let w = zipped_back xs ys all.1 y h in (w.0, inr w.1, w.2)

module _ {A : Type 0} (is_row : Row → A → Type 0) (values : A → Row) (passes : A → Bool) (xs : List A) (one : (x y : A) → Has xs y → is_row (values y) x → x ≡ y) where
  pub found_one : (rows : List Row) → IsPermutation (map values (filter passes xs)) rows → (found : Option A) → AllZip is_row rows (listed found) → found ≡ find passes xs
  found_one rows same found read = found_as (λ x. x) is_row values passes xs one rows same found read ∙ as_it_is (find passes xs)

  each : (ys : List A) → ((y : A) → Has ys y → Has xs y) → (found : List A) → AllZip is_row (map values ys) found → found ≡ ys
  each [] sub [] read = refl
  each [] sub (x ∷ found) read = absurd read
  each (y ∷ ys) sub [] read = absurd read
  each (y ∷ ys) sub (x ∷ found) read =
      let same = one x y (sub y (inl refl)) read.0 in
      let more = each ys (λ z h. sub z (inr h)) found read.1 in
      λ i. same i ∷ more i

  -- the first so many of them
  pub found_first : (n : ℕ) (rows : List Row) → rows ≡ take n (map values (filter passes xs)) → (found : List A) → AllZip is_row rows found → found ≡ take n (filter passes xs)
  found_first n rows is found read =
      each (take n (filter passes xs)) (λ y h. (has_filtered passes xs y (has_taken n (filter passes xs) y h)).0) found (subst (λ l. AllZip is_row l found) (is ∙ take-map values n (filter passes xs)) read)

  -- some of them, so many at most: all, where they are fewer
  pub found_some : (n : ℕ) (rows all : List Row) → IsPermutation (map values (filter passes xs)) all → rows ≡ take n all → (found : List A) → AllZip is_row rows found
      → (length found ≤ n) × (All (Contains (filter passes xs)) found) × (length found < n → All (Contains found) (filter passes xs))
  found_some n rows all same first found read =
      (few, All-from_recursion _ found (all_from _ found among), λ less. All-from_recursion _ those (all_from _ those (there less)))
    where
      those : List A
      those = filter passes xs

      long : length found ≡ min n (length all)
      long = sym (length_zipped is_row rows found read) ∙ ap length first ∙ length-take n all

      few : length found ≤ n
      few = omega (arith, long)

      among : (x : A) → Has found x → Contains those x
      among x h =
          let row = zipped_back is_row rows found read x h in
          let in_all : Has all row.0 = has_taken n all row.0 (subst (λ l. Has l row.0) first row.1) in
          let here = has_mapped values those row.0 (has_contained (map values those) row.0 (Contains-permutation all (map values those) row.0 (IsPermutation-sym _ _ same) (contains_had all row.0 in_all))) in
          let is = one x here.0 (has_filtered passes xs here.0 here.1).0 (subst (λ row. is_row row x) here.2 row.2) in
          subst (Contains those) (sym is) (contains_had those here.0 here.1)

      there : length found < n → (y : A) → Has those y → Contains found y
      there less y h =
          let whole : rows ≡ all = first ∙ take_all n all (omega (arith, less, long)) in
          let in_all : Has all (values y) = has_contained all (values y) (Contains-permutation (map values those) all (values y) same (contains_had (map values those) (values y) (has_map values those y h))) in
          let seen = zipped is_row rows found read (values y) (subst (λ l. Has l (values y)) (sym whole) in_all) in
          let is = one seen.0 y (has_filtered passes xs y h).0 seen.2 in
          subst (Contains found) is (contains_had found seen.0 seen.1)

  pub found_all : (rows : List Row) → rows ≡ map values (filter passes xs) → (found : List A) → AllZip is_row rows found → found ≡ filter passes xs
  found_all rows is found read = each (filter passes xs) (λ y h. (has_filtered passes xs y h).0) found (subst (λ l. AllZip is_row l found) is read)

-- where all pass
pub every : {A : Type 0} (xs : List A) → filter (λ x. true) xs ≡ xs
every xs = filter_all (λ x. true) xs (all_of (λ x. true ≡ true) (λ x. refl) xs)

-- the one that a query of one row shows
pub first_of_one : {A : Type 0} (xs : List A) (found : Option A) → listed found ≡ take 1 xs → found ≡ slice_get xs 0
first_of_one [] None h = refl
first_of_one [] (Some x) h = absurd cc
first_of_one (x ∷ xs) None h = absurd cc
first_of_one (x ∷ xs) (Some y) h = let same : y ≡ x = cc in ap Some same

-- the first of those that pass, where the list is turned round, is the last of them
last_is_first : {A : Type 0} (p : A → Bool) (xs zs : List A) → slice_get (filter p (reverse xs) ++ zs) 0 ≡ last_or (slice_get zs 0) (filter p xs)
last_is_first p [] zs = refl
last_is_first p (x ∷ xs) zs =
    ap (λ l. slice_get (l ++ zs) 0) (ap (filter p) (reverse-cons x xs) ∙ filter-append p (reverse xs) (x ∷ []))
    ∙ ap (λ l. slice_get l 0) (append_assoc (filter p (reverse xs)) (filter p (x ∷ [])) zs)
    ∙ last_is_first p xs (filter p (x ∷ []) ++ zs)
    ∙ elim (p x) as (λ b. last_or (slice_get (cond b (x ∷ []) [] ++ zs) 0) (filter p xs) ≡ last_or (slice_get zs 0) (cond b (x ∷ filter p xs) (filter p xs))) [ true ↦ refl | false ↦ refl ]

pub last_of_those : {A : Type 0} (p : A → Bool) (xs : List A) → slice_get (filter p (reverse xs)) 0 ≡ last_or None (filter p xs)
last_of_those p xs = ap (λ l. slice_get l 0) (sym (append-nil (filter p (reverse xs)))) ∙ last_is_first p xs []

-- ---- a number above which no record is shown

module _ {A : Type 0} (id : A → ℕ) (last n : ℕ) (over : last < n) where
  none_among : (xs : List A) → filter (λ x. nat_lt last (id x)) xs ≡ [] → find (λ x. id x == n) xs ≡ None
  none_among xs e =
      let p : A → Bool = λ x. id x == n in
      let above : (x : A) → p x ≡ true → nat_lt last (id x) ≡ true = λ x is. lt-ltb last (id x) (let same = eqb-true (id x) n is in omega (arith, over, same)) in
      sym (slice_get-filter p xs) ∙ ap (λ l. slice_get l 0) (sym (filter-filter p (λ x. nat_lt last (id x)) above xs) ∙ ap (filter p) e)

  pub found_none : {B : Type 0} (is_row : Row → B → Type 0) (values : A → Row) (xs : List A) (rows : List Row) → IsPermutation (map values (filter (λ x. nat_lt last (id x)) xs)) rows → AllZip is_row rows [] → find (λ x. id x == n) xs ≡ None
  found_none is_row values xs [] same read = none_among xs (map_nil _ _ (perm_nil _ same))
  found_none is_row values xs (r ∷ rows) same read = absurd read

-- ---- the records of one owner, which rise by the second part of their key

-- what is equal to a number leaves the order to the second part
second_is : (a b n : ℕ) (o : Ordering) → is_eq (nat_cmp a n) ≡ true → is_eq (nat_cmp b n) ≡ true → ordering_then (nat_cmp a b) o ≡ Less → o ≡ Less
second_is a b n o ha hb h = subst (λ first. ordering_then first o ≡ Less) (tied a b n (equal_is _ ha) (equal_is _ hb)) h
  where
    equal_is : (o : Ordering) → is_eq o ≡ true → o ≡ Equal
    equal_is Less h = cc
    equal_is Equal h = refl
    equal_is Greater h = cc

    tied : (a b n : ℕ) → nat_cmp a n ≡ Equal → nat_cmp b n ≡ Equal → nat_cmp a b ≡ Equal
    tied a b n p q = nat_cmp_total.congr a n b p ∙ tied_back nat_cmp_total b n q

module _ {X : Type 0} (owner : X → ℕ) (second : X → X → Ordering) (Up : X → X → Type 0) (lower : (x y : X) → second x y ≡ Less → Up x y) (n : ℕ) where
  abbrev is_own : X → Bool
  is_own x = is_eq (nat_cmp (owner x) n)

  abbrev IsBelow : X → X → Type 0
  IsBelow x y = ordering_then (nat_cmp (owner x) (owner y)) (second x y) ≡ Less

  above : (x : X) (ys : List X) → is_own x ≡ true → AllByRecursion (IsBelow x) ys → AllByRecursion (Up x) (filter is_own ys)
  above x [] h all = tt
  above x (y ∷ ys) h all = step (is_own y) refl (above x ys h all.1)
    where
      step : (b : Bool) → is_own y ≡ b → AllByRecursion (Up x) (filter is_own ys) → AllByRecursion (Up x) (cond b (y ∷ filter is_own ys) (filter is_own ys))
      step true is more = (lower x y (second_is (owner x) (owner y) n (second x y) h is all.0), more)
      step false is more = more

  pub rise_within : (xs : List X) → IsAscending IsBelow xs → IsAscending Up (filter is_own xs)
  rise_within [] up = tt
  rise_within (x ∷ xs) up = go (is_own x) refl (rise_within xs up.1)
    where
      go : (b : Bool) → is_own x ≡ b → IsAscending Up (filter is_own xs) → IsAscending Up (cond b (x ∷ filter is_own xs) (filter is_own xs))
      go true is more = (above x xs is up.0, more)
      go false is more = more

-- ---- rows that rise by a column

pub rising_number : (a b : ℕ) → nat_cmp a b ≡ Less → ordering_then (by_key (ascending Binary) (number a) (number b)) Equal ≡ Less
rising_number a b h = then-Equal _ ∙ value_cmp-Int (pos a) (pos b) ∙ int_nat a b ∙ h

-- what is in order by two numbers is so by the columns
pub rising_two : (a b c d : ℕ) → ordering_then (nat_cmp a b) (nat_cmp c d) ≡ Less → ordering_then (by_key (ascending Binary) (number a) (number b)) (ordering_then (by_key (ascending Binary) (number c) (number d)) Equal) ≡ Less
rising_two a b c d h = (λ i. ordering_then (first i) (second i)) ∙ h
  where
    first : by_key (ascending Binary) (number a) (number b) ≡ nat_cmp a b
    first = value_cmp-Int (pos a) (pos b) ∙ int_nat a b

    second : ordering_then (by_key (ascending Binary) (number c) (number d)) Equal ≡ nat_cmp c d
    second = then-Equal _ ∙ value_cmp-Int (pos c) (pos d) ∙ int_nat c d

-- what is in order by a number and a text is so by the columns
pub rising_named : (a b : ℕ) (c d : List ℕ) → ordering_then (nat_cmp a b) (slice_cmp nat_cmp c d) ≡ Less → ordering_then (by_key (ascending Binary) (number a) (number b)) (ordering_then (by_key (ascending Binary) (Text c) (Text d)) Equal) ≡ Less
rising_named a b c d h = (λ i. ordering_then (first i) (second i)) ∙ h
  where
    first : by_key (ascending Binary) (number a) (number b) ≡ nat_cmp a b
    first = value_cmp-Int (pos a) (pos b) ∙ int_nat a b

    second : ordering_then (by_key (ascending Binary) (Text c) (Text d)) Equal ≡ slice_cmp nat_cmp c d
    second = then-Equal _ ∙ value_cmp-Text c d

pub rising_text : (a b : List ℕ) → slice_cmp nat_cmp a b ≡ Less → ordering_then (by_key (ascending Binary) (Text a) (Text b)) Equal ≡ Less
rising_text a b h = then-Equal _ ∙ value_cmp-Text a b ∙ h

pub rising_numbers : {X : Type 0} (id : X → ℕ) (passes : X → Bool) (xs : List X) → IsAscending (λ x y. nat_cmp (id x) (id y) ≡ Less) xs
    → IsAscending (λ x y. ordering_then (by_key (ascending Binary) (number (id x)) (number (id y))) Equal ≡ Less) (filter passes xs)
rising_numbers id passes xs up = ascending_weaker _ _ (λ x y h. rising_number (id x) (id y) h) (filter passes xs) (ascending-filter _ passes xs up)

-- ---- rows that fall by a column, where their list is turned round

ascend_turned : {X : Type 0} (Up : X → X → Type 0) (xs : List X) → IsAscending Up xs → IsAscending (λ x y. Up y x) (reverse xs)
ascend_turned Up [] up = tt
ascend_turned Up (x ∷ xs) up =
    subst (IsAscending (λ a b. Up b a)) (sym (reverse-cons x xs)) (ascending-append (λ a b. Up b a) (reverse xs) (x ∷ []) (ascend_turned Up xs up.1) (tt, tt)
    (all-permutation (λ y. Up x y × Unit) xs (reverse xs) (IsPermutation-reverse xs) (all_weaker (Up x) (λ y. Up x y × Unit) (λ y h. (h, tt)) xs up.0)))

pub filter-reverse : {X : Type 0} (p : X → Bool) (xs : List X) → filter p (reverse xs) ≡ reverse (filter p xs)
filter-reverse p [] = refl
filter-reverse p (x ∷ xs) =
    ap (filter p) (reverse-cons x xs) ∙ filter-append p (reverse xs) (x ∷ []) ∙ ap (λ l. l ++ filter p (x ∷ [])) (filter-reverse p xs)
    ∙ elim (p x) as (λ b. reverse (filter p xs) ++ cond b (x ∷ []) [] ≡ reverse (cond b (x ∷ filter p xs) (filter p xs))) [ true ↦ sym (reverse-cons x (filter p xs)) | false ↦ append-nil (reverse (filter p xs)) ]

-- those that pass fall there, where they rise
pub falling_within : {X : Type 0} (id : X → ℕ) (passes : X → Bool) (xs : List X) → IsAscending (λ x y. nat_cmp (id x) (id y) ≡ Less) (filter passes xs)
    → IsAscending (λ x y. ordering_then (by_key (record { collation = Binary; descending = true }) (number (id x)) (number (id y))) Equal ≡ Less) (filter passes (reverse xs))
falling_within id passes xs up =
    ascending_weaker _ _ (λ x y h. rising_number (id y) (id x) h) (filter passes (reverse xs))
    (subst (IsAscending (λ x y. nat_cmp (id y) (id x) ≡ Less)) (sym (filter-reverse passes xs)) (ascend_turned _ (filter passes xs) up))
