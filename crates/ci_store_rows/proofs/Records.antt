-- A record that is put, and one that is removed, in a table of its own.
use Rattle.ci_store.specs.Prelude.{Value, Null, Int, Text, value_cmp, is_true, from_truth, Compare, Coalesce, Eq, Lt, Le, Gt, Ge, Row, Term, lit, col, op2, Table, with_rowid, cast}
use Rattle.ci_store.specs.Prelude.{Integer, Chosen, or_null, bound_value, Ghosts, Held, state, Kept, put, has_key, image, places, without, IsOf, Changes, HasPut, is_within}
use Rattle.ci_store.specs.Prelude.{equal}
use Rattle.ci_store_rows.specs.Prelude.{the_schema, number, rows_of, IsRegular, Stands}
use Rattle.sqlite.specs.Ops.{binary}
use Rattle.std.proofs.lemmas.Map.Text.{is_eq-slice_cmp}
use Rattle.ci_store_rows.proofs.Words.{◌≡◌, ◌<◌, ◌==◌, ℕ, ℤ, pos, nat_lt, nat_le, cond, arith, ltb-true, ne_eqb, Less, Equal, Greater, List, ◌∷◌, map, filter, Bool, true}
use Rattle.ci_store_rows.proofs.Words.{false, not, ◌&&◌, Ordering, is_eq, is_lt, refl, sym, ap, subst, ◌∙◌, Some, None, Option, IsPermutation, nat_cmp, ordering_then}
use Rattle.ci_store_rows.proofs.Words.{cond_both, bytes_eq, Binary, value_cmp-Int, picks, IsWholeStep, MeansPut, MeansRemove, GivesRecord, puts, removes, cast_int, cast_null}
use Rattle.ci_store_rows.proofs.Words.{equal_int, equal_text, int_nat, compares, compares_at_least, compares_at_most, compares_above}
use Rattle.ci_store_rows.proofs.Lists.{put_among, removed_from}
use Rattle.ci_store_rows.proofs.OneList.{IsAlike}

abbrev pub is : ℕ → ℕ → Term
is place param = op2 (Compare Eq Binary) (col 1 place) (col 0 param)

abbrev pub at_least : ℕ → ℕ → Term
at_least place param = op2 (Compare Ge Binary) (col 1 place) (col 0 param)

abbrev pub at_most : ℕ → ℕ → Term
at_most place param = op2 (Compare Le Binary) (col 1 place) (col 0 param)

abbrev pub above : ℕ → ℕ → Term
above place param = op2 (Compare Gt Binary) (col 1 place) (col 0 param)

abbrev pub below : ℕ → ℕ → Term
below place param = op2 (Compare Lt Binary) (col 1 place) (col 0 param)

-- the same of a column under a plus, which is itself where it isn't NULL
abbrev pub plus_is : ℕ → ℕ → Term
plus_is place param = op2 (Compare Eq Binary) (op2 Coalesce (col 1 place) (lit Null)) (col 0 param)

abbrev pub plus_below : ℕ → ℕ → Term
plus_below place param = op2 (Compare Lt Binary) (op2 Coalesce (col 1 place) (lit Null)) (col 0 param)

pub before_it : {S : Type 0} (ghosts : Ghosts S) (k : Kept) (h : Held S) → Stands k (state ghosts h).now → IsOf the_schema (rows_of k) (state ghosts h).now
before_it ghosts k h stands = record { listed = stands.listed; inside = stands.inside.tables }

pub after_it : {S : Type 0} (ghosts : Ghosts S) (k : Kept) (h : Held S) → IsRegular k → IsOf the_schema (rows_of k) (state ghosts h).now → Stands k (state ghosts h).now
after_it ghosts k h ordered it = record { listed = it.listed; inside = record { tables = it.inside; regular = ordered } }

-- a row that is put, where the rows after it are those before it but for that with the key
pub put_moved : (k next : Kept) (table : Table) → IsAlike (rows_of k) (rows_of next) table → IsRegular next → (at : ℕ) (update insert : List ℕ) (tests sets terms : List Term) → MeansPut the_schema at table update insert tests sets terms
    → (key row : Row) → GivesRecord the_schema table tests sets terms key row → IsPermutation (row ∷ without key (rows_of k table.tree)) (rows_of next table.tree)
    → {S : Type 0} (ghosts : Ghosts S) (before after : Held S) → Stands k (state ghosts before).now → HasPut ghosts update insert row before after → Stands next (state ghosts after).now
put_moved k next table alike ordered at update insert tests sets terms means key row gives moved ghosts before after stands h =
    after_it ghosts next after ordered (puts the_schema at table update insert tests sets terms means key row gives (rows_of k) (rows_of next) alike moved ghosts before after (before_it ghosts k before stands) h)

module _ {A : Type 0} (values : A → Row) (xs : List A) (k next : Kept) (table : Table) (was : rows_of k table.tree ≡ map values xs) (alike : IsAlike (rows_of k) (rows_of next) table) (ordered : IsRegular next) where
  pub put_stands : (at : ℕ) (update insert : List ℕ) (tests sets terms : List Term) → MeansPut the_schema at table update insert tests sets terms → (cmp : A → A → Ordering) (key : Row) (x : A)
      → GivesRecord the_schema table tests sets terms key (values x) → ((y : A) → has_key key (values y) ≡ is_eq (cmp y x)) → rows_of next table.tree ≡ map values (put cmp x xs)
      → {S : Type 0} (ghosts : Ghosts S) (before after : Held S) → Stands k (state ghosts before).now → HasPut ghosts update insert (values x) before after → Stands next (state ghosts after).now
  put_stands at update insert tests sets terms means cmp key x gives same_key is =
      let moved = subst (λ l. IsPermutation (values x ∷ without key l) (rows_of next table.tree)) (sym was) (subst (IsPermutation _) (sym is) (put_among values key cmp x same_key xs)) in
      put_moved k next table alike ordered at update insert tests sets terms means key (values x) gives moved

  pub remove_stands : (at : ℕ) (delete : List ℕ) (tests : List Term) → MeansRemove the_schema at table delete tests → (key : Row) → ((r : Row) → picks tests key r ≡ has_key key (image (places table) r))
      → (test : A → Bool) → ((y : A) → has_key key (values y) ≡ test y) → rows_of next table.tree ≡ map values (filter (λ y. not (test y)) xs)
      → {S : Type 0} (ghosts : Ghosts S) (before after : Held S) (count : ℕ) → Stands k (state ghosts before).now → IsWholeStep the_schema table tests key (state ghosts before).now.trees → Changes ghosts delete key count before after
      → Stands next (state ghosts after).now
  remove_stands at delete tests means key tested test same_key is ghosts before after count stands whole h =
      let gone = subst (λ l. IsPermutation (without key l) (rows_of next table.tree)) (sym was) (subst (IsPermutation _) (sym is) (removed_from values key test same_key xs)) in
      after_it ghosts next after ordered (removes the_schema at table delete tests means key (rows_of k) (rows_of next) tested alike gone (state ghosts before) (state ghosts after) count (before_it ghosts k before stands) whole h)

-- ---- tables whose key is a number

and_true : (b : Bool) → (b && true) ≡ b
and_true true = refl
and_true false = refl

-- a number is compared as the rowid is
pub same_number : (m n : ℕ) → (equal Binary (number m) (number n) && true) ≡ is_eq (nat_cmp m n)
same_number m n = and_true _ ∙ equal_int m n

-- numbers that compare as equal are the same
pub is_number : (m n : ℕ) → is_eq (nat_cmp m n) ≡ (m == n)
is_number m n =
    cond_both (nat_lt m n) Less (cond (m == n) Equal Greater) (λ o. is_eq o ≡ (m == n))
    (λ e. let l : m < n = ltb-true m n e in sym (ne_eqb m n (λ same. omega arith)))
    (λ _. cond_both (m == n) Equal Greater (λ o. is_eq o ≡ (m == n)) (λ e. sym e) (λ e. sym e))

pub finds_number : (m n : ℕ) → (equal Binary (number m) (number n) && true) ≡ (m == n)
finds_number m n = same_number m n ∙ is_number m n

-- numbers from the first to the last pass both tests of a range
pub finds_within : (first last n : ℕ) → (compares Ge (number n) (number first) && (compares Le (number n) (number last) && true)) ≡ is_within first last n
finds_within first last n = (λ i. compares_at_least n first i && (compares_at_most n last i && true)) ∙ ap (λ b. nat_le first n && b) (and_true (nat_le n last))

-- those above another
pub finds_beyond : (other n : ℕ) → (compares Gt (number n) (number other) && true) ≡ nat_lt other n
finds_beyond other n = and_true _ ∙ compares_above n other

-- those below another
truth : (b : Bool) → is_true (from_truth (Some b)) ≡ b
truth true = refl
truth false = refl

order_below : (a b : ℕ) → is_lt (nat_cmp a b) ≡ nat_lt a b
order_below a b = cond_both (nat_lt a b) Less (cond (a == b) Equal Greater) (λ o. is_lt o ≡ nat_lt a b) (λ e. sym e) (λ e. cond_both (a == b) Equal Greater (λ o. is_lt o ≡ nat_lt a b) (λ _. sym e) (λ _. sym e))

compares_below : (a b : ℕ) → compares Lt (number a) (number b) ≡ nat_lt a b
unfolding binary
compares_below a b = truth (is_lt (value_cmp (number a) (number b))) ∙ ap is_lt (value_cmp-Int (pos a) (pos b) ∙ int_nat a b) ∙ order_below a b

pub finds_below : (other n : ℕ) → (compares Lt (number n) (number other) && true) ≡ nat_lt n other
finds_below other n = and_true _ ∙ compares_below n other

itself : (n : ℕ) → binary Coalesce (number n) Null ≡ number n
unfolding binary
itself n = refl

pub finds_plus_number : (m n : ℕ) → (equal Binary (binary Coalesce (number m) Null) (number n) && true) ≡ (m == n)
finds_plus_number m n = (λ i. equal Binary (itself m i) (number n) && true) ∙ finds_number m n

pub finds_plus_below : (other n : ℕ) → (compares Lt (binary Coalesce (number n) Null) (number other) && true) ≡ nat_lt n other
finds_plus_below other n = (λ i. compares Lt (itself n i) (number other) && true) ∙ finds_below other n

-- texts that compare as equal are the same
pub finds_text : (a b : List ℕ) → (equal Binary (Text a) (Text b) && true) ≡ bytes_eq a b
finds_text a b = and_true _ ∙ equal_text a b ∙ is_eq-slice_cmp a b

-- an owner's number and a name are each the same
pub finds_named : (m n : ℕ) (a b : List ℕ) → (equal Binary (number m) (number n) && (equal Binary (Text a) (Text b) && true)) ≡ ((m == n) && bytes_eq a b)
finds_named m n a b = λ i. (equal_int m n ∙ is_number m n) i && finds_text a b i

-- the two parts of a key are compared in turn
pub both_equal : (a b : Ordering) → (is_eq a && (is_eq b && true)) ≡ is_eq (ordering_then a b)
both_equal Less b = refl
both_equal Equal Less = refl
both_equal Equal Equal = refl
both_equal Equal Greater = refl
both_equal Greater b = refl

-- the number is the rowid
pub numbered : (rows : List Row) (n : ℤ) (rest : Row) → with_rowid Chosen rows (cast Integer (Int n) ∷ rest) ≡ Int n ∷ rest
numbered rows n rest = ap (λ v. with_rowid Chosen rows (v ∷ rest)) (cast_int n)

-- a rowid that is chosen changes no column
pub unnumbered : (b : Bool) (n v : Value) (cells params : Row) (im : Row → Row) → ((v : Value) → im (v ∷ cells) ≡ params) → im (cond b (n ∷ cells) (v ∷ cells)) ≡ params
unnumbered true n v cells params im shown = shown n
unnumbered false n v cells params im shown = shown v

pub cast_option : (o : Option ℕ) → cast Integer (or_null number o) ≡ or_null number o
cast_option None = cast_null
cast_option (Some n) = cast_int (pos n)

-- ---- values as they are bound

pub bound_words : (o : Option (List ℕ)) → bound_value (or_null Text o) ≡ or_null Text o
bound_words None = refl
bound_words (Some t) = refl

pub bound_number : (o : Option ℕ) → bound_value (or_null number o) ≡ or_null number o
bound_number None = refl
bound_number (Some n) = refl
