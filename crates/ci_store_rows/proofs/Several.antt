-- Several new rows that one statement puts into a table.
use Rattle.ci_store.specs.Prelude.{Row, Term, eval_all, Table, Schema, value_rows, works, Enforced, has_key, Changes, Ghosts, Held, state, Kept, put}
use Rattle.ci_store_rows.specs.Prelude.{the_schema, rows_of, Rises, Stands}
use Rattle.std.proofs.lemmas.List.Sorted.{IsPermutation-cons, IsPermutation-trans}
use Rattle.ci_store_rows.proofs.Words.{◌≡◌, ◌∙◌, ◌/◌, ℕ, List, [], ◌∷◌, map, length, not, Ordering, is_eq, IsPermutation, sym, subst, all_of, all-map, map_map, IsPermutation-filter, IsPermutation-same}
use Rattle.ci_store_rows.proofs.Words.{MeansPut, MeansInsert, GivesRecord, inserts_several, new_rows, put_each, source, IsTotalOrder}
use Rattle.ci_store_rows.proofs.Lists.{put_among, put_rises}
use Rattle.ci_store_rows.proofs.Records.{before_it, after_it}
use Rattle.ci_store_rows.proofs.Tables.{Kind, Changing}

-- the records are put one after the other
abbrev pub all_put : {A : Type 0} → (A → A → Ordering) → List A → List A → List A
all_put cmp [] xs = xs
all_put cmp (x ∷ news) xs = all_put cmp news (put cmp x xs)

all_rises : {A : Type 0} (cmp : A → A → Ordering) → IsTotalOrder cmp → (news xs : List A) → Rises cmp xs → Rises cmp (all_put cmp news xs)
all_rises cmp total [] xs up = up
all_rises cmp total (x ∷ news) xs up = all_rises cmp total news (put cmp x xs) (put_rises cmp total x xs up)

-- no foreign key acts on rows that are new
abbrev pub IsIdle : Schema → ℕ → Type 0
IsIdle schema tree = (news : List Row) → works schema Enforced 0 tree [] news ≡ []

-- what the texts of one row do with the values of each record
pub record GivesEach {A : Type 0} (table : Table) (values : A → Row) (cmp : A → A → Ordering) (tests sets terms : List Term) : Type 0 where
  pub key : A → Row
  pub same_key : (x y : A) → has_key (key x) (values y) ≡ is_eq (cmp y x)
  pub gives : (x : A) → GivesRecord the_schema table tests sets terms (key x) (values x)

module _ {A : Type 0} (values : A → Row) (cmp : A → A → Ordering) (key : A → Row) (same_key : (x y : A) → has_key (key x) (values y) ≡ is_eq (cmp y x)) where
  all_among : (news xs : List A) (rows : List Row) → IsPermutation rows (map values xs) → IsPermutation (put_each (map (λ x. (key x, values x)) news) rows) (map values (all_put cmp news xs))
  all_among [] xs rows same = same
  all_among (x ∷ news) xs rows same =
      all_among news (put cmp x xs) _ (IsPermutation-trans _ _ _ (IsPermutation-cons (values x) _ _ (IsPermutation-filter (λ r. not (has_key (key x) r)) _ _ same)) (put_among values (key x) cmp x (same_key x) xs))

pub put_several : {A : Type 0} (kind : Kind A) {cmp : A → A → Ordering} {holding : List A → Kept → Kept} (changing : Changing kind cmp holding (λ x. Unit)) {update insert text : List ℕ} {tests sets terms all : List Term} {width : ℕ}
    → MeansPut the_schema kind.at kind.table update insert tests sets terms → MeansInsert the_schema kind.at text all width → IsIdle the_schema kind.table.tree → GivesEach kind.table kind.values cmp tests sets terms
    → (news : List A) (params : Row) → value_rows params width (length all / width) all ≡ map (λ x. eval_all terms (kind.values x ∷ [])) news
    → {S : Type 0} (g : Ghosts S) (old new : Held S) (count : ℕ) → Changes g text params count old new
    → (k : Kept) → Stands k (state g old).now → Stands (holding (all_put cmp news (kind.list k)) k) (state g new).now
put_several {A} kind {cmp} {holding} changing {update = update} {insert = insert} {tests = tests} {sets = sets} {terms = terms} means inserting idle each news params given g old new count ran k stands =
    let next = holding (all_put cmp news (kind.list k)) k in
    let o = stands.inside.regular in
    let keyed : A → Row × Row = λ x. (each.key x, kind.values x) in
    let gives = all-map (λ (n : Row × Row). GivesRecord the_schema kind.table tests sets terms n.0 n.1) keyed each.gives news in
    let moved = all_among kind.values cmp each.key each.same_key news (kind.list k) (rows_of k kind.table.tree) (IsPermutation-same _ _ (kind.was k)) in
    after_it g next new (changing.regular k _ (all_rises cmp changing.total news (kind.list k) (changing.holds k o).0) (all_of (λ x. Unit) (λ x. tt) _) o)
    (inserts_several the_schema kind.at kind.table update insert tests sets terms means inserting (map keyed news) gives params
    (given ∙ sym (map_map (source terms) keyed news)) (λ rows. idle (new_rows kind.table terms rows (map keyed news))) (rows_of k) (rows_of next) (changing.alike k _)
    (subst (IsPermutation _) (sym (changing.now k _)) moved) (state g old) (state g new) count (before_it g k old stands) ran)
