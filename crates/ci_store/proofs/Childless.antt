-- Where no row refers to what a step takes out, the foreign keys do nothing more.
use Rattle.std.proofs.Common.{◌≡◌, ◌≢◌, inl, inr, ℕ, zero, suc, ℤ, List, [], ◌∷◌, map, filter, Bool, true, false, ◌&&◌, ◌||◌, Some, Ok, Err, MatchBool, Ordering, Less, Equal}
use Rattle.std.proofs.Common.{Greater, is_eq, codes, refl, sym, ap, subst, ◌∙◌, nat_lt, IsPermutation, int_cmp}
use Rattle.std.specs.List.{AllByRecursion, list_any}
use Rattle.std.proofs.lemmas.Bool.{and_parts}
use Rattle.std.proofs.lemmas.Cmp.{tied_itself, int_ranked}
use Rattle.ci_store.specs.Prelude.{Int, Row, column, Term, Table, Schema, Trees, Edit, edit_of, taken_by, Given, value_cmp, plain, has_rowid, IsShaped, equal, Keys, Enforced}
use Rattle.ci_store.specs.Prelude.{TooDeep, Applies, Has, ids_of, End, Work, works, pairs, is_child_of, AreChildren, ActsOn, Leads, max_depth}
use Rattle.sqlite.specs.Tree.{rowid}
use Rattle.sqlite.specs.Edit.{id_in}
use Rattle.sqlite.specs.Collation.TheVariants.{Binary}
use Rattle.sqlite_value.specs.declared.keys.Key.{Key}
use Rattle.sqlite_value.proofs.KeyLemmas.{first_key-plain}
use Rattle.sqlite_value.proofs.OrderLemmas.{value_cmp-Int, value_cmp_total}
use Rattle.sqlite_trees.specs.declared.store.Shape.TheVariants as shape
use Rattle.sqlite_trees.proofs.ListLemmas.{all-permutation}
use Rattle.sqlite_schema.specs.declared.schema.Action.TheVariants as act
use Rattle.sqlite_rules.specs.declared.action.Deed.TheVariants as deed
use Rattle.sqlite_rules.specs.Edit.{row_at}
use Rattle.sqlite_rules.specs.Action.{Writes}
use Rattle.sqlite_rules.proofs.ListLemmas.{all_has, all_from, has_left, has_right, has_filtered}
use Rattle.sqlite_rules.proofs.ProbeLemmas.{has_mapped}
use Rattle.sqlite_rules.proofs.PlaceLemmas.{row_at_is}
use Rattle.sqlite_rules.proofs.TableLemmas.{int_is}
use Rattle.ci_store.proofs.Queries.{picks}
use Rattle.ci_store.proofs.Rows.{ids}
use Rattle.ci_store.proofs.Writes.{IsWholeStep}
use Rattle.ci_store.proofs.Absent.{equal_ints}

-- no row is a child of what the work moves
abbrev pub IsChildless : Trees → Work → Type 0
IsChildless db w = (r : Row) → Has (db w.child.tree) r → list_any (is_child_of w r) w.moves ≡ false

none_there : (db : Trees) (w : Work) (ids : List ℤ) → IsChildless db w → AreChildren db w ids → ids ≡ []
none_there db w [] alone h = refl
none_there db w (id ∷ ids) alone h = absurd (let found = h.sound id (inl refl) in let none = alone found.0 found.1 in let some = found.2 in cc)

module _ (schema : Schema) (keys : Keys) where
  acted : (b : Bool) (Then : Trees → List Work → End → Type 0) (db next : Trees) (w : Work) (below : List Work) → IsChildless db w
      → MatchBool b ((ids : List ℤ) × AreChildren db w ids × ActsOn schema keys Then db w below (Ok next) ids) (◌≡◌ {A = End} (Ok next) (Err (Some TooDeep))) → Then db below (Ok next)
  acted true Then db next w below alone h = subst (ActsOn schema keys Then db w below (Ok next)) (none_there db w h.0 alone h.1) h.2
  acted false Then db next w below alone h = absurd (let e = h in cc)

  unmoved : (n : ℕ) (db next : Trees) (stack : List Work) → ((w : Work) → Has stack w → IsChildless db w) → Leads schema keys n db stack (Ok next) → db ≡ next
  unmoved zero db next stack alone h = let e = h.1 in cc
  unmoved (suc n) db next stack alone h =
      let w = h.1 in
      let last : Has stack w = subst (λ l. Has l w) (sym h.2) (has_right h.0 (w ∷ []) w (inl refl)) in
      unmoved n db next h.0 (λ v there. alone v (subst (λ l. Has l v) (sym h.2) (has_left h.0 (w ∷ []) v there))) (acted (nat_lt w.depth max_depth) (Leads schema keys n) db next w h.0 (alone w last) h.3)

  -- the step is the whole of the write
  pub childless_step : (db next : Trees) (edit : Edit) → ((mid : Trees) → Applies schema keys db edit mid → (w : Work) → Has (works schema keys 0 edit.table.tree (taken_by db edit) edit.news) w → IsChildless mid w)
      → Writes schema keys db edit (Ok next) → Applies schema keys db edit next
  childless_step db next edit alone (inl refused) = absurd (let e = refused.2 in cc)
  childless_step db next edit alone (inr (inl big)) = absurd (let e = big.3 in cc)
  childless_step db next edit alone (inr (inr went)) = subst (Applies schema keys db edit) (unmoved went.2.0 went.0 next _ (alone went.0 went.1) went.2.1) went.1

-- ---- a row that is removed by its number

abbrev pub cascade : Table → ℕ → List ℕ → List Row → Work
cascade child place parent olds = record {
  depth = 0;
  child = child;
  ref = record { columns = place ∷ []; parent = parent; parent_columns = codes "id" ∷ []; on_delete = act.Cascade; on_update = act.NoAction; is_deferred = false };
  places = 0 ∷ [];
  order = plain;
  deed = deed.Delete;
  moves = pairs olds [];
}

both_false : (a b c : Bool) → b ≡ false → c ≡ false → ((a && (b && true)) || c) ≡ false
both_false true b c hb hc = (λ i. (hb i && true) || hc i)
both_false false b c hb hc = hc

apart_moves : (child : Table) (place : ℕ) (parent : List ℕ) (all : List Row) (r : Row) (olds : List Row) → ((old : Row) → Has olds old → equal Binary (column r place) (column old 0) ≡ false)
    → list_any (is_child_of (cascade child place parent all) r) (pairs olds []) ≡ false
apart_moves child place parent all r [] apart = refl
apart_moves child place parent all r (old ∷ olds) apart =
    both_false _ _ _ (ap (λ (k : Key). equal k.collation (column r place) (column old 0)) first_key-plain ∙ apart old (inl refl)) (apart_moves child place parent all r olds (λ o h. apart o (inr h)))

-- no row of the child refers to the number
abbrev pub LacksChild : Table → ℕ → ℤ → Trees → Type 0
LacksChild child place n db = (r : Row) → Has (db child.tree) r → equal Binary (column r place) (Int n) ≡ false

pub lone : (child : Table) (place : ℕ) (parent : List ℕ) (olds : List Row) (n : ℤ) (db : Trees) → ((old : Row) → Has olds old → column old 0 ≡ Int n) → LacksChild child place n db → IsChildless db (cascade child place parent olds)
lone child place parent olds n db are none r there = apart_moves child place parent olds r olds (λ old h. ap (equal Binary (column r place)) (are old h) ∙ none r there)

has_back : {X : Type 0} (xs ys : List X) (x : X) → IsPermutation xs ys → Has ys x → Has xs x
has_back xs ys x same = all_has (Has xs) ys x (all-permutation (Has xs) xs ys same (all_from (Has xs) xs (λ e h. h)))

same_ints : (m n : ℤ) → (equal Binary (Int m) (Int n) && true) ≡ true → m ≡ n
same_ints m n h =
    let tied : is_eq (int_cmp m n) ≡ true = ap is_eq (sym (value_cmp-Int m n)) ∙ sym (equal_ints m n) ∙ (and_parts _ _ h).0 in
    go (int_cmp m n) refl tied
  where
    go : (o : Ordering) → int_cmp m n ≡ o → is_eq o ≡ true → m ≡ n
    go Less is h = cc
    go Equal is h = int_ranked m n Equal (sym is)
    go Greater is h = cc

-- the rows that are taken out by a number have it
pub taken_is : (table : Table) (n : ℤ) (p : Row → Bool) (db : Trees) (rows : List Row) → ((r : Row) → p r ≡ (equal Binary (rowid r) (Int n) && true)) → IsShaped shape.Table (db table.tree)
    → IsPermutation (ids (filter p (db table.tree))) (ids_of rows) → (old : Row) → Has (map (row_at (db table.tree)) (ids_of rows)) old → column old 0 ≡ Int n
taken_is table n p db rows tests shaped same old h =
    let from = has_mapped (row_at (db table.tree)) (ids_of rows) old h in
    let was = has_back (ids (filter p (db table.tree))) (ids_of rows) from.0 same from.1 in
    let source = has_mapped (λ r. id_in (rowid r)) (filter p (db table.tree)) from.0 was in
    let there = has_filtered p (db table.tree) source.0 source.1 in
    let int = int_is (rowid source.0) (all_has _ (db table.tree) source.0 shaped.1 there.0) in
    let key : id_in (rowid source.0) ≡ n = same_ints _ n (sym (tests source.0 ∙ ap (λ v. equal Binary v (Int n) && true) int) ∙ there.1) in
    let at : has_rowid from.0 source.0 ≡ true = ap (λ v. is_eq (value_cmp v (Int from.0))) (int ∙ ap Int (sym source.2)) ∙ ap is_eq (tied_itself value_cmp_total (Int from.0)) in
    ap rowid (from.2 ∙ row_at_is (db table.tree) from.0 source.0 shaped.0 there.0 at) ∙ int ∙ ap Int key

-- A removal by a number is a step of its own where the works that it sets off have no child with the number.
pub whole_if_childless : (schema : Schema) (table : Table) (tests : List Term) (params : Row) (n : ℤ) (db : Trees) → ((r : Row) → picks tests params r ≡ (equal Binary (rowid r) (Int n) && true)) → IsShaped shape.Table (db table.tree)
    → ((olds : List Row) (mid : Trees) → ((old : Row) → Has olds old → column old 0 ≡ Int n) → AllByRecursion (λ t. t.tree ≢ table.tree → mid t.tree ≡ db t.tree) schema.tables → (w : Work)
    → Has (works schema Enforced 0 table.tree olds []) w → IsChildless mid w)
    → IsWholeStep schema table tests params db
whole_if_childless schema table tests params n db tested shaped alone rows next same made =
    let edit = edit_of db table (ids_of rows) Given 0 [] in
    childless_step schema Enforced db next edit
    (λ mid step w h. alone (taken_by db edit) mid (taken_is table n (picks tests params) db rows tested shaped same) step.tables w h) made
