-- What a step makes of the rows of a tree, as a list in any order.
use Rattle.std.proofs.Common.{◌≡◌, inl, inr, ℤ, List, [], ◌∷◌, map, filter, Bool, true, false, not, cond, ◌||◌, Ordering, Less, Equal, Greater, refl, sym, ap, subst, ◌∙◌, IsPermutation, IsTrue, is_eq}
use Rattle.std.specs.Ordering.{match_ordering}
use Rattle.std.specs.List.{list_any}
use Rattle.std.proofs.lemmas.Bool.{or_parts}
use Rattle.std.proofs.lemmas.Cmp.{tied_itself}
use Rattle.std.proofs.lemmas.Cmp.{tied_back}
use Rattle.std.proofs.lemmas.List.Sorted.{IsPermutation-refl, IsPermutation-sym, IsPermutation-cons, IsPermutation-trans, IsPermutation-middle, list_any-IsPermutation}
use Rattle.ci_store.specs.Prelude.{Int, value_cmp, has_rowid, without_rowid, IsTable, is_int, IsShaped, Has, is_taken}
use Rattle.sqlite_value.specs.Order.{Row}
use Rattle.sqlite_value.proofs.OrderLemmas.{value_cmp_total}
use Rattle.sqlite_trees.specs.Tree.{rowid, put_row}
use Rattle.sqlite_trees.specs.declared.store.Shape.TheVariants.{Table}
use Rattle.sqlite_rules.specs.Edit.{id_in, without_all}
use Rattle.sqlite_rules.proofs.ListLemmas.{all_has, all_from, some_has, some_from, has_filtered, has_kept}
use Rattle.sqlite_rules.proofs.TableLemmas.{int_is}
use Rattle.sqlite_trees.proofs.ListLemmas.{filter_same}

-- ---- rows that are taken out by their rowids

abbrev is_among : List ℤ → Row → Bool
is_among ids r = list_any (λ id. has_rowid id r) ids

filter_both : (p q : Row → Bool) (rows : List Row) → filter (λ r. not (q r)) (filter (λ r. not (p r)) rows) ≡ filter (λ r. not (p r || q r)) rows
filter_both p q [] = refl
filter_both p q (r ∷ rows) = go (p r) (q r) refl (filter_both p q rows)
  where
    go : (a b : Bool) → q r ≡ b → filter (λ r. not (q r)) (filter (λ r. not (p r)) rows) ≡ filter (λ r. not (p r || q r)) rows
        → filter (λ r. not (q r)) (cond (not a) (r ∷ filter (λ r. not (p r)) rows) (filter (λ r. not (p r)) rows)) ≡ cond (not (a || q r)) (r ∷ filter (λ r. not (p r || q r)) rows) (filter (λ r. not (p r || q r)) rows)
    go true b is more = more
    go false true is more = rw is more
    go false false is more = rw is (ap (λ l. r ∷ l) more)

kept_all : (rows : List Row) → rows ≡ filter (λ r. true) rows
kept_all [] = refl
kept_all (r ∷ rows) = ap (λ l. r ∷ l) (kept_all rows)

without_all_is : (ids : List ℤ) (rows : List Row) → without_all rows ids ≡ filter (λ r. not (is_among ids r)) rows
without_all_is [] rows = kept_all rows
without_all_is (id ∷ ids) rows = without_all_is ids (without_rowid id rows) ∙ filter_both (has_rowid id) (is_among ids) rows

-- of two rows of a table that have one rowid
one_row : (rows : List Row) → IsTable rows → (a b : Row) → Has rows a → Has rows b → value_cmp (rowid a) (rowid b) ≡ Equal → a ≡ b
one_row [] up a b ha hb same = absurd ha
one_row (r ∷ rows) up a b (inl ia) (inl ib) same = ia ∙ sym ib
one_row (r ∷ rows) up a b (inl ia) (inr hb) same = absurd (let e = all_has _ rows b up.0 hb in let f : value_cmp (rowid r) (rowid b) ≡ Equal = subst (λ x. value_cmp (rowid x) (rowid b) ≡ Equal) ia same in cc)
one_row (r ∷ rows) up a b (inr ha) (inl ib) same = absurd (let e = all_has _ rows a up.0 ha in let f : value_cmp (rowid r) (rowid a) ≡ Equal = tied_back value_cmp_total _ _ (subst (λ x. value_cmp (rowid a) (rowid x) ≡ Equal) ib same) in cc)
one_row (r ∷ rows) up a b (inr ha) (inr hb) same = one_row rows up.1 a b ha hb same

eq_is : (o : Ordering) → is_eq o ≡ true → o ≡ Equal
eq_is Less h = cc
eq_is Equal h = refl
eq_is Greater h = cc

map_has : (f : Row → ℤ) (rows : List Row) (r : Row) → Has rows r → Has (map f rows) (f r)
map_has f [] r h = absurd h
map_has f (x ∷ rows) r (inl is) = inl (ap f is)
map_has f (x ∷ rows) r (inr h) = inr (map_has f rows r h)

map_had : (f : Row → ℤ) (rows : List Row) (n : ℤ) → Has (map f rows) n → (r : Row) × Has rows r × (n ≡ f r)
map_had f [] n h = absurd h
map_had f (x ∷ rows) n (inl is) = (x, inl refl, is)
map_had f (x ∷ rows) n (inr h) = let found = map_had f rows n h in (found.0, inr found.1, found.2)

same_test : (a b : Bool) → (a ≡ true → b ≡ true) → (b ≡ true → a ≡ true) → a ≡ b
same_test true b f g = sym (f refl)
same_test false true f g = g refl
same_test false false f g = refl

abbrev pub ids : List Row → List ℤ
ids = map (λ r. id_in (rowid r))

gone_if : (p : Row → Bool) (rows : List Row) → IsShaped Table rows → (r : Row) → Has rows r → list_any (λ id. has_rowid id r) (ids (filter p rows)) ≡ p r
gone_if p rows shaped r h = same_test _ _ out back
  where
    keyed : (x : Row) → Has rows x → rowid x ≡ Int (id_in (rowid x))
    keyed x there = int_is _ (all_has (λ r. IsTrue (is_int (rowid r))) rows x shaped.1 there)

    out : list_any (λ id. has_rowid id r) (ids (filter p rows)) ≡ true → p r ≡ true
    out some =
        let found = some_has _ (ids (filter p rows)) some in
        let from = map_had _ (filter p rows) found.0 found.1 in
        let was = has_filtered p rows from.0 from.1 in
        let tied : value_cmp (rowid r) (rowid from.0) ≡ Equal = rw (keyed from.0 was.0) (subst (λ n. value_cmp (rowid r) (Int n) ≡ Equal) from.2 (eq_is _ found.2)) in
        rw (one_row rows shaped.0 r from.0 h was.0 tied) was.1

    back : p r ≡ true → list_any (λ id. has_rowid id r) (ids (filter p rows)) ≡ true
    back passes =
        some_from _ (ids (filter p rows)) (id_in (rowid r)) (map_has _ (filter p rows) r (has_kept p rows r h passes))
        (subst (λ v. is_eq (value_cmp v (Int (id_in (rowid r)))) ≡ true) (sym (keyed r h)) (ap is_eq (tied_itself value_cmp_total (Int (id_in (rowid r))))))

-- what is left where the rows that pass a test are taken out
pub left : (p : Row → Bool) (rows : List Row) (gone : List ℤ) → IsShaped Table rows → IsPermutation (ids (filter p rows)) gone → without_all rows gone ≡ filter (λ r. not (p r)) rows
left p rows gone shaped same =
    without_all_is gone rows
    ∙ filter_same (λ r. not (is_among gone r)) (λ r. not (p r)) rows (all_from _ rows (λ r h. ap not (sym (list_any-IsPermutation (λ id. has_rowid id r) _ _ same) ∙ gone_if p rows shaped r h)))

-- ---- a row that is put in

abbrev Put : Ordering → Row → Row → List Row → List Row
Put o new r rows = match_ordering o (r ∷ put_row new rows) (new ∷ rows) (new ∷ r ∷ rows)

swapped : (a b : Row) (rows : List Row) → IsPermutation (a ∷ b ∷ rows) (b ∷ a ∷ rows)
swapped a b rows = IsPermutation-sym _ _ (IsPermutation-middle (b ∷ []) a rows)

pub put_free : (new : Row) (rows : List Row) → is_taken rows new ≡ false → IsPermutation (new ∷ rows) (put_row new rows)
put_free new [] free = IsPermutation-refl _
put_free new (r ∷ rows) free = go (value_cmp (rowid r) (rowid new)) (or_parts _ _ free).0 (put_free new rows (or_parts _ _ free).1)
  where
    go : (o : Ordering) → is_eq o ≡ false → IsPermutation (new ∷ rows) (put_row new rows) → IsPermutation (new ∷ r ∷ rows) (Put o new r rows)
    go Less other more = IsPermutation-trans _ _ _ (swapped new r rows) (IsPermutation-cons r _ _ more)
    go Equal other more = cc
    go Greater other more = IsPermutation-refl _
