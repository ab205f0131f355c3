-- What is entered into a map or a set of std is put in its place.
use Rattle.std.proofs.Common.{◌≡◌, ℕ, not, List, [], ◌∷◌, ◌++◌, map, nat_cmp, is_eq, is_lt, Ordering, Less, Equal, Greater, refl, sym, ap, ◌∙◌}
use Rattle.std.specs.Borrow.{Bor}
use Rattle.std.specs.BTreeMap.{insert_entry}
use Rattle.std.specs.BTreeSet.{insert_key}
use Rattle.std.specs.Map.{keys_of}
use Rattle.std.specs.Cmp.{IsTotalOrder}
use Rattle.std.specs.Cmp.Lexicographic.{slice_cmp}
use Rattle.std.specs.List.{AllByRecursion}
use Rattle.std.specs.List.Sorted.{IsStrictlySortedBy}
use Rattle.std.specs.Ordering.{match_ordering, ordering_reverse, ordering_then}
use Rattle.std.proofs.lemmas.Bool.{cond-true, cond-false, false≢true}
use Rattle.std.proofs.lemmas.Cmp.{nat_cmp_total, on_total, then_total, nat_list_cmp_total}
use Rattle.std.proofs.lemmas.Map.Text.{is_eq-slice_cmp}
use Rattle.std.proofs.lemmas.Slice.Eq.{bytes_eq-Decides}
use Rattle.ci_machine_steps.specs.Prelude.{Variables, layer_view, Need, placed, others, put, need_cmp, name_cmp, merged}
use Rattle.ci_machine.proofs.Keyed.{same}
use Rattle.ci_machine_pipelines.specs.Creations.{need_of_key}

-- ---- where an ordered list has it

-- x is less than each
abbrev IsBelow : {A : Type 0} → (A → A → Ordering) → A → List A → Type 0
IsBelow cmp x ys = AllByRecursion (λ y. cmp x y ≡ Less) ys

module _ {A : Type 0} (cmp : A → A → Ordering) (o : IsTotalOrder cmp) where
  turned : (x y : A) (r : Ordering) → cmp x y ≡ r → cmp y x ≡ ordering_reverse r
  turned x y r e = o.antisymm y x ∙ ap ordering_reverse e

  all_stay : (x : A) (ys : List A) → IsBelow cmp x ys → others cmp x ys ≡ ys
  all_stay x [] h = refl
  all_stay x (y ∷ ys) h =
      cond-true (not (is_eq (cmp y x))) (y ∷ others cmp x ys) (others cmp x ys) (ap (λ r. not (is_eq r)) (turned x y Less h.0))
      ∙ ap (λ l. y ∷ l) (all_stay x ys h.1)

  goes_first : (x : A) (ys : List A) → IsBelow cmp x ys → placed cmp x ys ≡ x ∷ ys
  goes_first x [] h = refl
  goes_first x (y ∷ ys) h = cond-false (is_lt (cmp y x)) (y ∷ placed cmp x ys) (x ∷ y ∷ ys) (ap is_lt (turned x y Less h.0))

  put_first : (x : A) (ys : List A) → IsBelow cmp x ys → put cmp x ys ≡ x ∷ ys
  put_first x ys h = ap (placed cmp x) (all_stay x ys h) ∙ goes_first x ys h

  put_same : (x y : A) (ys : List A) → cmp x y ≡ Equal → IsBelow cmp x ys → put cmp x (y ∷ ys) ≡ x ∷ ys
  put_same x y ys e h =
      ap (placed cmp x) (cond-false (not (is_eq (cmp y x))) (y ∷ others cmp x ys) (others cmp x ys) (ap (λ r. not (is_eq r)) (turned x y Equal e)))
      ∙ put_first x ys h

  put_later : (x y : A) (ys : List A) → cmp x y ≡ Greater → put cmp x (y ∷ ys) ≡ y ∷ put cmp x ys
  put_later x y ys e =
      ap (placed cmp x) (cond-true (not (is_eq (cmp y x))) (y ∷ others cmp x ys) (others cmp x ys) (ap (λ r. not (is_eq r)) (turned x y Greater e)))
      ∙ cond-true (is_lt (cmp y x)) (y ∷ placed cmp x (others cmp x ys)) (x ∷ y ∷ others cmp x ys) (ap is_lt (turned x y Greater e))

  below_more : (x y : A) (ys : List A) → cmp x y ≡ Less → IsBelow cmp y ys → IsBelow cmp x ys
  below_more x y [] e h = tt
  below_more x y (z ∷ zs) e h = (o.trans x y z e h.0, below_more x y zs e h.1)

  below_alike : (x y : A) (ys : List A) → cmp x y ≡ Equal → IsBelow cmp y ys → IsBelow cmp x ys
  below_alike x y [] e h = tt
  below_alike x y (z ∷ zs) e h = (o.congr x y z e ∙ h.0, below_alike x y zs e h.1)

  -- put into a list whose first is less than all others
  put_step : (x y : A) (ys : List A) (r : Ordering) → cmp x y ≡ r → IsBelow cmp y ys → match_ordering r (x ∷ y ∷ ys) (x ∷ ys) (y ∷ put cmp x ys) ≡ put cmp x (y ∷ ys)
  put_step x y ys Less e h = sym (put_first x (y ∷ ys) (e, below_more x y ys e h))
  put_step x y ys Equal e h = sym (put_same x y ys e (below_alike x y ys e h))
  put_step x y ys Greater e h = sym (put_later x y ys e)

rises : {K : Type 0} (cmp : K → K → Ordering) (k : K) (ks : List K) → IsStrictlySortedBy cmp (k ∷ ks) → AllByRecursion (λ l. cmp k l ≡ Less) ks × IsStrictlySortedBy cmp ks
unfolding IsStrictlySortedBy
rises cmp k ks s = s

-- ---- entries of a map, and keys of a set

module _ {K X A : Type 0} (key_cmp : K → K → Ordering) (cmp : A → A → Ordering) (o : IsTotalOrder cmp) (view : K × X → A) (agree : (d e : K × X) → cmp (view d) (view e) ≡ key_cmp d.0 e.0)
    (alike : (k l : K) (v : X) → key_cmp k l ≡ Equal → view (l, v) ≡ view (k, v)) where
  entries_above : (e : K × X) (es : List (K × X)) → AllByRecursion (λ l. key_cmp e.0 l ≡ Less) (keys_of es) → IsBelow cmp (view e) (map view es)
  entries_above e [] h = tt
  entries_above e (d ∷ ds) h = (agree e d ∙ h.0, entries_above e ds h.1)

  entry_step : (e : K × X) (es : List (K × X)) (k : K) (v : X) (r : Ordering) → key_cmp k e.0 ≡ r → IsBelow cmp (view e) (map view es)
      → map view (insert_entry key_cmp es k v) ≡ put cmp (view (k, v)) (map view es)
      → map view (match_ordering r ((k, v) ∷ e ∷ es) ((e.0, v) ∷ es) (e ∷ insert_entry key_cmp es k v)) ≡ put cmp (view (k, v)) (view e ∷ map view es)
  entry_step e es k v Less is h next = put_step cmp o (view (k, v)) (view e) (map view es) Less (agree (k, v) e ∙ is) h
  entry_step e es k v Equal is h next = ap (λ y. y ∷ map view es) (alike k e.0 v is) ∙ put_step cmp o (view (k, v)) (view e) (map view es) Equal (agree (k, v) e ∙ is) h
  entry_step e es k v Greater is h next = ap (λ l. view e ∷ l) next ∙ put_step cmp o (view (k, v)) (view e) (map view es) Greater (agree (k, v) e ∙ is) h

  entry_put : (es : List (K × X)) (k : K) (v : X) → IsStrictlySortedBy key_cmp (keys_of es) → map view (insert_entry key_cmp es k v) ≡ put cmp (view (k, v)) (map view es)
  entry_put [] k v s = refl
  entry_put (e ∷ es) k v s =
      let w = rises key_cmp e.0 (keys_of es) s in
      entry_step e es k v (key_cmp k e.0) refl (entries_above e es w.0) (entry_put es k v w.1)

module _ {K A : Type 0} (key_cmp : K → K → Ordering) (cmp : A → A → Ordering) (o : IsTotalOrder cmp) (view : K → A) (agree : (k l : K) → cmp (view k) (view l) ≡ key_cmp k l)
    (alike : (k l : K) → key_cmp k l ≡ Equal → view l ≡ view k) where
  keys_above : (k : K) (ks : List K) → AllByRecursion (λ l. key_cmp k l ≡ Less) ks → IsBelow cmp (view k) (map view ks)
  keys_above k [] h = tt
  keys_above k (l ∷ ls) h = (agree k l ∙ h.0, keys_above k ls h.1)

  key_step : (x : K) (xs : List K) (k : K) (r : Ordering) → key_cmp k x ≡ r → IsBelow cmp (view x) (map view xs)
      → map view (insert_key key_cmp xs k) ≡ put cmp (view k) (map view xs)
      → map view (match_ordering r (k ∷ x ∷ xs) (x ∷ xs) (x ∷ insert_key key_cmp xs k)) ≡ put cmp (view k) (view x ∷ map view xs)
  key_step x xs k Less is h next = put_step cmp o (view k) (view x) (map view xs) Less (agree k x ∙ is) h
  key_step x xs k Equal is h next = ap (λ y. y ∷ map view xs) (alike k x is) ∙ put_step cmp o (view k) (view x) (map view xs) Equal (agree k x ∙ is) h
  key_step x xs k Greater is h next = ap (λ l. view x ∷ l) next ∙ put_step cmp o (view k) (view x) (map view xs) Greater (agree k x ∙ is) h

  key_put : (xs : List K) (k : K) → IsStrictlySortedBy key_cmp xs → map view (insert_key key_cmp xs k) ≡ put cmp (view k) (map view xs)
  key_put [] k s = refl
  key_put (x ∷ xs) k s =
      let w = rises key_cmp x xs s in
      key_step x xs k (key_cmp k x) refl (keys_above x xs w.0) (key_put xs k w.1)

-- ---- variables by their names

abbrev pub Word : Type 0
Word = Bor (List ℕ)

abbrev word_cmp : Word → Word → Ordering
word_cmp x y = slice_cmp nat_cmp x.now y.now

abbrev pair_view : Word × Word → List ℕ × List ℕ
pair_view p = (p.0.now, p.1.now)

name_total : IsTotalOrder name_cmp
name_total = on_total (λ (v : List ℕ × List ℕ). v.0) nat_list_cmp_total

same_words : (k l : List ℕ) → slice_cmp nat_cmp k l ≡ Equal → l ≡ k
same_words k l e = sym ((bytes_eq-Decides k l).0 (sym (is_eq-slice_cmp k l) ∙ ap is_eq e))

pub name_put : (es : List (Word × Word)) (k v : Word) → IsStrictlySortedBy word_cmp (keys_of es) → layer_view (insert_entry word_cmp es k v) ≡ put name_cmp (k.now, v.now) (layer_view es)
name_put es k v s =
    entry_put word_cmp name_cmp name_total pair_view (λ d e. refl) (λ k l v is. ap (λ (w : List ℕ). (w, v.now)) (same_words k.now l.now is)) es k v s

-- these put on what is there, the last of them first
abbrev pub onto : Variables → Variables → Variables
onto [] all = all
onto (v ∷ vs) all = put name_cmp v (onto vs all)

pub onto_none : (vs : Variables) → onto vs [] ≡ merged vs
onto_none [] = refl
onto_none (v ∷ vs) = ap (put name_cmp v) (onto_none vs)

onto_last : (rest : List (Word × Word)) (pair : Word × Word) (all : Variables) → onto (layer_view (rest ++ pair ∷ [])) all ≡ onto (layer_view rest) (put name_cmp (pair.0.now, pair.1.now) all)
onto_last [] pair all = refl
onto_last (p ∷ ps) pair all = ap (put name_cmp (p.0.now, p.1.now)) (onto_last ps pair all)

-- the last of the pairs is put, and the others are left
pub onto_further : (pairs rest : List (Word × Word)) (pair : Word × Word) (before after : Variables) → pairs ≡ rest ++ pair ∷ [] → after ≡ put name_cmp (pair.0.now, pair.1.now) before
    → onto (layer_view rest) after ≡ onto (layer_view pairs) before
onto_further pairs rest pair before after parts is =
    ap (onto (layer_view rest)) is ∙ sym (ap (λ (ps : List (Word × Word)). onto (layer_view ps) before) parts ∙ onto_last rest pair before)

-- ---- needs by their jobs

abbrev pair_cmp : ℕ × ℕ → ℕ × ℕ → Ordering
pair_cmp x y = ordering_then (nat_cmp x.0 y.0) (nat_cmp x.1 y.1)

need_total : IsTotalOrder need_cmp
need_total = then_total (on_total (λ (w : Need). w.job) nat_cmp_total) (on_total (λ (w : Need). w.pred) nat_cmp_total)

both_equal : (a b : Ordering) → ordering_then a b ≡ Equal → (a ≡ Equal) × (b ≡ Equal)
both_equal Less b e = absurd (false≢true (ap is_eq e))
both_equal Equal b e = (refl, e)
both_equal Greater b e = absurd (false≢true (ap is_eq e))

same_numbers : (k l : ℕ) → nat_cmp k l ≡ Equal → l ≡ k
same_numbers k l e = sym (same k l (ap is_eq e))

same_pairs : (k l : ℕ × ℕ) → pair_cmp k l ≡ Equal → need_of_key l ≡ need_of_key k
same_pairs k l e =
    let w = both_equal (nat_cmp k.0 l.0) (nat_cmp k.1 l.1) e in
    λ i. record { job = same_numbers k.0 l.0 w.0 i; pred = same_numbers k.1 l.1 w.1 i }

pub need_put : (ks : List (ℕ × ℕ)) (k : ℕ × ℕ) → IsStrictlySortedBy pair_cmp ks → map need_of_key (insert_key pair_cmp ks k) ≡ put need_cmp (need_of_key k) (map need_of_key ks)
need_put ks k s = key_put pair_cmp need_cmp need_total need_of_key (λ x y. refl) same_pairs ks k s
