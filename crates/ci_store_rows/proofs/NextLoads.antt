-- The loads of next numbers.
use Rattle.ci_store.specs.Prelude.{Int, Text, value_cmp, Row, column, Shown, understood, everything, Kept, Numbers, Counter, has_key, next_of}
use Rattle.ci_store_rows.specs.Prelude.{SELECT_META, the_schema, meta, Stands, counter_key, meta_row, meta_rows, rows_of}
use Rattle.sqlite.specs.State.{State as Seen}
use Rattle.sqlite_sql.specs.Ops.{binary}
use Rattle.ci_store_rows.proofs.Words.{◌≡◌, ◌∙◌, ℕ, pos, List, [], ◌∷◌, filter, refl, ap, subst, IsPermutation, IsPlain, one_permutation, MeansSelect, selects}
use Rattle.ci_store_rows.proofs.Records.{is}
use Rattle.ci_store_rows.proofs.Shows.{columns_of, names_of, held}

pub means_meta : MeansSelect the_schema meta SELECT_META.now (is 1 0 ∷ []) (columns_of meta) [] (names_of meta)
unfolding understood everything
means_meta = record { is = refl; unlisted = refl; plain = (refl, refl) }

pub plain_meta : IsPlain (understood the_schema SELECT_META.now)
plain_meta = means_meta.plain

one_row : (c : Counter) (next : Numbers) → filter (has_key (Text (counter_key c) ∷ [])) (meta_rows next) ≡ meta_row (counter_key c) (next_of c next) ∷ []
unfolding binary value_cmp lib.Ieee.is_nan lib.Ieee.lt
one_row Counter.Project next = refl
one_row Counter.Runner next = refl
one_row Counter.Pipeline next = refl
one_row Counter.Job next = refl
one_row Counter.Attempt next = refl

pub next_found : (old new : Seen) (k : Kept) → Stands k old.now → (c : Counter) (rows : List Row) → Shown SELECT_META.now (Text (counter_key c) ∷ []) old new rows → rows ≡ meta_row (counter_key c) (next_of c k.state.next) ∷ []
next_found old new k stands c rows h =
    one_permutation (meta_row (counter_key c) (next_of c k.state.next)) rows
    (subst (λ l. IsPermutation l rows) (one_row c k.state.next)
    (selects the_schema meta SELECT_META.now (is 1 0 ∷ []) _ [] _ means_meta (Text (counter_key c) ∷ []) (has_key (Text (counter_key c) ∷ [])) (λ r. refl) (λ r. refl) old new (rows_of k meta.tree) rows stands.listed (held k old.now stands 0 meta refl) h))

pub number_read : (key : List ℕ) (m n : ℕ) (row : Row) → meta_row key n ≡ row → column row 1 ≡ Int (pos m) → m ≡ n
number_read key m n row is read = let e : Int (pos n) ≡ Int (pos m) = ap (λ r. column r 1) is ∙ read in cc
