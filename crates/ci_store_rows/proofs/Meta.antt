-- The statements that write `meta`.
use Rattle.ci_store.specs.Prelude.{Null, Text, plain, is_null, value_cmp, equal, agree, Row, column, Term, lit, col, cast, Integer, everything, understood, Ghosts, Held}
use Rattle.ci_store.specs.Prelude.{state, Kept, with_next, Numbers, Counter, image, places, without, Changes}
use Rattle.ci_store_rows.specs.Prelude.{UPDATE_META, INSERT_META, the_schema, meta, meta_index_1, meta_row, meta_rows, counter_key, rows_by_tree, rows_of, Stands}
use Rattle.sqlite_sql.specs.Ops.{binary}
use Rattle.std.proofs.lemmas.List.Sorted.{IsPermutation-middle, IsPermutation-sym}
use Rattle.ci_store_rows.proofs.Words.{◌≡◌, ◌∙◌, ℕ, pos, List, [], ◌∷◌, true, ◌&&◌, refl, sym, inl, IsPermutation, drop, Binary, first_key-plain, MeansPut}
use Rattle.ci_store_rows.proofs.Words.{GivesRecord, updates_one, absent_unique, cast_int, take, rules}
use Rattle.ci_store_rows.proofs.OneList.{alike_but}
use Rattle.ci_store_rows.proofs.Records.{is, before_it, after_it, unnumbered}

abbrev pub sets : List Term
sets = col 1 0 ∷ col 0 0 ∷ col 0 1 ∷ []

abbrev pub terms : List Term
terms = lit Null ∷ col 0 0 ∷ col 0 1 ∷ []

pub means : MeansPut the_schema 0 meta UPDATE_META.now INSERT_META.now (is 1 0 ∷ []) sets terms
unfolding understood everything
means = record { there = refl; apart = refl; update_is = refl; update_plain = (refl, refl); insert_is = refl; insert_plain = (refl, refl); uncounted = refl; unstamped = refl; idle = refl; alone = λ olds a. refl }

agrees : (r new_row : Row) (key : List ℕ) (num : ℕ) → image (places meta) new_row ≡ meta_row key num → (equal Binary (column r 1) (Text key) && true) ≡ agree plain (1 ∷ []) r (1 ∷ []) new_row
agrees r new_row key num is = sym (λ i. equal (first_key-plain i).collation (column r 1) (column (is i) 0) && true)

pub gives : (key : List ℕ) (num : ℕ) → GivesRecord the_schema meta (is 1 0 ∷ []) sets terms (Text key ∷ []) (meta_row key num)
gives key num = record {
  tested = λ r. refl;
  updated = λ old. λ i. Text key ∷ cast_int (pos num) i ∷ [];
  source = refl;
  inserted = λ rows. unnumbered (is_null (cast Integer Null)) _ _ _ _ (image (places meta)) (λ v. refl) ∙ (λ i. Text key ∷ cast_int (pos num) i ∷ []);
  absent = λ rows new_row news db shaped is keyed fresh put sound. absent_unique the_schema meta meta_index_1 (inl refl) (inl refl) refl rows new_row news db _ (λ r. agrees r new_row key num is) shaped keyed fresh put sound;
}

moved : (c : Counter) (n : ℕ) (next : Numbers) → IsPermutation (meta_row (counter_key c) n ∷ without (Text (counter_key c) ∷ []) (meta_rows next)) (meta_rows (with_next c n next))
unfolding binary value_cmp lib.Ieee.is_nan lib.Ieee.lt
moved Counter.Project n next = IsPermutation-sym _ _ (IsPermutation-middle (take 2 (meta_rows next)) _ _)
moved Counter.Runner n next = IsPermutation-sym _ _ (IsPermutation-middle (take 3 (meta_rows next)) _ _)
moved Counter.Pipeline n next = IsPermutation-sym _ _ (IsPermutation-middle (take 4 (meta_rows next)) _ _)
moved Counter.Job n next = IsPermutation-sym _ _ (IsPermutation-middle (take 5 (meta_rows next)) _ _)
moved Counter.Attempt n next = IsPermutation-sym _ _ (IsPermutation-middle (take 6 (meta_rows next)) _ _)

pub next_sets : {S : Type 0} (ghosts : Ghosts S) (before after : Held S) (c : Counter) (n : ℕ) (k : Kept) → Stands k (state ghosts before).now → Changes ghosts UPDATE_META.now (meta_row (counter_key c) n) 1 before after
    → Stands (record k { state = record k.state { next = with_next c n k.state.next } }) (state ghosts after).now
next_sets ghosts before after c n k stands h =
    let next = record k { state = record k.state { next = with_next c n k.state.next } } in
    after_it ghosts next after (let o = stands.inside.regular in search rules)
    (updates_one the_schema 0 meta UPDATE_META.now INSERT_META.now (is 1 0 ∷ []) sets terms means (Text (counter_key c) ∷ []) (meta_row (counter_key c) n) (gives (counter_key c) n) (rows_of k) (rows_of next)
    (alike_but [] (drop 1 (rows_by_tree k)) meta (meta_rows k.state.next) (meta_rows (with_next c n k.state.next))) (moved c n k.state.next) (state ghosts before) (state ghosts after) (before_it ghosts k before stands) h)
