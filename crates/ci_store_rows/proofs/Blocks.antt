-- The statements that write and show `piece`, whose rows are the blocks of traces.
use Rattle.ci_store.specs.Prelude.{IsAscending, equal, Null, Blob, Row, column, col, Database, everything, understood, Shown, Ghosts, Held, state, Kept, without_record}
use Rattle.ci_store.specs.Prelude.{with_bytes, trace_cmp, trace_of, Trace, Key, HoldsRows, without, HasPut, lit}
use Rattle.ci_store_rows.specs.Prelude.{Block, UPDATE_BLOCK, INSERT_BLOCK, DELETE_BLOCKS, SELECT_BLOCKS, SELECT_LAST_BLOCKS, the_schema, piece, piece_index_1, all_blocks}
use Rattle.ci_store_rows.specs.Prelude.{blocks_of, last_block, StaysWithin, number, block_row, bytes_in, ShowsRecords, listed, rows_by_tree, rows_of, rows_at, Stands, in_state}
use Rattle.ci_store_rows.specs.Prelude.{appended, RemovesUnreferred}
use Rattle.std.proofs.lemmas.List.Sorted.{IsPermutation-map}
use Rattle.ci_store_rows.proofs.Words.{◌≡◌, ◌∙◌, ◌==◌, ◌++◌, ℕ, pos, List, [], ◌∷◌, Bool, true, None, Less, is_eq, refl, sym, ap, subst, ◌&&◌, Option, map, take, drop, filter}
use Rattle.ci_store_rows.proofs.Words.{reverse, IsPermutation, nat_cmp, flat_map, last_or, flat_map-map, ascending_weaker, ascending-filter, Binary, IsPlain, MeansPut}
use Rattle.ci_store_rows.proofs.Words.{GivesRecord, cast_int, equal_int}
use Rattle.ci_store_rows.proofs.OneList.{IsAlike, alike_but, regular_with_traces}
use Rattle.ci_store_rows.proofs.Lists.{put_rises, by_number, without_is}
use Rattle.ci_store_rows.proofs.Records.{is, is_number, finds_number, put_moved, same_number}
use Rattle.ci_store_rows.proofs.Removals.{Referring}
use Rattle.ci_store_rows.proofs.Owned.{tests, agrees, RemovesAlone, removed_owned, three, gives_keyed}
use Rattle.ci_store_rows.proofs.Same.{number_of}
use Rattle.ci_store_rows.proofs.Shows.{columns_of, names_of, by, backward, shows_sorted, shows_backward, found_first, first_of_one, last_of_those, rising_number}
use Rattle.ci_store_rows.proofs.Shows.{falling_within}
use Rattle.ci_store_rows.proofs.BlockLists.{trace, is_at, block_put, blocks_without, blocks_of_one, places_rise, joined, no_bytes, in_two}
use Rattle.ci_store_rows.proofs.Tables.{SelectsTo, Selects}

abbrev key_of : ℕ → ℕ → Row
key_of attempt seq = number attempt ∷ number seq ∷ []

gives : (b : Block) → GivesRecord the_schema piece tests (col 1 0 ∷ three) (lit Null ∷ three) (key_of b.attempt b.seq) (block_row b)
gives b =
    gives_keyed 7 piece refl 7 piece_index_1 refl refl three _ _ (λ r. refl) (λ r new_row is. agrees r new_row _ _ _ _ is) (λ r. refl) refl refl
    (λ x i. cast_int (pos b.attempt) i ∷ cast_int (pos b.seq) i ∷ Blob b.bytes ∷ [])

same_key : (attempt seq : ℕ) (b : Block) → (equal Binary (number b.attempt) (number attempt) && (equal Binary (number b.seq) (number seq) && true)) ≡ is_at attempt seq b
same_key attempt seq b = λ i. (equal_int b.attempt attempt ∙ is_number b.attempt attempt) i && finds_number b.seq seq i

alike : (k : Kept) (xs : List Trace) → IsAlike (rows_of k) (rows_of (record k { state = record k.state { traces = xs } })) piece
alike k xs = alike_but (take 7 (rows_by_tree k)) (drop 8 (rows_by_tree k)) piece (map block_row (all_blocks k.state.traces)) (map block_row (all_blocks xs))

-- what the texts mean, which `refl` finds
pub texts : record {
  puts : MeansPut the_schema 7 piece UPDATE_BLOCK.now INSERT_BLOCK.now tests (col 1 0 ∷ three) (lit Null ∷ three);
  removes : RemovesAlone 7 piece DELETE_BLOCKS.now (is 1 0 ∷ []);
  select_of : Selects piece SELECT_BLOCKS.now (is 1 0 ∷ []) (by 2);
  -- the second value is how many rows are shown at most
  select_last : SelectsTo (col 0 1) piece SELECT_LAST_BLOCKS.now (is 1 0 ∷ []) (backward 2);
}
unfolding understood everything
texts = record {
  puts = record { there = refl; apart = refl; update_is = refl; update_plain = (refl, refl); insert_is = refl; insert_plain = (refl, refl); uncounted = refl; unstamped = refl; idle = refl; alone = λ olds a. refl };
  removes = record { means = record { there = refl; apart = refl; delete_is = refl; delete_plain = (refl, refl) }; alone = λ olds. refl };
  select_of = record { is = refl; unlisted = refl; plain = (refl, refl) };
  select_last = record { is = refl; unlisted = refl; plain = (refl, refl) };
}

-- ---- bytes behind a trace

-- A block that is put is a change of the state: its attempt's trace has the bytes behind it, where they stay within that block.
pub block_puts : {S : Type 0} (ghosts : Ghosts S) (before after : Held S) (b : Block) (bytes : List ℕ) (k : Kept) → Stands k (state ghosts before).now → StaysWithin (trace_of k.state b.attempt) bytes b.seq b.bytes
    → HasPut ghosts UPDATE_BLOCK.now INSERT_BLOCK.now (block_row b) before after → Stands (appended b.attempt bytes k) (state ghosts after).now
block_puts ghosts before after b bytes k stands within h =
    let ts = k.state.traces in
    let up = stands.inside.regular.traces in
    let moved : IsPermutation (block_row b ∷ without (key_of b.attempt b.seq) (map block_row (all_blocks ts))) (map block_row (all_blocks (with_bytes (trace b.attempt bytes) ts))) =
    subst (λ l. IsPermutation (block_row b ∷ l) (map block_row (all_blocks (with_bytes (trace b.attempt bytes) ts)))) (sym (without_is block_row (key_of b.attempt b.seq) (is_at b.attempt b.seq) (same_key b.attempt b.seq) (all_blocks ts)))
    (IsPermutation-map block_row _ _ (block_put b.attempt bytes b.seq b.bytes ts up within)) in
    put_moved k (appended b.attempt bytes k) piece (alike k (appended b.attempt bytes k).state.traces) (regular_with_traces k _ (put_rises trace_cmp (by_number (λ (t : Trace). t.attempt)) _ ts up) stands.inside.regular)
    7 UPDATE_BLOCK.now INSERT_BLOCK.now tests (col 1 0 ∷ three) (lit Null ∷ three) texts.puts (key_of b.attempt b.seq) (block_row b) (gives b) moved ghosts before after stands h

-- no bytes are no change of the tables
pub stands_without_bytes : (k : Kept) (attempt : ℕ) (db : Database) → Stands k db → Stands (appended attempt [] k) db
stands_without_bytes k attempt db stands =
    let ts = k.state.traces in
    let up = stands.inside.regular.traces in
    let rows : rows_of k ≡ rows_of (appended attempt [] k) = λ i tree. rows_at tree (take 7 (rows_by_tree k) ++ (piece.tree, map block_row (sym (no_bytes attempt ts up) i)) ∷ drop 8 (rows_by_tree k)) in
    record {
      listed = stands.listed;
      inside = record {
        tables = subst (λ rows. HoldsRows the_schema rows db.trees) rows stands.inside.tables;
        regular = regular_with_traces k _ (put_rises trace_cmp (by_number (λ (t : Trace). t.attempt)) _ ts up) stands.inside.regular;
      };
    }

-- bytes behind others
pub stands_in_two : (k : Kept) (attempt : ℕ) (first second : List ℕ) (db : Database) → Stands (appended attempt second (appended attempt first k)) db → Stands (appended attempt (first ++ second) k) db
stands_in_two k attempt first second db stands = subst (λ ts. Stands (record k { state = record k.state { traces = ts } }) db) (in_two attempt first second k.state.traces) stands

-- ---- the whole trace of an attempt goes

pub trace_removed : {S : Type 0} (g : Ghosts S) (old new : Held S) (attempt : ℕ) (k : Kept) → Stands k (state g old).now → RemovesUnreferred g [] DELETE_BLOCKS.now (number attempt ∷ []) old new → Stands (in_state (without_record (Key.Trace attempt)) k) (state g new).now
trace_removed g old new attempt k =
    removed_owned g old new block_row 7 piece (is 1 0 ∷ []) (λ b. is_eq (nat_cmp b.attempt attempt)) (all_blocks k.state.traces) (number attempt ∷ []) k (in_state (without_record (Key.Trace attempt)) k) refl (ap (map block_row) (blocks_without attempt k.state.traces)) (alike k (in_state (without_record (Key.Trace attempt)) k).state.traces)
    (λ o. regular_with_traces k _ (ascending-filter _ _ k.state.traces o.traces) o) (λ b. same_number b.attempt attempt) (λ r. refl) DELETE_BLOCKS.now texts.removes

-- ---- two blocks with the same row

same_block : (p q : Block) → block_row p ≡ block_row q → p ≡ q
same_block p q h = λ i. record { attempt = number_of (h i) 0; seq = number_of (h i) 1; bytes = bytes_in (column (h i) 2) }

-- ---- the queries that load

abbrev pub refers_to_attempt : Referring
refers_to_attempt = record { child = piece; at = 7; there = refl; place = 1; text = SELECT_BLOCKS.now; columns = columns_of piece; order = by 2; names = names_of piece; means = texts.select_of }

pub plain_select_of : IsPlain (understood the_schema SELECT_BLOCKS.now)
plain_select_of = texts.select_of.plain

-- the blocks of an attempt among all, in their order
own_rise : (k : Kept) (db : Database) → Stands k db → (attempt : ℕ) → IsAscending (λ b c. nat_cmp b.seq c.seq ≡ Less) (filter (λ b. b.attempt == attempt) (all_blocks k.state.traces))
own_rise k db stands attempt =
    subst (IsAscending (λ b c. nat_cmp b.seq c.seq ≡ Less)) (sym (blocks_of_one attempt k.state.traces stands.inside.regular.traces)) (places_rise (trace attempt (trace_of k.state attempt)))

pub blocks_shown : {S : Type 0} (g : Ghosts S) (old new : Held S) (k : Kept) → Stands k (state g old).now → (attempt : ℕ) (rows : List Row) → Shown SELECT_BLOCKS.now (number attempt ∷ []) (state g old) (state g new) rows
    → rows ≡ map block_row (blocks_of (trace attempt (trace_of k.state attempt)))
blocks_shown g old new k stands attempt rows h =
    let own : Block → Bool = λ b. b.attempt == attempt in
    let all = all_blocks k.state.traces in
    shows_sorted block_row 7 piece refl SELECT_BLOCKS.now (is 1 0 ∷ []) (number attempt ∷ []) (λ im. equal Binary (column im 0) (number attempt) && true) (λ r. refl) own (λ x. finds_number x.attempt attempt) k all refl rows
    2 1 (λ r. refl) texts.select_of (ascending_weaker _ _ (λ b c low. rising_number b.seq c.seq low) (filter own all) (own_rise k (state g old).now stands attempt)) (state g old) (state g new) stands h
    ∙ ap (map block_row) (blocks_of_one attempt k.state.traces stands.inside.regular.traces)

-- the bytes of the rows, joined, are the trace
pub trace_joined : {S : Type 0} (g : Ghosts S) (old new : Held S) (k : Kept) → Stands k (state g old).now → (attempt : ℕ) (rows : List Row) → Shown SELECT_BLOCKS.now (number attempt ∷ []) (state g old) (state g new) rows
    → flat_map (λ row. bytes_in (column row 2)) rows ≡ trace_of k.state attempt
trace_joined g old new k stands attempt rows h =
    let t = trace attempt (trace_of k.state attempt) in
    ap (flat_map (λ row. bytes_in (column row 2))) (blocks_shown g old new k stands attempt rows h) ∙ flat_map-map (λ row. bytes_in (column row 2)) block_row (blocks_of t) ∙ joined t

pub plain_select_last : IsPlain (understood the_schema SELECT_LAST_BLOCKS.now)
plain_select_last = texts.select_last.plain

pub last_found : {S : Type 0} (g : Ghosts S) (old new : Held S) (k : Kept) → Stands k (state g old).now → (attempt : ℕ) (found : Option Block) → ShowsRecords (λ row x. row ≡ block_row x) g SELECT_LAST_BLOCKS.now (number attempt ∷ number 1 ∷ []) old new (listed found)
    → found ≡ last_block (trace attempt (trace_of k.state attempt))
last_found g old new k stands attempt found h =
    let own : Block → Bool = λ b. b.attempt == attempt in
    let all = all_blocks k.state.traces in
    first_of_one (filter own (reverse all)) found
    (found_first (λ row x. row ≡ block_row x) block_row own (reverse all) (λ x y _ same. sym (same_block y x same)) 1 h.rows
    (shows_backward block_row 7 piece refl SELECT_LAST_BLOCKS.now (is 1 0 ∷ []) (number attempt ∷ number 1 ∷ []) (λ im. equal Binary (column im 0) (number attempt) && true) (λ r. refl) own (λ x. finds_number x.attempt attempt) k all refl h.rows
    (col 0 1) 2 1 (λ r. refl) texts.select_last (falling_within (λ (b : Block). b.seq) own all (own_rise k (state g old).now stands attempt)) (state g old) (state g new) stands h.shown)
    (listed found) h.read)
    ∙ last_of_those own all
    ∙ ap (last_or None) (blocks_of_one attempt k.state.traces stands.inside.regular.traces)
