-- The statements that write `mode`.
use Rattle.ci_store.specs.Prelude.{Null, Text, column, everything, understood, Ghosts, Held, state, Kept, with_record, without_record, mode_cmp, is_mode_of, mode_at, GroupMode}
use Rattle.ci_store.specs.Prelude.{GroupOrder, OldestFirst, NewestReadyFirst, Record, Key, col, lit}
use Rattle.ci_store_rows.specs.Prelude.{UPDATE_MODE, INSERT_MODE, DELETE_MODE, SELECT_MODE, SELECT_MODES, the_schema, mode, mode_index_1, number, order_number, mode_row}
use Rattle.ci_store_rows.specs.Prelude.{rows_by_tree, Stands, IsAt, ShowsRecords, listed, in_state, RemovesUnreferred}
use Rattle.ci_store_rows.proofs.Words.{◌≡◌, ◌∙◌, ℕ, pos, List, [], ◌∷◌, true, is_eq, refl, sym, Option, map, take, drop, nat_cmp, ordering_then, slice_cmp, ascending-filter}
use Rattle.ci_store_rows.proofs.Words.{ascending_weaker, no_limit, MeansPut, cast_int, IsPlain, rules}
use Rattle.ci_store_rows.proofs.OneList.{alike_but}
use Rattle.ci_store_rows.proofs.Lists.{by_both}
use Rattle.ci_store_rows.proofs.Records.{finds_named}
use Rattle.ci_store_rows.proofs.Owned.{tests, named, same_named, agrees, RemovesAlone, three, gives_keyed, removed_listed}
use Rattle.ci_store_rows.proofs.Same.{number_of, text_of}
use Rattle.ci_store_rows.proofs.Shows.{by_two, pair_of_two, shows_ordered, found_all, rising_named, every}
use Rattle.ci_store_rows.proofs.Tables.{one_found, Kind, Changing, exact, Selects, changes, PutsRow, put_record}

-- ---- two records with the same row

same_order : (a b : GroupOrder) → number (order_number a) ≡ number (order_number b) → a ≡ b
same_order OldestFirst OldestFirst h = refl
same_order OldestFirst NewestReadyFirst h = cc
same_order NewestReadyFirst OldestFirst h = cc
same_order NewestReadyFirst NewestReadyFirst h = refl

same_mode : (p q : GroupMode) → mode_row p ≡ mode_row q → p ≡ q
same_mode p q h = λ i. record { project = number_of (h i) 0; group = text_of (h i) 1; order = same_order p.order q.order (λ j. column (h j) 2) i }

abbrev modes : Kind GroupMode
modes = exact 12 mode refl mode_row (λ k. k.state.modes) (λ k. refl) (λ key r. refl) same_mode

changing : Changing modes mode_cmp (λ xs k. record k { state = record k.state { modes = xs } }) (λ x. Unit)
changing =
    changes (by_both (λ m. m.project) (λ m. m.group)) (λ k xs. refl)
    (λ k xs. alike_but (take 12 (rows_by_tree k)) (drop 13 (rows_by_tree k)) mode (map mode_row k.state.modes) (map mode_row xs)) (λ k o. o.modes) (λ k xs up o. search rules)

-- what the texts mean, which `refl` finds
texts : record {
  puts : MeansPut the_schema 12 mode UPDATE_MODE.now INSERT_MODE.now tests (col 1 0 ∷ three) (lit Null ∷ three);
  removes : RemovesAlone 12 mode DELETE_MODE.now tests;
  select : Selects mode SELECT_MODE.now tests [];
  select_all : Selects mode SELECT_MODES.now [] (by_two 1 2);
}
unfolding understood everything
texts = record {
  puts = record { there = refl; apart = refl; update_is = refl; update_plain = (refl, refl); insert_is = refl; insert_plain = (refl, refl); uncounted = refl; unstamped = refl; idle = refl; alone = λ olds a. refl };
  removes = record { means = record { there = refl; apart = refl; delete_is = refl; delete_plain = (refl, refl) }; alone = λ olds. refl };
  select = record { is = refl; unlisted = refl; plain = (refl, refl) };
  select_all = record { is = refl; unlisted = refl; plain = (refl, refl) };
}

pub mode_puts : (m : GroupMode) → PutsRow UPDATE_MODE.now INSERT_MODE.now (mode_row m) (in_state (with_record (Record.Mode m)))
mode_puts m =
    put_record modes changing texts.puts (named m.project m.group) m
    (gives_keyed 12 mode refl 17 mode_index_1 refl refl three _ _ (λ r. refl) (λ r new_row is. agrees r new_row _ _ _ _ is) (λ r. refl) refl refl
    (λ x i. cast_int (pos m.project) i ∷ Text m.group ∷ cast_int (pos (order_number m.order)) i ∷ []))
    (λ q. same_named m.project m.group q.project q.group) tt

pub mode_removed : {S : Type 0} (g : Ghosts S) (old new : Held S) (project : ℕ) (group : List ℕ) (k : Kept) → Stands k (state g old).now → RemovesUnreferred g [] DELETE_MODE.now (named project group) old new → Stands (in_state (without_record (Key.Mode project group)) k) (state g new).now
mode_removed g old new project group =
    removed_listed modes changing g old new tests (λ q. is_eq (ordering_then (nat_cmp q.project project) (slice_cmp nat_cmp q.group group))) (named project group) (λ q. same_named project group q.project q.group) (λ r. refl) texts.removes

-- ---- the queries that load

pub plain_select : IsPlain (understood the_schema SELECT_MODE.now)
plain_select = texts.select.plain

pub mode_found : {S : Type 0} (g : Ghosts S) (old new : Held S) (k : Kept) → IsAt g k old → (project : ℕ) (group : List ℕ) (found : Option GroupMode) → ShowsRecords (λ row x. row ≡ mode_row x) g SELECT_MODE.now (number project ∷ Text group ∷ []) old new (listed found)
    → found ≡ mode_at k.state project group
mode_found g old new k at project group =
    one_found modes g old new k at.now SELECT_MODE.now tests (named project group) (is_mode_of project group) (λ r. refl) (λ x. finds_named x.project project x.group group) texts.select

pub plain_select_all : IsPlain (understood the_schema SELECT_MODES.now)
plain_select_all = texts.select_all.plain

pub modes_found : {S : Type 0} (g : Ghosts S) (old new : Held S) (k : Kept) → IsAt g k old → (found : List GroupMode) → ShowsRecords (λ row x. row ≡ mode_row x) g SELECT_MODES.now [] old new found → found ≡ k.state.modes
modes_found g old new k at found h =
    found_all (λ row x. row ≡ mode_row x) mode_row (λ x. true) k.state.modes (λ x y _ same. sym (same_mode y x same)) h.rows
    (shows_ordered mode_row 12 mode refl SELECT_MODES.now [] [] (λ im. true) (λ r. refl)
    (λ x. true) (λ x. refl) k k.state.modes refl h.rows no_limit (by_two 1 2) (pair_of_two 0 1) (λ im. refl) (λ r. refl) texts.select_all
    (ascending_weaker _ _ (λ x y low. rising_named x.project y.project x.group y.group low) _ (ascending-filter _ (λ x. true) k.state.modes at.now.inside.regular.modes)) (state g old) (state g new) at.now h.shown)
    found h.read
    ∙ every k.state.modes
