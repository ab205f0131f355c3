-- The statements that write `board`.
use Rattle.ci_store.specs.Prelude.{everything, understood, Ghosts, Held, state, Status, status_number, is_status, Kept, row_cmp, cleared, put, is_within, rows_within, row_at}
use Rattle.ci_store.specs.Prelude.{rows_with, BoardRow}
use Rattle.ci_store_rows.specs.Prelude.{UPDATE_ROW, INSERT_ROW, DELETE_ROW, SELECT_ROW, SELECT_ROWS_WITHIN, SELECT_ROWS_WITH, the_schema, board, number, board_row}
use Rattle.ci_store_rows.specs.Prelude.{rows_by_tree, Stands, IsAt, ShowsRecords, listed, in_board, RemovesUnreferred}
use Rattle.ci_store_rows.proofs.Words.{◌≡◌, ◌∙◌, ◌==◌, ℕ, pos, List, [], ◌∷◌, map, take, drop, if◌then◌else◌, Option, refl, sym, IsPlain, cast_int, rules}
use Rattle.ci_store_rows.proofs.OneList.{alike_but}
use Rattle.ci_store_rows.proofs.Lists.{by_number}
use Rattle.ci_store_rows.proofs.Records.{is, at_least, at_most, finds_number, finds_within}
use Rattle.ci_store_rows.proofs.Removals.{Referring, removed_numbered, MeansChanges}
use Rattle.ci_store_rows.proofs.Same.{number_of}
use Rattle.ci_store_rows.proofs.Shows.{columns_of, names_of, by}
use Rattle.ci_store_rows.proofs.Tables.{one_found, Kind, Changing, Numbered, exact, Selects, changes, PutsRow, put_numbered, all_numbered}

-- ---- two rows of statuses with the same row

abbrev status_back : ℕ → Status
status_back n =
    if n == 0 then Status.Created else (if n == 1 then Status.Pending else (if n == 2 then Status.Running else (if n == 3 then Status.Success else (if n == 4 then Status.Failed else (if n == 5 then Status.Canceled else (if n == 6 then Status.Skipped else Status.Manual))))))

status_is : (s : Status) → status_back (status_number s) ≡ s
status_is Status.Created = refl
status_is Status.Pending = refl
status_is Status.Running = refl
status_is Status.Success = refl
status_is Status.Failed = refl
status_is Status.Canceled = refl
status_is Status.Skipped = refl
status_is Status.Manual = refl

same_row : (p q : BoardRow) → board_row p ≡ board_row q → p ≡ q
same_row p q h =
    let status = sym (status_is p.row.status) ∙ (λ i. status_back (number_of (h i) 1)) ∙ status_is q.row.status in
    λ i. record { job = number_of (h i) 0; row = record { status = status i; opens = number_of (h i) 2; failed = number_of (h i) 3; barred = number_of (h i) 4 } }

abbrev statuses : Kind BoardRow
statuses = exact 9 board refl board_row (λ k. k.board) (λ k. refl) (λ key r. refl) same_row

numbers : Numbered statuses (λ b. b.job)
numbers = record { first = λ b. refl; place = λ r. refl; keyed = λ n b. refl; tested = λ n r. refl; rises = λ k o. o.board }

changing : Changing statuses row_cmp (λ xs k. record k { board = xs }) (λ x. Unit)
changing =
    changes (by_number (λ b. b.job)) (λ k xs. refl)
    (λ k xs. alike_but (take 9 (rows_by_tree k)) (drop 10 (rows_by_tree k)) board (map board_row k.board) (map board_row xs)) (λ k o. o.board) (λ k xs up o. search rules)

means : MeansChanges 9 board [] UPDATE_ROW.now INSERT_ROW.now DELETE_ROW.now
unfolding understood everything
means = record {
  puts = record { there = refl; apart = refl; update_is = refl; update_plain = (refl, refl); insert_is = refl; insert_plain = (refl, refl); uncounted = refl; unstamped = refl; idle = refl; alone = λ olds a. refl };
  removes = record { there = refl; apart = refl; delete_is = refl; delete_plain = (refl, refl) };
  sets_off = λ olds. refl;
}

pub row_puts : (b : BoardRow) → PutsRow UPDATE_ROW.now INSERT_ROW.now (board_row b) (in_board (put row_cmp b))
row_puts b =
    put_numbered statuses numbers b (λ rows. refl) refl
    (λ i. number b.job ∷ cast_int (pos (status_number b.row.status)) i ∷ cast_int (pos b.row.opens) i ∷ cast_int (pos b.row.failed) i ∷ cast_int (pos b.row.barred) i ∷ [])
    changing (λ y. refl) means.puts tt

pub row_removed : {S : Type 0} (g : Ghosts S) (old new : Held S) (job : ℕ) (k : Kept) → Stands k (state g old).now → RemovesUnreferred g [] DELETE_ROW.now (number job ∷ []) old new → Stands (cleared (job ∷ []) k) (state g new).now
row_removed g old new = removed_numbered g old new statuses numbers changing [] means tt

-- ---- the queries that load

pub reads : record {
  one : Selects board SELECT_ROW.now (is 0 0 ∷ []) [];
  within : Selects board SELECT_ROWS_WITHIN.now (at_least 0 0 ∷ at_most 0 1 ∷ []) (by 0);
  with_status : Selects board SELECT_ROWS_WITH.now (is 2 0 ∷ []) (by 0);
}
unfolding understood everything
reads = record {
  one = record { is = refl; unlisted = refl; plain = (refl, refl) };
  within = record { is = refl; unlisted = refl; plain = (refl, refl) };
  with_status = record { is = refl; unlisted = refl; plain = (refl, refl) };
}

abbrev pub rows_refer : Referring
rows_refer = record { child = board; at = 9; there = refl; place = 0; text = SELECT_ROW.now; columns = columns_of board; order = []; names = names_of board; means = reads.one }

pub plain_select : IsPlain (understood the_schema SELECT_ROW.now)
plain_select = reads.one.plain

pub plain_select_within : IsPlain (understood the_schema SELECT_ROWS_WITHIN.now)
plain_select_within = reads.within.plain

pub plain_select_with : IsPlain (understood the_schema SELECT_ROWS_WITH.now)
plain_select_with = reads.with_status.plain

module _ {S : Type 0} (g : Ghosts S) (old new : Held S) (k : Kept) (at : IsAt g k old) where
  pub row_found : (job : ℕ) (found : Option BoardRow) → ShowsRecords (λ row x. row ≡ board_row x) g SELECT_ROW.now (number job ∷ []) old new (listed found) → found ≡ row_at job k.board
  row_found job = one_found statuses g old new k at.now SELECT_ROW.now (is 0 0 ∷ []) (number job ∷ []) (λ x. x.job == job) (λ r. refl) (λ x. finds_number x.job job) reads.one

  pub rows_within_found : (first last : ℕ) (found : List BoardRow) → ShowsRecords (λ row x. row ≡ board_row x) g SELECT_ROWS_WITHIN.now (number first ∷ number last ∷ []) old new found → found ≡ rows_within first last k.board
  rows_within_found first last =
      all_numbered statuses numbers g old new k at.now SELECT_ROWS_WITHIN.now (at_least 0 0 ∷ at_most 0 1 ∷ []) (number first ∷ number last ∷ []) (λ x. is_within first last x.job) (λ r. refl)
      (λ x. finds_within first last x.job) reads.within

  pub rows_with_found : (s : Status) (found : List BoardRow) → ShowsRecords (λ row x. row ≡ board_row x) g SELECT_ROWS_WITH.now (number (status_number s) ∷ []) old new found → found ≡ rows_with s k.board
  rows_with_found s =
      all_numbered statuses numbers g old new k at.now SELECT_ROWS_WITH.now (is 2 0 ∷ []) (number (status_number s) ∷ []) (λ x. is_status x.row.status s) (λ r. refl)
      (λ x. finds_number (status_number x.row.status) (status_number s)) reads.with_status
