-- Changes one after the other, and what changes of indexes leave as it was.
use Rattle.std.proofs.Common.{◌≡◌, ℕ, ◌+◌, ◌<◌, ◌++◌, List, [], ◌∷◌, length, take, slice_index_or, refl, sym, ap, ◌∙◌}
use Rattle.std.proofs.lemmas.List.{take_more}
use Rattle.ci_machine_steps.specs.Prelude.{IndexChange, Hold, RowChange, BoardRow, Kept, row_cmp, put_rows, indexed, indexed_all, State, put, changed, applied}
use Rattle.ci_machine_steps.proofs.Created.{applied_append}

-- the state after one change more of a list
pub changed_more : (cs : List RowChange) (i : ℕ) (c : RowChange) (s : State) → i < length cs → c ≡ slice_index_or cs i c → changed c (applied (take i cs) s) ≡ applied (take (i + 1) cs) s
changed_more cs i c s within at =
    sym (ap (λ (l : List RowChange). applied l s) (take_more cs i c within ∙ ap (λ (x : RowChange). take i cs ++ x ∷ []) (sym at)) ∙ applied_append (take i cs) (c ∷ []) s)

rows_append : (rs qs : List BoardRow) (board : List BoardRow) → put_rows (rs ++ qs) board ≡ put_rows qs (put_rows rs board)
rows_append [] qs board = refl
rows_append (r ∷ rs) qs board = rows_append rs qs (put row_cmp r board)

-- the rows after one more of a list is put
pub rows_more : (rs : List BoardRow) (i : ℕ) (d : BoardRow) (board : List BoardRow) → i < length rs → put row_cmp (slice_index_or rs i d) (put_rows (take i rs) board) ≡ put_rows (take (i + 1) rs) board
rows_more rs i d board within = sym (ap (λ (l : List BoardRow). put_rows l board) (take_more rs i d within) ∙ rows_append (take i rs) (slice_index_or rs i d ∷ []) board)

-- changes of indexes leave the state and the rows
pub state_stays : (cs : List IndexChange) (k : Kept) → (indexed_all cs k).state ≡ k.state
state_stays [] k = refl
state_stays (Hold h ∷ cs) k = state_stays cs (indexed (Hold h) k)
state_stays (c ∷ cs) k = state_stays cs (indexed c k)

pub board_stays : (cs : List IndexChange) (k : Kept) → (indexed_all cs k).board ≡ k.board
board_stays [] k = refl
board_stays (Hold h ∷ cs) k = board_stays cs (indexed (Hold h) k)
board_stays (c ∷ cs) k = board_stays cs (indexed c k)
