-- Changes in turn.
use Rattle.std.proofs.Common.{◌≡◌, ◌∙◌, ℕ, ◌+◌, ◌<◌, List, [], ◌∷◌, ◌++◌, fold, length, take, get_or, Result, OnOk, refl, sym, ap, subst, arith}
use Rattle.std.proofs.lemmas.List.Sums.{fold_more}
use Rattle.std.proofs.Math.Seq.{take-append_seam}
use Rattle.ci_store.specs.Prelude.{Ghosts, Held, Kept, row_cmp, put_rows, indexed, indexed_all, cleared, BoardRow, State, put, without_all, applied, changed, RowChange}
use Rattle.ci_store.specs.Prelude.{IndexChange}
use Rattle.ci_machine.specs.Prelude.{without}
use Rattle.ci_store_sqlite.specs.Prelude.{Makes}

pub applied_append : (before after : List RowChange) (s : State) → applied (before ++ after) s ≡ applied after (applied before s)
applied_append [] after s = refl
applied_append (c ∷ before) after s = applied_append before after (changed c s)

pub no_changes : (cs : List RowChange) → length cs ≡ 0 → cs ≡ []
no_changes [] none = refl
no_changes (c ∷ cs) none = absurd (omega (arith, none))

pub first_part : (made : ℕ) (front behind all : List RowChange) → all ≡ front ++ behind → length front ≡ made → take made all ≡ front
first_part made front behind all is size = ap (take made) is ∙ ap (λ n. take n (front ++ behind)) (sym size) ∙ take-append_seam front behind

put_rows_is : (rs : List BoardRow) (board : List BoardRow) → put_rows rs board ≡ fold (λ board r. put row_cmp r board) board rs
put_rows_is [] board = refl
put_rows_is (r ∷ rs) board = put_rows_is rs (put row_cmp r board)

pub put_more : (board rs : List BoardRow) (i : ℕ) (d : BoardRow) → i < length rs → put_rows (take (i + 1) rs) board ≡ put row_cmp (get_or rs i d) (put_rows (take i rs) board)
put_more board rs i d low = put_rows_is (take (i + 1) rs) board ∙ fold_more (λ board r. put row_cmp r board) board rs i d low ∙ ap (put row_cmp (get_or rs i d)) (sym (put_rows_is (take i rs) board))

indexed_is : (cs : List IndexChange) (k : Kept) → indexed_all cs k ≡ fold (λ k c. indexed c k) k cs
indexed_is [] k = refl
indexed_is (c ∷ cs) k = indexed_is cs (indexed c k)

pub indexed_more : (k : Kept) (cs : List IndexChange) (i : ℕ) (d : IndexChange) → i < length cs → indexed_all (take (i + 1) cs) k ≡ indexed (get_or cs i d) (indexed_all (take i cs) k)
indexed_more k cs i d low = indexed_is (take (i + 1) cs) k ∙ fold_more (λ k c. indexed c k) k cs i d low ∙ ap (indexed (get_or cs i d)) (sym (indexed_is (take i cs) k))

without_is : (jobs : List ℕ) (board : List BoardRow) → without_all (λ r. r.job) jobs board ≡ fold (λ board job. without (λ r. r.job) job board) board jobs
without_is [] board = refl
without_is (job ∷ jobs) board = without_is jobs (without (λ r. r.job) job board)

pub cleared_more : (k : Kept) (jobs : List ℕ) (i d : ℕ) → i < length jobs → cleared (take (i + 1) jobs) k ≡ cleared (get_or jobs i d ∷ []) (cleared (take i jobs) k)
cleared_more k jobs i d low =
    ap (λ board. record k { board = board })
    (without_is (take (i + 1) jobs) k.board ∙ fold_more (λ board job. without (λ r. r.job) job board) k.board jobs i d low ∙ ap (without (λ r. r.job) (get_or jobs i d)) (sym (without_is (take i jobs) k.board)))

-- what a change makes of the tables, whatever it is called
pub by_item : {S A E X : Type 0} (g : Ghosts S) (old new : Held S) (change : X → Kept → Kept) {x y : X} → y ≡ x → (result : Result A E) → OnOk result (Makes g (change x) old new) → OnOk result (Makes g (change y) old new)
by_item g old new change same result h = subst (λ x. OnOk result (Makes g (change x) old new)) (sym same) h
