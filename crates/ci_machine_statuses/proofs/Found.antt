-- The row that a job's number finds.
use Rattle.std.proofs.Common.{◌≡◌, ℕ, ◌+◌, ◌<◌, List, [], ◌∷◌, ◌++◌, length, map, take, Some, Result, Ok, Err, IfErr, slice_index_or, nat_cmp, IsErrAnd, sym, ap, subst, ◌∙◌, arith}
use Rattle.std.specs.List.Sorted.{IsStrictlySortedBy}
use Rattle.std.proofs.lemmas.List.{get_or-map, length-map, length-append, map_more}
use Rattle.std.proofs.lemmas.List.Elements.{Contains-get_or}
use Rattle.ci_machine_steps.specs.Prelude.{Row, BoardRow, row_for}
use Rattle.ci_machine.proofs.Keyed.{has_from_contains}
use Rattle.ci_machine_steps.proofs.Sound.{rising_from_ascend}
use Rattle.ci_machine_statuses.specs.Lookups.{place_of}
use Rattle.ci_machine_statuses.proofs.Positions.{numbers_ascend, place_some}
use Rattle.ci_machine_statuses.proofs.RowPuts.{its_row}
use Rattle.ci_machine_statuses.proofs.Puts.{job_of}

-- what holds of a fault holds of it where it is handed on
pub passed_on : {A E : Type 0} (r : Result A E) (x : E) (P : E → Type 0) → IsErrAnd r (λ e. e ≡ x) → P x → IfErr r P
passed_on (Ok a) x P is p = tt
passed_on (Err e) x P is p = subst P (sym is) p

found_row : (rows : List BoardRow) (n place : ℕ) (d : BoardRow) → IsStrictlySortedBy nat_cmp (map (λ r. r.job) rows) → place_of (map (λ r. r.job) rows) n ≡ Some place → row_for rows n ≡ (slice_index_or rows place d).row
found_row rows n place d up e =
    let w = place_some (map job_of rows) n place (numbers_ascend (map job_of rows) up) e in
    let l : place < length rows = let z : length (map job_of rows) ≡ length rows = length-map rows job_of in omega (arith, w.0) in
    let r = slice_index_or rows place d in
    let same : r.job ≡ n = sym (get_or-map job_of rows place d 0 l) ∙ w.1 in
    ap (row_for rows) (sym same) ∙ its_row 0 rows r (rising_from_ascend job_of rows up) (has_from_contains r rows (Contains-get_or rows place d l))

-- the row of the next number is pushed
pub row_pushed : (rows : List BoardRow) (jobs numbers : List ℕ) (i place : ℕ) (d : BoardRow) (found pushed : List Row) → i < length numbers → IsStrictlySortedBy nat_cmp (map (λ r. r.job) rows)
    → jobs ≡ map (λ r. r.job) rows → place_of jobs (slice_index_or numbers i 0) ≡ Some place → found ≡ map (row_for rows) (take i numbers)
    → pushed ≡ found ++ (slice_index_or rows place d).row ∷ [] → pushed ≡ map (row_for rows) (take (i + 1) numbers)
row_pushed rows jobs numbers i place d found pushed l up are at before push =
    push
    ∙ ((λ k. before k ++ sym (found_row rows (slice_index_or numbers i 0) place d up (ap (λ (js : List ℕ). place_of js (slice_index_or numbers i 0)) (sym are) ∙ at)) k ∷ [])
    ∙ sym (map_more (row_for rows) numbers i 0 l))

pub longer : (xs ys : List Row) (x : Row) (n : ℕ) → ys ≡ xs ++ x ∷ [] → length xs ≡ n → length ys ≡ n + 1
longer xs ys x n e l = ap length e ∙ (length-append xs (x ∷ []) ∙ ap (λ m. m + 1) l)
