-- The statements that write `variable`.
use Rattle.ci_store.specs.Prelude.{Null, Text, everything, understood, Ghosts, Held, state, Kept, with_record, without_record, variable_cmp, Variable, Record, Key}
use Rattle.ci_store.specs.Prelude.{project_variables, variable_at, col, lit}
use Rattle.ci_store_rows.specs.Prelude.{UPDATE_VARIABLE, INSERT_VARIABLE, DELETE_VARIABLE, SELECT_VARIABLE, SELECT_VARIABLES, the_schema, variable, variable_index_1, number}
use Rattle.ci_store_rows.specs.Prelude.{variable_row, rows_by_tree, Stands, IsAt, ShowsRecords, listed, in_state, RemovesUnreferred}
use Rattle.ci_store_rows.proofs.Words.{◌≡◌, ◌==◌, ℕ, pos, List, [], ◌∷◌, is_eq, refl, Option, ◌&&◌, map, take, drop, nat_cmp, ordering_then, bytes_eq, slice_cmp, MeansPut}
use Rattle.ci_store_rows.proofs.Words.{cast_int, IsPlain, rules}
use Rattle.ci_store_rows.proofs.OneList.{alike_but}
use Rattle.ci_store_rows.proofs.Lists.{by_both}
use Rattle.ci_store_rows.proofs.Records.{is, same_number, finds_named}
use Rattle.ci_store_rows.proofs.Owned.{tests, named, same_named, agrees, RemovesAlone, owned_found, three, gives_keyed, removed_listed}
use Rattle.ci_store_rows.proofs.Same.{number_of, text_of}
use Rattle.ci_store_rows.proofs.Shows.{by, rising_text}
use Rattle.ci_store_rows.proofs.Tables.{one_found, Kind, Changing, exact, Selects, changes, PutsRow, put_record}

-- ---- two records with the same row

same_variable : (p q : Variable) → variable_row p ≡ variable_row q → p ≡ q
same_variable p q h = λ i. record { project = number_of (h i) 0; key = text_of (h i) 1; value = text_of (h i) 2 }

abbrev variables : Kind Variable
variables = exact 10 variable refl variable_row (λ k. k.state.variables) (λ k. refl) (λ key r. refl) same_variable

changing : Changing variables variable_cmp (λ xs k. record k { state = record k.state { variables = xs } }) (λ x. Unit)
changing =
    changes (by_both (λ v. v.project) (λ v. v.key)) (λ k xs. refl)
    (λ k xs. alike_but (take 10 (rows_by_tree k)) (drop 11 (rows_by_tree k)) variable (map variable_row k.state.variables) (map variable_row xs)) (λ k o. o.variables) (λ k xs up o. search rules)

-- what the texts mean, which `refl` finds
texts : record {
  puts : MeansPut the_schema 10 variable UPDATE_VARIABLE.now INSERT_VARIABLE.now tests (col 1 0 ∷ three) (lit Null ∷ three);
  removes : RemovesAlone 10 variable DELETE_VARIABLE.now tests;
  select_of : Selects variable SELECT_VARIABLES.now (is 1 0 ∷ []) (by 2);
  select : Selects variable SELECT_VARIABLE.now tests [];
}
unfolding understood everything
texts = record {
  puts = record { there = refl; apart = refl; update_is = refl; update_plain = (refl, refl); insert_is = refl; insert_plain = (refl, refl); uncounted = refl; unstamped = refl; idle = refl; alone = λ olds a. refl };
  removes = record { means = record { there = refl; apart = refl; delete_is = refl; delete_plain = (refl, refl) }; alone = λ olds. refl };
  select_of = record { is = refl; unlisted = refl; plain = (refl, refl) };
  select = record { is = refl; unlisted = refl; plain = (refl, refl) };
}

pub variable_puts : (v : Variable) → PutsRow UPDATE_VARIABLE.now INSERT_VARIABLE.now (variable_row v) (in_state (with_record (Record.Variable v)))
variable_puts v =
    put_record variables changing texts.puts (named v.project v.key) v
    (gives_keyed 10 variable refl 11 variable_index_1 refl refl three _ _ (λ r. refl) (λ r new_row is. agrees r new_row _ _ _ _ is) (λ r. refl) refl refl
    (λ x i. cast_int (pos v.project) i ∷ Text v.key ∷ Text v.value ∷ []))
    (λ q. same_named v.project v.key q.project q.key) tt

pub variable_removed : {S : Type 0} (g : Ghosts S) (old new : Held S) (owner : ℕ) (name : List ℕ) (k : Kept) → Stands k (state g old).now → RemovesUnreferred g [] DELETE_VARIABLE.now (named owner name) old new → Stands (in_state (without_record (Key.Variable owner name)) k) (state g new).now
variable_removed g old new owner name =
    removed_listed variables changing g old new tests (λ q. is_eq (ordering_then (nat_cmp q.project owner) (slice_cmp nat_cmp q.key name))) (named owner name) (λ q. same_named owner name q.project q.key) (λ r. refl) texts.removes

-- ---- the queries that load

pub plain_select_of : IsPlain (understood the_schema SELECT_VARIABLES.now)
plain_select_of = texts.select_of.plain

pub variables_found : {S : Type 0} (g : Ghosts S) (old new : Held S) (k : Kept) → IsAt g k old → (owner : ℕ) (found : List Variable) → ShowsRecords (λ row x. row ≡ variable_row x) g SELECT_VARIABLES.now (number owner ∷ []) old new found → found ≡ project_variables k.state owner
variables_found g old new k at =
    owned_found g old new variable_row 10 variable (λ x. x.project) (λ x y. slice_cmp nat_cmp x.key y.key) same_variable refl SELECT_VARIABLES.now texts.select_of (λ n r. refl) (λ n x. same_number x.project n) (λ n r. refl) (λ x y low. rising_text x.key y.key low) k k.state.variables refl at at.now.inside.regular.variables

pub plain_select : IsPlain (understood the_schema SELECT_VARIABLE.now)
plain_select = texts.select.plain

pub variable_found : {S : Type 0} (g : Ghosts S) (old new : Held S) (k : Kept) → IsAt g k old → (owner : ℕ) (name : List ℕ) (found : Option Variable) → ShowsRecords (λ row x. row ≡ variable_row x) g SELECT_VARIABLE.now (number owner ∷ Text name ∷ []) old new (listed found)
    → found ≡ variable_at k.state owner name
variable_found g old new k at owner name =
    one_found variables g old new k at.now SELECT_VARIABLE.now tests (named owner name) (λ x. (x.project == owner) && bytes_eq x.key name) (λ r. refl) (λ x. finds_named x.project owner x.key name) texts.select
