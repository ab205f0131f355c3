-- The statements that write `jobvar`.
use Rattle.ci_store.specs.Prelude.{Null, Text, everything, understood, Ghosts, Held, state, Kept, with_record, without_record, job_variable_cmp, JobVariable, Record, Key}
use Rattle.ci_store.specs.Prelude.{variables_of, col, lit}
use Rattle.ci_store_rows.specs.Prelude.{UPDATE_JOB_VARIABLE, INSERT_JOB_VARIABLE, DELETE_JOB_VARIABLE, DELETE_JOB_VARIABLES, SELECT_JOB_VARIABLES, the_schema, jobvar}
use Rattle.ci_store_rows.specs.Prelude.{jobvar_index_1, number, job_variable_row, rows_by_tree, Stands, IsAt, ShowsRecords, in_state, RemovesUnreferred}
use Rattle.ci_store_rows.proofs.Words.{◌≡◌, ℕ, pos, List, [], ◌∷◌, is_eq, refl, map, take, drop, nat_cmp, ordering_then, slice_cmp, MeansPut, cast_int, IsPlain, rules}
use Rattle.ci_store_rows.proofs.OneList.{alike_but}
use Rattle.ci_store_rows.proofs.Lists.{by_both}
use Rattle.ci_store_rows.proofs.Records.{is, same_number}
use Rattle.ci_store_rows.proofs.Owned.{tests, named, same_named, agrees, RemovesAlone, owned_found, three, gives_keyed, removed_listed}
use Rattle.ci_store_rows.proofs.Same.{number_of, text_of}
use Rattle.ci_store_rows.proofs.Shows.{columns_of, names_of, by, rising_text}
use Rattle.ci_store_rows.proofs.Removals.{Referring}
use Rattle.ci_store_rows.proofs.Tables.{Kind, Changing, exact, Selects, changes, PutsRow, put_record}

-- ---- two records with the same row

same_job_variable : (p q : JobVariable) → job_variable_row p ≡ job_variable_row q → p ≡ q
same_job_variable p q h = λ i. record { job = number_of (h i) 0; key = text_of (h i) 1; value = text_of (h i) 2 }

abbrev job_variables : Kind JobVariable
job_variables = exact 5 jobvar refl job_variable_row (λ k. k.state.job_variables) (λ k. refl) (λ key r. refl) same_job_variable

changing : Changing job_variables job_variable_cmp (λ xs k. record k { state = record k.state { job_variables = xs } }) (λ x. Unit)
changing =
    changes (by_both (λ v. v.job) (λ v. v.key)) (λ k xs. refl)
    (λ k xs. alike_but (take 5 (rows_by_tree k)) (drop 6 (rows_by_tree k)) jobvar (map job_variable_row k.state.job_variables) (map job_variable_row xs)) (λ k o. o.job_variables) (λ k xs up o. search rules)

-- what the texts mean, which `refl` finds
pub texts : record {
  puts : MeansPut the_schema 5 jobvar UPDATE_JOB_VARIABLE.now INSERT_JOB_VARIABLE.now tests (col 1 0 ∷ three) (lit Null ∷ three);
  removes : RemovesAlone 5 jobvar DELETE_JOB_VARIABLE.now tests;
  removes_all : RemovesAlone 5 jobvar DELETE_JOB_VARIABLES.now (is 1 0 ∷ []);
  select_of : Selects jobvar SELECT_JOB_VARIABLES.now (is 1 0 ∷ []) (by 2);
}
unfolding understood everything
texts = record {
  puts = record { there = refl; apart = refl; update_is = refl; update_plain = (refl, refl); insert_is = refl; insert_plain = (refl, refl); uncounted = refl; unstamped = refl; idle = refl; alone = λ olds a. refl };
  removes = record { means = record { there = refl; apart = refl; delete_is = refl; delete_plain = (refl, refl) }; alone = λ olds. refl };
  removes_all = record { means = record { there = refl; apart = refl; delete_is = refl; delete_plain = (refl, refl) }; alone = λ olds. refl };
  select_of = record { is = refl; unlisted = refl; plain = (refl, refl) };
}

pub job_variable_puts : (v : JobVariable) → PutsRow UPDATE_JOB_VARIABLE.now INSERT_JOB_VARIABLE.now (job_variable_row v) (in_state (with_record (Record.JobVariable v)))
job_variable_puts v =
    put_record job_variables changing texts.puts (named v.job v.key) v
    (gives_keyed 5 jobvar refl 4 jobvar_index_1 refl refl three _ _ (λ r. refl) (λ r new_row is. agrees r new_row _ _ _ _ is) (λ r. refl) refl refl
    (λ x i. cast_int (pos v.job) i ∷ Text v.key ∷ Text v.value ∷ []))
    (λ q. same_named v.job v.key q.job q.key) tt

pub job_variable_removed : {S : Type 0} (g : Ghosts S) (old new : Held S) (id : ℕ) (name : List ℕ) (k : Kept) → Stands k (state g old).now → RemovesUnreferred g [] DELETE_JOB_VARIABLE.now (named id name) old new → Stands (in_state (without_record (Key.JobVariable id name)) k) (state g new).now
job_variable_removed g old new id name =
    removed_listed job_variables changing g old new tests (λ q. is_eq (ordering_then (nat_cmp q.job id) (slice_cmp nat_cmp q.key name))) (named id name) (λ q. same_named id name q.job q.key) (λ r. refl) texts.removes

pub job_variables_removed : {S : Type 0} (g : Ghosts S) (old new : Held S) (job : ℕ) (k : Kept) → Stands k (state g old).now → RemovesUnreferred g [] DELETE_JOB_VARIABLES.now (number job ∷ []) old new → Stands (in_state (without_record (Key.JobVariables job)) k) (state g new).now
job_variables_removed g old new job =
    removed_listed job_variables changing g old new (is 1 0 ∷ []) (λ q. is_eq (nat_cmp q.job job)) (number job ∷ []) (λ q. same_number q.job job) (λ r. refl) texts.removes_all

-- ---- the queries that load

abbrev pub refers_to_job : Referring
refers_to_job = record { child = jobvar; at = 5; there = refl; place = 1; text = SELECT_JOB_VARIABLES.now; columns = columns_of jobvar; order = by 2; names = names_of jobvar; means = texts.select_of }

pub plain_select_of : IsPlain (understood the_schema SELECT_JOB_VARIABLES.now)
plain_select_of = texts.select_of.plain

pub job_variables_found : {S : Type 0} (g : Ghosts S) (old new : Held S) (k : Kept) → IsAt g k old → (owner : ℕ) (found : List JobVariable) → ShowsRecords (λ row x. row ≡ job_variable_row x) g SELECT_JOB_VARIABLES.now (number owner ∷ []) old new found → found ≡ variables_of k.state owner
job_variables_found g old new k at =
    owned_found g old new job_variable_row 5 jobvar (λ x. x.job) (λ x y. slice_cmp nat_cmp x.key y.key) same_job_variable refl SELECT_JOB_VARIABLES.now texts.select_of (λ n r. refl) (λ n x. same_number x.job n) (λ n r. refl) (λ x y low. rising_text x.key y.key low) k k.state.job_variables refl at at.now.inside.regular.job_variables
