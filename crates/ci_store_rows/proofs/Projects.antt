-- The statements that write `project`.
use Rattle.ci_store.specs.Prelude.{Text, column, everything, understood, Ghosts, Held, state, Kept, with_record, without_record, project_cmp, Project, Record, Key, project_at}
use Rattle.ci_store.specs.Prelude.{project_with}
use Rattle.ci_store_rows.specs.Prelude.{UPDATE_PROJECT, INSERT_PROJECT, DELETE_PROJECT, SELECT_PROJECT, SELECT_PROJECT_WITH, SELECT_PROJECTS_ABOVE, the_schema, project, number}
use Rattle.ci_store_rows.specs.Prelude.{project_row, rows_by_tree, Stands, IsAt, ShowsRecords, listed, FindsNumber, in_state, RemovesUnreferred}
use Rattle.ci_store_rows.proofs.Words.{ℕ, List, [], ◌∷◌, refl, ◌≡◌, Option, map, take, drop, cast_text, IsPlain, bytes_eq, rules}
use Rattle.ci_store_rows.proofs.OneList.{alike_but}
use Rattle.ci_store_rows.proofs.Lists.{by_number}
use Rattle.ci_store_rows.proofs.Records.{is, finds_text}
use Rattle.ci_store_rows.proofs.Tables.{one_found, MeansNumbered, numbered_found, Kind, Changing, Numbered, exact, Selects, changes, PutsRow, put_numbered}
use Rattle.ci_store_rows.proofs.Removals.{removed_numbered, MeansChanges}
use Rattle.ci_store_rows.proofs.Same.{number_of, text_of, same_words}

-- ---- two records with the same row

same_project : (p q : Project) → project_row p ≡ project_row q → p ≡ q
same_project p q h = λ i. record { id = number_of (h i) 0; name = text_of (h i) 1; token = text_of (h i) 2; file = same_words p.file q.file (λ j. column (h j) 3) i }

abbrev projects : Kind Project
projects = exact 1 project refl project_row (λ k. k.state.projects) (λ k. refl) (λ key r. refl) same_project

numbers : Numbered projects (λ p. p.id)
numbers = record { first = λ p. refl; place = λ r. refl; keyed = λ n p. refl; tested = λ n r. refl; rises = λ k o. o.projects }

changing : Changing projects project_cmp (λ xs k. record k { state = record k.state { projects = xs } }) (λ x. Unit)
changing =
    changes (by_number (λ p. p.id)) (λ k xs. refl)
    (λ k xs. alike_but (take 1 (rows_by_tree k)) (drop 2 (rows_by_tree k)) project (map project_row k.state.projects) (map project_row xs)) (λ k o. o.projects) (λ k xs up o. search rules)

means : MeansChanges 1 project [] UPDATE_PROJECT.now INSERT_PROJECT.now DELETE_PROJECT.now
unfolding understood everything
means = record {
  puts = record { there = refl; apart = refl; update_is = refl; update_plain = (refl, refl); insert_is = refl; insert_plain = (refl, refl); uncounted = refl; unstamped = refl; idle = refl; alone = λ olds a. refl };
  removes = record { there = refl; apart = refl; delete_is = refl; delete_plain = (refl, refl) };
  sets_off = λ olds. refl;
}

pub project_puts : (p : Project) → PutsRow UPDATE_PROJECT.now INSERT_PROJECT.now (project_row p) (in_state (with_record (Record.Project p)))
project_puts p =
    put_numbered projects numbers p (λ rows. refl) refl
    (λ i. number p.id ∷ Text p.name ∷ Text p.token ∷ cast_text (λ b. b) p.file i ∷ [])
    changing (λ y. refl) means.puts tt

pub project_removed : {S : Type 0} (g : Ghosts S) (old new : Held S) (id : ℕ) (k : Kept) → Stands k (state g old).now → RemovesUnreferred g [] DELETE_PROJECT.now (number id ∷ []) old new → Stands (in_state (without_record (Key.Project id)) k) (state g new).now
project_removed g old new = removed_numbered g old new projects numbers changing [] means tt

-- ---- the queries that load

reads : record {
  numbered : MeansNumbered project SELECT_PROJECT.now SELECT_PROJECTS_ABOVE.now;
  with_token : Selects project SELECT_PROJECT_WITH.now (is 3 0 ∷ []) [];
}
unfolding understood everything
reads = record {
  numbered = record { at_number = record { is = refl; unlisted = refl; plain = (refl, refl) }; over_it = record { is = refl; unlisted = refl; plain = (refl, refl) } };
  with_token = record { is = refl; unlisted = refl; plain = (refl, refl) };
}

pub plain_select : IsPlain (understood the_schema SELECT_PROJECT.now)
plain_select = reads.numbered.at_number.plain

pub plain_select_above : IsPlain (understood the_schema SELECT_PROJECTS_ABOVE.now)
plain_select_above = reads.numbered.over_it.plain

pub plain_select_with : IsPlain (understood the_schema SELECT_PROJECT_WITH.now)
plain_select_with = reads.with_token.plain

module _ {S : Type 0} (g : Ghosts S) (old new : Held S) (k : Kept) (at : IsAt g k old) where
  pub project_named : (id : ℕ) (found : Option Project) → FindsNumber (λ row x. row ≡ project_row x) g SELECT_PROJECT.now SELECT_PROJECTS_ABOVE.now id old new found → found ≡ project_at k.state id
  project_named = numbered_found projects numbers g old new k at.now SELECT_PROJECT.now SELECT_PROJECTS_ABOVE.now reads.numbered

  pub project_with_found : (token : List ℕ) (found : Option Project) → ShowsRecords (λ row x. row ≡ project_row x) g SELECT_PROJECT_WITH.now (Text token ∷ []) old new (listed found) → found ≡ project_with k.state token
  project_with_found token =
      one_found projects g old new k at.now SELECT_PROJECT_WITH.now (is 3 0 ∷ []) (Text token ∷ []) (λ x. bytes_eq x.token token) (λ r. refl) (λ x. finds_text x.token token) reads.with_token
