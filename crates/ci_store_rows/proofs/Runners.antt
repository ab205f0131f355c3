-- The statements that write `runner`.
use Rattle.ci_store.specs.Prelude.{Text, column, everything, understood, Ghosts, Held, state, Kept, with_record, without_record, runner_cmp, Runner, Record, Key, runner_at}
use Rattle.ci_store.specs.Prelude.{runner_with, Has}
use Rattle.ci_store_rows.specs.Prelude.{UPDATE_RUNNER, INSERT_RUNNER, DELETE_RUNNER, SELECT_RUNNER, SELECT_RUNNERS, SELECT_RUNNERS_ABOVE, SELECT_RUNNER_WITH, the_schema}
use Rattle.ci_store_rows.specs.Prelude.{runner, list_text, list_data, number, runner_row, rows_by_tree, Stands, IsAt, ShowsRecords, listed, FindsNumber, IsRunnerRow, in_state}
use Rattle.ci_store_rows.specs.Prelude.{RemovesUnreferred, runner_cells, ReadsList, IsRegular}
use Rattle.ci_store_rows.proofs.Words.{◌≡◌, ◌∙◌, ℕ, pos, List, [], ◌∷◌, if◌then◌else◌, Some, refl, ap, true, Option, sym, map, take, drop, cast_int, read, IsPlain, bytes_eq}
use Rattle.ci_store_rows.proofs.Words.{all_has, rules}
use Rattle.ci_store_rows.proofs.OneList.{alike_but}
use Rattle.ci_store_rows.proofs.Lists.{by_number}
use Rattle.ci_store_rows.proofs.Records.{is, finds_text, cast_option}
use Rattle.ci_store_rows.proofs.Shows.{by, every}
use Rattle.ci_store_rows.proofs.Tables.{one_found, MeansNumbered, numbered_found, Kind, Changing, Numbered, Selects, PutsRow, put_numbered, all_numbered}
use Rattle.ci_store_rows.proofs.Removals.{removed_numbered, MeansChanges}
use Rattle.ci_store_rows.proofs.Same.{number_of, text_of, same_option, same_flag}

-- ---- two records with the same row

same_runner : (r q : Runner) (text : List ℕ) → ReadsList text r.tags → read (list_text q.tags) ≡ Some (list_data q.tags) → runner_cells r text ≡ runner_row q → r ≡ q
same_runner r q text reads back h =
    let tags_text : text ≡ list_text q.tags = λ i. text_of (h i) 4 in
    let tags = reads q.tags (ap read tags_text ∙ back) in
    λ i. record { id = number_of (h i) 0; name = text_of (h i) 1; token = text_of (h i) 2; project = same_option r.project q.project (λ j. column (h j) 3) i; tags = tags i; untagged = same_flag r.untagged q.untagged (λ j. column (h j) 5) i; paused = same_flag r.paused q.paused (λ j. column (h j) 6) i }

one_runner : (k : Kept) → IsRegular k → (r q : Runner) → Has k.state.runners q → IsRunnerRow (runner_row q) r → r ≡ q
one_runner k o r q there same = same_runner r q same.0 same.2 (all_has _ k.state.runners q o.tags there) (sym same.1)

abbrev runners : Kind Runner
runners = record { at = 2; table = runner; there = refl; values = runner_row; list = λ k. k.state.runners; was = λ k. refl; is_row = IsRunnerRow; one = one_runner; showed = λ key r. refl }

numbers : Numbered runners (λ r. r.id)
numbers = record { first = λ r. refl; place = λ r. refl; keyed = λ n r. refl; tested = λ n r. refl; rises = λ k o. o.runners }

changing : Changing runners runner_cmp (λ xs k. record k { state = record k.state { runners = xs } }) (λ r. read (list_text r.tags) ≡ Some (list_data r.tags))
changing = record {
  total = by_number (λ r. r.id);
  now = λ k xs. refl;
  alike = λ k xs. alike_but (take 2 (rows_by_tree k)) (drop 3 (rows_by_tree k)) runner (map runner_row k.state.runners) (map runner_row xs);
  holds = λ k o. (o.runners, o.tags);
  regular = λ k xs up also o. search rules;
}

means : MeansChanges 2 runner [] UPDATE_RUNNER.now INSERT_RUNNER.now DELETE_RUNNER.now
unfolding understood everything
means = record {
  puts = record { there = refl; apart = refl; update_is = refl; update_plain = (refl, refl); insert_is = refl; insert_plain = (refl, refl); uncounted = refl; unstamped = refl; idle = refl; alone = λ olds a. refl };
  removes = record { there = refl; apart = refl; delete_is = refl; delete_plain = (refl, refl) };
  sets_off = λ olds. refl;
}

pub runner_puts : (r : Runner) → read (list_text r.tags) ≡ Some (list_data r.tags) → PutsRow UPDATE_RUNNER.now INSERT_RUNNER.now (runner_row r) (in_state (with_record (Record.Runner r)))
runner_puts r back =
    put_numbered runners numbers r (λ rows. refl) refl
    (λ i. number r.id ∷ Text r.name ∷ Text r.token ∷ cast_option r.project i ∷ Text (list_text r.tags) ∷ cast_int (if r.untagged then pos 1 else pos 0) i ∷ cast_int (if r.paused then pos 1 else pos 0) i ∷ [])
    changing (λ y. refl) means.puts back

pub runner_removed : {S : Type 0} (g : Ghosts S) (old new : Held S) (id : ℕ) (k : Kept) → Stands k (state g old).now → RemovesUnreferred g [] DELETE_RUNNER.now (number id ∷ []) old new → Stands (in_state (without_record (Key.Runner id)) k) (state g new).now
runner_removed g old new = removed_numbered g old new runners numbers changing [] means tt

-- ---- the queries that load

reads : record {
  numbered : MeansNumbered runner SELECT_RUNNER.now SELECT_RUNNERS_ABOVE.now;
  with_token : Selects runner SELECT_RUNNER_WITH.now (is 3 0 ∷ []) [];
  every : Selects runner SELECT_RUNNERS.now [] (by 0);
}
unfolding understood everything
reads = record {
  numbered = record { at_number = record { is = refl; unlisted = refl; plain = (refl, refl) }; over_it = record { is = refl; unlisted = refl; plain = (refl, refl) } };
  with_token = record { is = refl; unlisted = refl; plain = (refl, refl) };
  every = record { is = refl; unlisted = refl; plain = (refl, refl) };
}

pub plain_select : IsPlain (understood the_schema SELECT_RUNNER.now)
plain_select = reads.numbered.at_number.plain

pub plain_select_above : IsPlain (understood the_schema SELECT_RUNNERS_ABOVE.now)
plain_select_above = reads.numbered.over_it.plain

pub plain_select_with : IsPlain (understood the_schema SELECT_RUNNER_WITH.now)
plain_select_with = reads.with_token.plain

pub plain_select_all : IsPlain (understood the_schema SELECT_RUNNERS.now)
plain_select_all = reads.every.plain

module _ {S : Type 0} (g : Ghosts S) (old new : Held S) (k : Kept) (at : IsAt g k old) where
  pub runner_named : (id : ℕ) (found : Option Runner) → FindsNumber IsRunnerRow g SELECT_RUNNER.now SELECT_RUNNERS_ABOVE.now id old new found → found ≡ runner_at k.state id
  runner_named = numbered_found runners numbers g old new k at.now SELECT_RUNNER.now SELECT_RUNNERS_ABOVE.now reads.numbered

  pub runner_with_found : (token : List ℕ) (found : Option Runner) → ShowsRecords IsRunnerRow g SELECT_RUNNER_WITH.now (Text token ∷ []) old new (listed found) → found ≡ runner_with k.state token
  runner_with_found token =
      one_found runners g old new k at.now SELECT_RUNNER_WITH.now (is 3 0 ∷ []) (Text token ∷ []) (λ x. bytes_eq x.token token) (λ r. refl) (λ x. finds_text x.token token) reads.with_token

  pub runners_found : (found : List Runner) → ShowsRecords IsRunnerRow g SELECT_RUNNERS.now [] old new found → found ≡ k.state.runners
  runners_found found h = all_numbered runners numbers g old new k at.now SELECT_RUNNERS.now [] [] (λ x. true) (λ r. refl) (λ x. refl) reads.every found h ∙ every k.state.runners
