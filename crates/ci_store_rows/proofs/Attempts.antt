-- The statements that write `attempt`.
use Rattle.ci_machine.specs.Prelude.{is_live_state, AttemptState, Live, Succeeded, Failed, Cancelled, Cause, UnknownFailure, ScriptFailure, ApiFailure, StuckOrTimeoutFailure}
use Rattle.ci_machine.specs.Prelude.{RunnerSystemFailure, JobExecutionTimeout}
use Rattle.ci_store.specs.Prelude.{Text, column, col, everything, understood, Ghosts, Held, state, Kept, with_record, without_record, attempt_cmp, Attempt, Record, Key}
use Rattle.ci_store.specs.Prelude.{is_live, attempts_of, is_within, attempts_within, attempt_at, live_attempts, last_attempt_by, joined}
use Rattle.ci_store_rows.specs.Prelude.{UPDATE_ATTEMPT, INSERT_ATTEMPT, DELETE_ATTEMPT, SELECT_ATTEMPT, SELECT_ATTEMPTS_OF, SELECT_ATTEMPTS_IN, SELECT_ATTEMPTS_WITHIN}
use Rattle.ci_store_rows.specs.Prelude.{SELECT_ATTEMPTS_ABOVE, SELECT_ATTEMPTS_BY, the_schema, attempt, number, attempt_row, state_number, cause_in, exit_in, rows_by_tree}
use Rattle.ci_store_rows.specs.Prelude.{Stands, IsAt, ShowsRecords, listed, FindsNumber, in_state, RemovesUnreferred, cause_number}
use Rattle.ci_store_rows.proofs.Words.{◌∙◌, ℕ, Bool, pos, List, [], ◌∷◌, filter, reverse, refl, ap, ◌≡◌, ◌==◌, Option, sym, map, take, drop, if◌then◌else◌, None, Some}
use Rattle.ci_store_rows.proofs.Words.{cast_int, IsPlain, rules}
use Rattle.ci_store_rows.proofs.OneList.{alike_but}
use Rattle.ci_store_rows.proofs.Lists.{by_number}
use Rattle.ci_store_rows.proofs.Records.{is, at_least, at_most, finds_number, finds_within, cast_option}
use Rattle.ci_store_rows.proofs.Shows.{columns_of, names_of, by, backward, first_of_one, last_of_those}
use Rattle.ci_store_rows.proofs.Tables.{MeansNumbered, numbered_found, Kind, Changing, Numbered, exact, SelectsTo, Selects, changes, PutsRow, put_numbered, all_numbered}
use Rattle.ci_store_rows.proofs.Tables.{last_numbered}
use Rattle.ci_store_rows.proofs.Removals.{Referring, queries, removed_numbered, MeansChanges}
use Rattle.ci_store_rows.proofs.Blocks.{refers_to_attempt}
use Rattle.ci_store_rows.proofs.Holders.{holders_refer}
use Rattle.ci_store_rows.proofs.Same.{number_of, text_of, same_option}

-- ---- two records with the same row

abbrev cause_back : ℕ → Cause
cause_back n = if n == 0 then UnknownFailure else (if n == 1 then ScriptFailure else (if n == 2 then ApiFailure else (if n == 3 then StuckOrTimeoutFailure else (if n == 4 then RunnerSystemFailure else (JobExecutionTimeout)))))

cause_is : (k : Cause) → cause_back (cause_number k) ≡ k
cause_is UnknownFailure = refl
cause_is ScriptFailure = refl
cause_is ApiFailure = refl
cause_is StuckOrTimeoutFailure = refl
cause_is RunnerSystemFailure = refl
cause_is JobExecutionTimeout = refl

abbrev cause_or : Option ℕ → Cause
cause_or (Some n) = cause_back n
cause_or None = UnknownFailure

abbrev state_back : ℕ → Option ℕ → Option ℕ → AttemptState
state_back n cause exit = if n == 0 then Live else (if n == 1 then Succeeded exit else (if n == 2 then Failed (cause_or cause) exit else (Cancelled)))

state_is : (s : AttemptState) → state_back (state_number s) (cause_in s) (exit_in s) ≡ s
state_is Live = refl
state_is (Succeeded exit) = refl
state_is (Failed cause exit) = ap (λ c. Failed c exit) (cause_is cause)
state_is Cancelled = refl

same_attempt : (p q : Attempt) → attempt_row p ≡ attempt_row q → p ≡ q
same_attempt p q h =
    let cause = same_option (cause_in p.state) (cause_in q.state) (λ i. column (h i) 7) in
    let exit = same_option (exit_in p.state) (exit_in q.state) (λ i. column (h i) 8) in
    let state = sym (state_is p.state) ∙ (λ i. state_back (number_of (h i) 6) (cause i) (exit i)) ∙ state_is q.state in
    λ i. record { id = number_of (h i) 0; job = number_of (h i) 1; runner = number_of (h i) 2; token = text_of (h i) 3; granted = number_of (h i) 4; seen = number_of (h i) 5; state = state i }

abbrev attempts : Kind Attempt
attempts = exact 6 attempt refl attempt_row (λ k. k.state.attempts) (λ k. refl) (λ key r. refl) same_attempt

numbers : Numbered attempts (λ a. a.id)
numbers = record { first = λ a. refl; place = λ r. refl; keyed = λ n a. refl; tested = λ n r. refl; rises = λ k o. o.attempts }

changing : Changing attempts attempt_cmp (λ xs k. record k { state = record k.state { attempts = xs } }) (λ x. Unit)
changing =
    changes (by_number (λ a. a.id)) (λ k xs. refl)
    (λ k xs. alike_but (take 6 (rows_by_tree k)) (drop 7 (rows_by_tree k)) attempt (map attempt_row k.state.attempts) (map attempt_row xs)) (λ k o. o.attempts) (λ k xs up o. search rules)

means : MeansChanges 6 attempt (refers_to_attempt ∷ holders_refer ∷ []) UPDATE_ATTEMPT.now INSERT_ATTEMPT.now DELETE_ATTEMPT.now
unfolding understood everything joined
means = record {
  puts = record { there = refl; apart = refl; update_is = refl; update_plain = (refl, refl); insert_is = refl; insert_plain = (refl, refl); uncounted = refl; unstamped = refl; idle = refl; alone = λ olds a. refl };
  removes = record { there = refl; apart = refl; delete_is = refl; delete_plain = (refl, refl) };
  sets_off = λ olds. refl;
}

pub attempt_puts : (a : Attempt) → PutsRow UPDATE_ATTEMPT.now INSERT_ATTEMPT.now (attempt_row a) (in_state (with_record (Record.Attempt a)))
attempt_puts a =
    put_numbered attempts numbers a (λ rows. refl) refl
    (λ i. number a.id ∷ cast_int (pos a.job) i ∷ cast_int (pos a.runner) i ∷ Text a.token ∷ cast_int (pos a.granted) i ∷ cast_int (pos a.seen) i ∷ cast_int (pos (state_number a.state)) i ∷ cast_option (cause_in a.state) i ∷ cast_option (exit_in a.state) i ∷ [])
    changing (λ y. refl) means.puts tt

pub attempt_removed : {S : Type 0} (g : Ghosts S) (old new : Held S) (id : ℕ) (k : Kept) → Stands k (state g old).now → RemovesUnreferred g (queries (refers_to_attempt ∷ holders_refer ∷ [])) DELETE_ATTEMPT.now (number id ∷ []) old new → Stands (in_state (without_record (Key.Attempt id)) k) (state g new).now
attempt_removed g old new = removed_numbered g old new attempts numbers changing (refers_to_attempt ∷ holders_refer ∷ []) means (λ e. absurd cc, (λ e. absurd cc, tt))

-- ---- the queries that load

pub reads : record {
  numbered : MeansNumbered attempt SELECT_ATTEMPT.now SELECT_ATTEMPTS_ABOVE.now;
  of_job : Selects attempt SELECT_ATTEMPTS_OF.now (is 2 0 ∷ []) (by 0);
  in_state : Selects attempt SELECT_ATTEMPTS_IN.now (is 7 0 ∷ []) (by 0);
  within : Selects attempt SELECT_ATTEMPTS_WITHIN.now (at_least 2 0 ∷ at_most 2 1 ∷ []) (by 0);
  -- the second value is how many rows are shown at most
  by_runner : SelectsTo (col 0 1) attempt SELECT_ATTEMPTS_BY.now (is 3 0 ∷ []) (backward 0);
}
unfolding understood everything
reads = record {
  numbered = record { at_number = record { is = refl; unlisted = refl; plain = (refl, refl) }; over_it = record { is = refl; unlisted = refl; plain = (refl, refl) } };
  of_job = record { is = refl; unlisted = refl; plain = (refl, refl) };
  in_state = record { is = refl; unlisted = refl; plain = (refl, refl) };
  within = record { is = refl; unlisted = refl; plain = (refl, refl) };
  by_runner = record { is = refl; unlisted = refl; plain = (refl, refl) };
}

abbrev pub refers_to_job : Referring
refers_to_job = record { child = attempt; at = 6; there = refl; place = 2; text = SELECT_ATTEMPTS_OF.now; columns = columns_of attempt; order = by 0; names = names_of attempt; means = reads.of_job }

pub plain_select : IsPlain (understood the_schema SELECT_ATTEMPT.now)
plain_select = reads.numbered.at_number.plain

pub plain_select_above : IsPlain (understood the_schema SELECT_ATTEMPTS_ABOVE.now)
plain_select_above = reads.numbered.over_it.plain

pub plain_select_of : IsPlain (understood the_schema SELECT_ATTEMPTS_OF.now)
plain_select_of = reads.of_job.plain

pub plain_select_in : IsPlain (understood the_schema SELECT_ATTEMPTS_IN.now)
plain_select_in = reads.in_state.plain

pub plain_select_within : IsPlain (understood the_schema SELECT_ATTEMPTS_WITHIN.now)
plain_select_within = reads.within.plain

pub plain_select_by : IsPlain (understood the_schema SELECT_ATTEMPTS_BY.now)
plain_select_by = reads.by_runner.plain

live_is : (s : AttemptState) → (state_number s == 0) ≡ is_live_state s
live_is Live = refl
live_is (Succeeded exit) = refl
live_is (Failed cause exit) = refl
live_is Cancelled = refl

module _ {S : Type 0} (g : Ghosts S) (old new : Held S) (k : Kept) (at : IsAt g k old) where
  pub attempt_named : (id : ℕ) (found : Option Attempt) → FindsNumber (λ row x. row ≡ attempt_row x) g SELECT_ATTEMPT.now SELECT_ATTEMPTS_ABOVE.now id old new found → found ≡ attempt_at k.state id
  attempt_named = numbered_found attempts numbers g old new k at.now SELECT_ATTEMPT.now SELECT_ATTEMPTS_ABOVE.now reads.numbered

  pub attempts_found : (job : ℕ) (found : List Attempt) → ShowsRecords (λ row x. row ≡ attempt_row x) g SELECT_ATTEMPTS_OF.now (number job ∷ []) old new found → found ≡ attempts_of k.state job
  attempts_found job = all_numbered attempts numbers g old new k at.now SELECT_ATTEMPTS_OF.now (is 2 0 ∷ []) (number job ∷ []) (λ x. x.job == job) (λ r. refl) (λ x. finds_number x.job job) reads.of_job

  pub live_found : (found : List Attempt) → ShowsRecords (λ row x. row ≡ attempt_row x) g SELECT_ATTEMPTS_IN.now (number 0 ∷ []) old new found → found ≡ live_attempts k.state
  live_found = all_numbered attempts numbers g old new k at.now SELECT_ATTEMPTS_IN.now (is 7 0 ∷ []) (number 0 ∷ []) is_live (λ r. refl) (λ x. finds_number (state_number x.state) 0 ∙ live_is x.state) reads.in_state

  pub attempts_within_found : (first last : ℕ) (found : List Attempt) → ShowsRecords (λ row x. row ≡ attempt_row x) g SELECT_ATTEMPTS_WITHIN.now (number first ∷ number last ∷ []) old new found
      → found ≡ attempts_within first last k.state.attempts
  attempts_within_found first last =
      all_numbered attempts numbers g old new k at.now SELECT_ATTEMPTS_WITHIN.now (at_least 2 0 ∷ at_most 2 1 ∷ []) (number first ∷ number last ∷ []) (λ x. is_within first last x.job) (λ r. refl)
      (λ x. finds_within first last x.job) reads.within

  -- the last attempt of a runner
  pub last_found : (runner : ℕ) (found : Option Attempt) → ShowsRecords (λ row x. row ≡ attempt_row x) g SELECT_ATTEMPTS_BY.now (number runner ∷ number 1 ∷ []) old new (listed found) → found ≡ last_attempt_by k.state runner
  last_found runner found h =
      let own : Attempt → Bool = λ x. x.runner == runner in
      first_of_one (filter own (reverse k.state.attempts)) found
      (last_numbered attempts numbers g old new k at.now SELECT_ATTEMPTS_BY.now (is 3 0 ∷ []) (number runner ∷ number 1 ∷ []) own (λ r. refl) (λ x. finds_number x.runner runner) (col 0 1) 1 refl reads.by_runner (listed found) h)
      ∙ last_of_those own k.state.attempts
