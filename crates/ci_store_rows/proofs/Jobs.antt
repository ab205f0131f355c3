-- The statements that write `job`.
use Rattle.ci_store.proofs.Childless.{cascade}
use Rattle.ci_store.specs.Prelude.{Text, column, everything, understood, Ghosts, Held, state, Kept, with_record, without_record, job_cmp, Job, Record, Key, jobs_of, job_at}
use Rattle.ci_store.specs.Prelude.{Has, plain, joined, Work, pairs, loses}
use Rattle.ci_store_rows.specs.Prelude.{UPDATE_JOB, INSERT_JOB, DELETE_JOB, SELECT_JOB, SELECT_JOBS_OF, SELECT_JOBS_ABOVE, the_schema, job, need, spec_text, spec_data, number}
use Rattle.ci_store_rows.specs.Prelude.{job_row, rows_by_tree, IsRegular, Stands, IsAt, ShowsRecords, FindsNumber, IsJobRow, in_state, RemovesUnreferred, job_cells, ReadsSpec}
use Rattle.ci_store_rows.proofs.Words.{◌≡◌, ◌∙◌, ℕ, pos, List, [], ◌∷◌, ◌++◌, if◌then◌else◌, cond, Some, None, refl, ap, ◌==◌, Option, sym, map, take, drop, codes, cast_int}
use Rattle.ci_store_rows.proofs.Words.{read, IsPlain, all_has, list_any, cons_option, rules}
use Rattle.ci_store_rows.proofs.OneList.{alike_but}
use Rattle.ci_store_rows.proofs.Lists.{by_number}
use Rattle.ci_store_rows.proofs.Records.{is, finds_number}
use Rattle.ci_store_rows.proofs.Shows.{columns_of, names_of, by}
use Rattle.ci_store_rows.proofs.Tables.{MeansNumbered, numbered_found, Kind, Changing, Numbered, Selects, PutsRow, put_numbered, all_numbered}
use Rattle.ci_store_rows.proofs.Removals.{Referring, queries, twice, removed_numbered, MeansChanges}
use Rattle.ci_store_rows.proofs.JobVariables.{refers_to_job as variables_refer}
use Rattle.ci_store_rows.proofs.Attempts.{refers_to_job as attempts_refer}
use Rattle.ci_store_rows.proofs.Needs.{needs_refer, needed_refer}
use Rattle.ci_store_rows.proofs.Board.{rows_refer}
use Rattle.ci_store_rows.proofs.Same.{number_of, text_of, same_flag}

-- ---- two records with the same row

same_job : (j q : Job) (spec : List ℕ) → ReadsSpec spec j.options → read (spec_text q.options) ≡ Some (spec_data q.options) → job_cells j spec ≡ job_row q → j ≡ q
same_job j q spec reads spec_back h =
    let text : spec ≡ spec_text q.options = λ i. text_of (h i) 5 in
    let options = reads q.options (ap read text ∙ spec_back) in
    λ i. record { id = number_of (h i) 0; pipeline = number_of (h i) 1; position = number_of (h i) 2; name = text_of (h i) 3; stage = text_of (h i) 4; options = options i; played = same_flag j.played q.played (λ e. column (h e) 6) i; cancelled = same_flag j.cancelled q.cancelled (λ e. column (h e) 7) i; set_aside = number_of (h i) 8 }

-- a row that a job of the state has is read as that job
one_job : (k : Kept) → IsRegular k → (j q : Job) → Has k.state.jobs q → IsJobRow (job_row q) j → j ≡ q
one_job k o j q there same = same_job j q same.0 same.2 (all_has _ k.state.jobs q o.specs there) (sym same.1)

abbrev jobs : Kind Job
jobs = record { at = 4; table = job; there = refl; values = job_row; list = λ k. k.state.jobs; was = λ k. refl; is_row = IsJobRow; one = one_job; showed = λ key r. refl }

numbers : Numbered jobs (λ j. j.id)
numbers = record { first = λ j. refl; place = λ r. refl; keyed = λ n j. refl; tested = λ n r. refl; rises = λ k o. o.jobs }

changing : Changing jobs job_cmp (λ xs k. record k { state = record k.state { jobs = xs } }) (λ j. read (spec_text j.options) ≡ Some (spec_data j.options))
changing = record {
  total = by_number (λ j. j.id);
  now = λ k xs. refl;
  alike = λ k xs. alike_but (take 4 (rows_by_tree k)) (drop 5 (rows_by_tree k)) job (map job_row k.state.jobs) (map job_row xs);
  holds = λ k o. (o.jobs, o.specs);
  regular = λ k xs up also o. search rules;
}

means : MeansChanges 4 job (variables_refer ∷ attempts_refer ∷ needs_refer ∷ needed_refer ∷ rows_refer ∷ []) UPDATE_JOB.now INSERT_JOB.now DELETE_JOB.now
unfolding understood everything joined
means = record {
  puts = record { there = refl; apart = refl; update_is = refl; update_plain = (refl, refl); insert_is = refl; insert_plain = (refl, refl); uncounted = refl; unstamped = refl; idle = refl; alone = λ olds a. refl };
  removes = record { there = refl; apart = refl; delete_is = refl; delete_plain = (refl, refl) };
  sets_off = λ olds.
      let loses_some = list_any (loses plain (0 ∷ [])) (pairs olds []) in
      let of : Referring → List Work = λ r. cons_option (cond loses_some (Some (cascade r.child r.place (codes "job") olds)) None) [] in
      ap (λ l. of variables_refer ++ (of attempts_refer ++ l)) (twice loses_some (cascade need 1 (codes "job") olds) (cascade need 2 (codes "job") olds) (of rows_refer ++ []));
}

pub job_puts : (j : Job) → read (spec_text j.options) ≡ Some (spec_data j.options) → PutsRow UPDATE_JOB.now INSERT_JOB.now (job_row j) (in_state (with_record (Record.Job j)))
job_puts j back =
    put_numbered jobs numbers j (λ rows. refl) refl
    (λ i. number j.id ∷ cast_int (pos j.pipeline) i ∷ cast_int (pos j.position) i ∷ Text j.name ∷ Text j.stage ∷ Text (spec_text j.options) ∷ cast_int (if j.played then pos 1 else pos 0) i ∷ cast_int (if j.cancelled then pos 1 else pos 0) i ∷ cast_int (pos j.set_aside) i ∷ [])
    changing (λ y. refl) means.puts back

pub job_removed : {S : Type 0} (g : Ghosts S) (old new : Held S) (id : ℕ) (k : Kept) → Stands k (state g old).now → RemovesUnreferred g (queries (variables_refer ∷ attempts_refer ∷ needs_refer ∷ needed_refer ∷ rows_refer ∷ [])) DELETE_JOB.now (number id ∷ []) old new → Stands (in_state (without_record (Key.Job id)) k) (state g new).now
job_removed g old new = removed_numbered g old new jobs numbers changing (variables_refer ∷ attempts_refer ∷ needs_refer ∷ needed_refer ∷ rows_refer ∷ []) means (λ e. absurd cc, (λ e. absurd cc, (λ e. absurd cc, (λ e. absurd cc, (λ e. absurd cc, tt)))))

-- ---- the queries that load

means_numbered : MeansNumbered job SELECT_JOB.now SELECT_JOBS_ABOVE.now
unfolding understood everything
means_numbered = record { at_number = record { is = refl; unlisted = refl; plain = (refl, refl) }; over_it = record { is = refl; unlisted = refl; plain = (refl, refl) } }

pub plain_select : IsPlain (understood the_schema SELECT_JOB.now)
plain_select = means_numbered.at_number.plain

pub plain_select_above : IsPlain (understood the_schema SELECT_JOBS_ABOVE.now)
plain_select_above = means_numbered.over_it.plain

pub means_select_of : Selects job SELECT_JOBS_OF.now (is 2 0 ∷ []) (by 0)
unfolding understood everything
means_select_of = record { is = refl; unlisted = refl; plain = (refl, refl) }

abbrev pub refers_to_pipeline : Referring
refers_to_pipeline = record { child = job; at = 4; there = refl; place = 2; text = SELECT_JOBS_OF.now; columns = columns_of job; order = by 0; names = names_of job; means = means_select_of }

pub plain_select_of : IsPlain (understood the_schema SELECT_JOBS_OF.now)
plain_select_of = means_select_of.plain

module _ {S : Type 0} (g : Ghosts S) (old new : Held S) (k : Kept) (at : IsAt g k old) where
  pub job_named : (id : ℕ) (found : Option Job) → FindsNumber IsJobRow g SELECT_JOB.now SELECT_JOBS_ABOVE.now id old new found → found ≡ job_at k.state id
  job_named = numbered_found jobs numbers g old new k at.now SELECT_JOB.now SELECT_JOBS_ABOVE.now means_numbered

  pub jobs_found : (pipeline : ℕ) (found : List Job) → ShowsRecords IsJobRow g SELECT_JOBS_OF.now (number pipeline ∷ []) old new found → found ≡ jobs_of k.state pipeline
  jobs_found pipeline =
      all_numbered jobs numbers g old new k at.now SELECT_JOBS_OF.now (is 2 0 ∷ []) (number pipeline ∷ []) (λ x. x.pipeline == pipeline) (λ r. refl) (λ x. finds_number x.pipeline pipeline) means_select_of
