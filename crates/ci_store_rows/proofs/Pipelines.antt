-- The statements that write `pipeline`.
use Rattle.ci_store.specs.Prelude.{Text, Row, column, Term, col, everything, understood, Ghosts, Held, state, Lt, Gt, Kept, with_record, without_record, pipeline_cmp, Pipeline}
use Rattle.ci_store.specs.Prelude.{Record, Key, pipeline_at, newer_in, same_kind, is_newer_of, RefKind, Branch, Tag, Source, Push, Web, Schedule, Api, Trigger, equal, joined}
use Rattle.ci_store_rows.specs.Prelude.{UPDATE_PIPELINE, INSERT_PIPELINE, DELETE_PIPELINE, SELECT_PIPELINE, SELECT_PIPELINES_ABOVE, SELECT_NEWER_PIPELINES}
use Rattle.ci_store_rows.specs.Prelude.{SELECT_PIPELINES_BEFORE, SELECT_SOME_PIPELINES_BEFORE, SELECT_NEWEST_PIPELINES, the_schema, pipeline, number, pipeline_row, kind_number}
use Rattle.ci_store_rows.specs.Prelude.{source_number, rows_by_tree, Stands, IsAt, ShowsRecords, listed, FindsNumber, in_state, RemovesUnreferred}
use Rattle.std.proofs.lemmas.Map.Text.{is_eq-slice_cmp}
use Rattle.ci_store_rows.proofs.Words.{Binary, ◌∙◌, ℕ, pos, List, [], ◌∷◌, refl, ap, ◌≡◌, ◌==◌, ◌&&◌, Bool, true, false, Option, filter, reverse, sym, map, take, drop, length}
use Rattle.ci_store_rows.proofs.Words.{◌<◌, ◌≤◌, if◌then◌else◌, nat_lt, slice_get-filter, cast_int, equal_int, equal_text, compares, IsPlain, bytes_eq, All, Contains, rules}
use Rattle.ci_store_rows.proofs.OneList.{alike_but}
use Rattle.ci_store_rows.proofs.Lists.{by_number}
use Rattle.ci_store_rows.proofs.Records.{is, is_number, above, finds_beyond, below, finds_below, plus_is, finds_plus_number, plus_below, finds_plus_below}
use Rattle.ci_store_rows.proofs.Shows.{by, backward, shows_some, found_some, first_of_one, filter-reverse}
use Rattle.ci_store_rows.proofs.Tables.{MeansNumbered, numbered_found, Kind, Changing, Numbered, exact, SelectsTo, changes, PutsRow, put_numbered, first_numbered}
use Rattle.ci_store_rows.proofs.Tables.{last_numbered}
use Rattle.ci_store_rows.proofs.Removals.{queries, removed_numbered, MeansChanges}
use Rattle.ci_store_rows.proofs.Jobs.{refers_to_pipeline}
use Rattle.ci_store_rows.proofs.Same.{number_of, text_of}

-- ---- two records with the same row

abbrev kind_back : ℕ → RefKind
kind_back n = if n == 0 then Branch else (Tag)

kind_is : (k : RefKind) → kind_back (kind_number k) ≡ k
kind_is Branch = refl
kind_is Tag = refl

abbrev source_back : ℕ → Source
source_back n = if n == 0 then Push else (if n == 1 then Web else (if n == 2 then Schedule else (if n == 3 then Api else (Trigger))))

source_is : (k : Source) → source_back (source_number k) ≡ k
source_is Push = refl
source_is Web = refl
source_is Schedule = refl
source_is Api = refl
source_is Trigger = refl

same_pipeline : (p q : Pipeline) → pipeline_row p ≡ pipeline_row q → p ≡ q
same_pipeline p q h =
    let kind = sym (kind_is p.kind) ∙ (λ i. kind_back (number_of (h i) 3)) ∙ kind_is q.kind in
    let source = sym (source_is p.source) ∙ (λ i. source_back (number_of (h i) 4)) ∙ source_is q.source in
    λ i. record { id = number_of (h i) 0; project = number_of (h i) 1; git_ref = text_of (h i) 2; kind = kind i; source = source i; created = number_of (h i) 5 }

abbrev pipelines : Kind Pipeline
pipelines = exact 3 pipeline refl pipeline_row (λ k. k.state.pipelines) (λ k. refl) (λ key r. refl) same_pipeline

numbers : Numbered pipelines (λ p. p.id)
numbers = record { first = λ p. refl; place = λ r. refl; keyed = λ n p. refl; tested = λ n r. refl; rises = λ k o. o.pipelines }

changing : Changing pipelines pipeline_cmp (λ xs k. record k { state = record k.state { pipelines = xs } }) (λ x. Unit)
changing =
    changes (by_number (λ p. p.id)) (λ k xs. refl)
    (λ k xs. alike_but (take 3 (rows_by_tree k)) (drop 4 (rows_by_tree k)) pipeline (map pipeline_row k.state.pipelines) (map pipeline_row xs)) (λ k o. o.pipelines) (λ k xs up o. search rules)

means : MeansChanges 3 pipeline (refers_to_pipeline ∷ []) UPDATE_PIPELINE.now INSERT_PIPELINE.now DELETE_PIPELINE.now
unfolding understood everything joined
means = record {
  puts = record { there = refl; apart = refl; update_is = refl; update_plain = (refl, refl); insert_is = refl; insert_plain = (refl, refl); uncounted = refl; unstamped = refl; idle = refl; alone = λ olds a. refl };
  removes = record { there = refl; apart = refl; delete_is = refl; delete_plain = (refl, refl) };
  sets_off = λ olds. refl;
}

pub pipeline_puts : (p : Pipeline) → PutsRow UPDATE_PIPELINE.now INSERT_PIPELINE.now (pipeline_row p) (in_state (with_record (Record.Pipeline p)))
pipeline_puts p =
    put_numbered pipelines numbers p (λ rows. refl) refl
    (λ i. number p.id ∷ cast_int (pos p.project) i ∷ Text p.git_ref ∷ cast_int (pos (kind_number p.kind)) i ∷ cast_int (pos (source_number p.source)) i ∷ cast_int (pos p.created) i ∷ [])
    changing (λ y. refl) means.puts tt

pub pipeline_removed : {S : Type 0} (g : Ghosts S) (old new : Held S) (id : ℕ) (k : Kept) → Stands k (state g old).now → RemovesUnreferred g (queries (refers_to_pipeline ∷ [])) DELETE_PIPELINE.now (number id ∷ []) old new → Stands (in_state (without_record (Key.Pipeline id)) k) (state g new).now
pipeline_removed g old new = removed_numbered g old new pipelines numbers changing (refers_to_pipeline ∷ []) means (λ e. absurd cc, tt)

-- ---- the queries that load

abbrev newer_tests : List Term
newer_tests = is 2 0 ∷ is 3 1 ∷ is 4 2 ∷ above 0 3 ∷ []

-- The last value of a query is how many rows are shown at most. Under a plus no index of the column is taken, so that the rows are read by number, up or
-- down, and no more of them than it takes.
reads : record {
  numbered : MeansNumbered pipeline SELECT_PIPELINE.now SELECT_PIPELINES_ABOVE.now;
  newer : SelectsTo (col 0 4) pipeline SELECT_NEWER_PIPELINES.now newer_tests (by 0);
  before : SelectsTo (col 0 1) pipeline SELECT_PIPELINES_BEFORE.now (plus_below 6 0 ∷ []) (by 0);
  -- as the index of moments has them
  some_before : SelectsTo (col 0 1) pipeline SELECT_SOME_PIPELINES_BEFORE.now (below 6 0 ∷ []) (by 6);
  newest : SelectsTo (col 0 1) pipeline SELECT_NEWEST_PIPELINES.now (plus_is 2 0 ∷ []) (backward 0);
}
unfolding understood everything
reads = record {
  numbered = record { at_number = record { is = refl; unlisted = refl; plain = (refl, refl) }; over_it = record { is = refl; unlisted = refl; plain = (refl, refl) } };
  newer = record { is = refl; unlisted = refl; plain = (refl, refl) };
  before = record { is = refl; unlisted = refl; plain = (refl, refl) };
  some_before = record { is = refl; unlisted = refl; plain = (refl, refl) };
  newest = record { is = refl; unlisted = refl; plain = (refl, refl) };
}

pub plain_select : IsPlain (understood the_schema SELECT_PIPELINE.now)
plain_select = reads.numbered.at_number.plain

pub plain_select_above : IsPlain (understood the_schema SELECT_PIPELINES_ABOVE.now)
plain_select_above = reads.numbered.over_it.plain

pub plain_select_newer : IsPlain (understood the_schema SELECT_NEWER_PIPELINES.now)
plain_select_newer = reads.newer.plain

pub plain_select_before : IsPlain (understood the_schema SELECT_PIPELINES_BEFORE.now)
plain_select_before = reads.before.plain

pub plain_select_some_before : IsPlain (understood the_schema SELECT_SOME_PIPELINES_BEFORE.now)
plain_select_some_before = reads.some_before.plain

pub plain_select_newest : IsPlain (understood the_schema SELECT_NEWEST_PIPELINES.now)
plain_select_newest = reads.newest.plain

-- ---- the newer pipelines of the same project, for the same branch or the same tag

both_kinds : (a b : RefKind) → (kind_number a == kind_number b) ≡ same_kind a b
both_kinds Branch Branch = refl
both_kinds Branch Tag = refl
both_kinds Tag Branch = refl
both_kinds Tag Tag = refl

turned : (a b c d : Bool) → (a && (b && (c && d))) ≡ (d && a && b && c)
turned false b c true = refl
turned false b c false = refl
turned true false c true = refl
turned true false c false = refl
turned true true false true = refl
turned true true false false = refl
turned true true true true = refl
turned true true true false = refl

finds_newer : (p x : Pipeline) → (equal Binary (number x.project) (number p.project) && (equal Binary (Text x.git_ref) (Text p.git_ref) && (equal Binary (number (kind_number x.kind)) (number (kind_number p.kind)) && (compares Gt (number x.id) (number p.id) && true)))) ≡ is_newer_of p x
finds_newer p x =
    let project = equal_int x.project p.project ∙ is_number x.project p.project in
    let git_ref = equal_text x.git_ref p.git_ref ∙ is_eq-slice_cmp x.git_ref p.git_ref in
    let kind = equal_int (kind_number x.kind) (kind_number p.kind) ∙ is_number (kind_number x.kind) (kind_number p.kind) ∙ both_kinds x.kind p.kind in
    (λ i. project i && (git_ref i && (kind i && finds_beyond p.id x.id i))) ∙ turned (x.project == p.project) (bytes_eq x.git_ref p.git_ref) (same_kind x.kind p.kind) (nat_lt p.id x.id)

abbrev newer_key : Pipeline → Row
newer_key p = number p.project ∷ Text p.git_ref ∷ number (kind_number p.kind) ∷ number p.id ∷ number 1 ∷ []

abbrev made_before : ℕ → List Pipeline → List Pipeline
made_before before pipelines = filter (λ p. nat_lt p.created before) pipelines

abbrev before_key : ℕ → ℕ → Row
before_key before count = number before ∷ number count ∷ []

module _ {S : Type 0} (g : Ghosts S) (old new : Held S) (k : Kept) (at : IsAt g k old) where
  pub pipeline_named : (id : ℕ) (found : Option Pipeline) → FindsNumber (λ row x. row ≡ pipeline_row x) g SELECT_PIPELINE.now SELECT_PIPELINES_ABOVE.now id old new found → found ≡ pipeline_at k.state id
  pipeline_named = numbered_found pipelines numbers g old new k at.now SELECT_PIPELINE.now SELECT_PIPELINES_ABOVE.now reads.numbered

  pub newer_found : (p : Pipeline) (found : Option Pipeline) → ShowsRecords (λ row x. row ≡ pipeline_row x) g SELECT_NEWER_PIPELINES.now (newer_key p) old new (listed found) → found ≡ newer_in k.state p
  newer_found p found h =
      first_of_one (filter (is_newer_of p) k.state.pipelines) found
      (first_numbered pipelines numbers g old new k at.now SELECT_NEWER_PIPELINES.now newer_tests (newer_key p) (is_newer_of p) (λ r. refl) (finds_newer p) (col 0 4) 1 refl reads.newer (listed found) h)
      ∙ slice_get-filter (is_newer_of p) k.state.pipelines

  -- the pipelines that were made before a moment
  pub pipelines_before_found : (before count : ℕ) (found : List Pipeline) → ShowsRecords (λ row x. row ≡ pipeline_row x) g SELECT_PIPELINES_BEFORE.now (before_key before count) old new found
      → found ≡ take count (made_before before k.state.pipelines)
  pipelines_before_found before count =
      first_numbered pipelines numbers g old new k at.now SELECT_PIPELINES_BEFORE.now (plus_below 6 0 ∷ []) (before_key before count) (λ x. nat_lt x.created before) (λ r. refl)
      (λ x. finds_plus_below before x.created) (col 0 1) count refl reads.before

  pub some_before_found : (before count : ℕ) (found : List Pipeline) → ShowsRecords (λ row x. row ≡ pipeline_row x) g SELECT_SOME_PIPELINES_BEFORE.now (before_key before count) old new found
      → (length found ≤ count) × (All (Contains (made_before before k.state.pipelines)) found) × (length found < count → All (Contains found) (made_before before k.state.pipelines))
  some_before_found before count found h =
      let own : Pipeline → Bool = λ x. nat_lt x.created before in
      let seen = shows_some pipeline_row 3 pipeline refl SELECT_SOME_PIPELINES_BEFORE.now (below 6 0 ∷ []) (before_key before count) (λ im. compares Lt (column im 5) (number before) && true) (λ r. refl)
      own (λ x. finds_below before x.created) k k.state.pipelines refl h.rows (col 0 1) (by 6) (λ r. refl) reads.some_before (state g old) (state g new) at.now h.shown in
      found_some pipelines.is_row pipeline_row own k.state.pipelines (pipelines.one k at.now.inside.regular) count h.rows seen.0 seen.1 seen.2 found h.read

  -- the newest pipelines of a project
  pub newest_found : (project count : ℕ) (found : List Pipeline) → ShowsRecords (λ row x. row ≡ pipeline_row x) g SELECT_NEWEST_PIPELINES.now (number project ∷ number count ∷ []) old new found
      → found ≡ take count (reverse (filter (λ p. p.project == project) k.state.pipelines))
  newest_found project count found h =
      let own : Pipeline → Bool = λ x. x.project == project in
      last_numbered pipelines numbers g old new k at.now SELECT_NEWEST_PIPELINES.now (plus_is 2 0 ∷ []) (number project ∷ number count ∷ []) own (λ r. refl) (λ x. finds_plus_number x.project project)
      (col 0 1) count refl reads.newest found h
      ∙ ap (take count) (filter-reverse own k.state.pipelines)
