-- Jobs that are shown, one after the other.
use Rattle.std.proofs.Common.{◌≡◌, ℕ, ◌+◌, ◌<◌, ◌≤◌, List, [], ◌∷◌, ◌++◌, length, map, drop, slice_index_or, sym, ap, ◌∙◌}
use Rattle.std.proofs.lemmas.List.{append-nil, append_assoc, at_drop_more, drop_all, map_push}
use Rattle.serde_json.specs.Data.{Data}
use Rattle.ci_machine_steps.specs.Prelude.{Facts, Row, Attempt, Job, Claim, Need, Runner, printed_status, job_data, jobs_data, told_job, told_jobs}

-- one more, as it is seen
pub pushed_as : {V : Type 0} (view : V → Data) (before after : List V) (v : V) (d : Data) → after ≡ before ++ v ∷ [] → view v ≡ d → map view after ≡ map view before ++ d ∷ []
pushed_as view before after v d is seen = ap (map view) is ∙ (map_push view before v ∙ ap (λ (x : Data). map view before ++ x ∷ []) seen)

-- the next job of those that are left
next_job : (claims : List Claim) (project : ℕ) (jobs : List Job) (rows : List Row) (i : ℕ) (j : Job) (d : Row) → i < length jobs → i < length rows → j ≡ slice_index_or jobs i j
    → jobs_data claims project (drop i jobs) (drop i rows) ≡ job_data (printed_status claims project j (slice_index_or rows i d).status) j ∷ jobs_data claims project (drop (i + 1) jobs) (drop (i + 1) rows)
next_job claims project jobs rows i j d in_jobs in_rows at_job =
    let rest = jobs_data claims project (drop (i + 1) jobs) (drop (i + 1) rows) in
    at_drop_more (λ (js : List Job). jobs_data claims project js (drop i rows)) jobs i j in_jobs
    ∙ (at_drop_more (λ (rs : List Row). jobs_data claims project (slice_index_or jobs i j ∷ drop (i + 1) jobs) rs) rows i d in_rows
    ∙ ap (λ (x : Job). job_data (printed_status claims project x (slice_index_or rows i d).status) x ∷ rest) (sym at_job))

-- it is shown behind those before it
pub jobs_further : (claims : List Claim) (project : ℕ) (jobs : List Job) (rows : List Row) (i : ℕ) (j : Job) (d : Row) (before after : List Data) → i < length jobs → i < length rows → j ≡ slice_index_or jobs i j
    → after ≡ before ++ job_data (printed_status claims project j (slice_index_or rows i d).status) j ∷ [] → before ++ jobs_data claims project (drop i jobs) (drop i rows) ≡ jobs_data claims project jobs rows
    → after ++ jobs_data claims project (drop (i + 1) jobs) (drop (i + 1) rows) ≡ jobs_data claims project jobs rows
jobs_further claims project jobs rows i j d before after in_jobs in_rows at_job pushed all =
    let rest = jobs_data claims project (drop (i + 1) jobs) (drop (i + 1) rows) in
    ap (λ (ds : List Data). ds ++ rest) pushed
    ∙ (append_assoc before (job_data (printed_status claims project j (slice_index_or rows i d).status) j ∷ []) rest
    ∙ (ap (λ (ds : List Data). before ++ ds) (sym (next_job claims project jobs rows i j d in_jobs in_rows at_job)) ∙ all))

-- none is left
pub jobs_ended : (claims : List Claim) (project : ℕ) (jobs : List Job) (rows : List Row) (i : ℕ) (shown : List Data) → length jobs ≤ i → shown ++ jobs_data claims project (drop i jobs) (drop i rows) ≡ jobs_data claims project jobs rows
    → shown ≡ jobs_data claims project jobs rows
jobs_ended claims project jobs rows i shown over all =
    sym (ap (λ (js : List Job). shown ++ jobs_data claims project js (drop i rows)) (drop_all i jobs over) ∙ append-nil shown) ∙ all

-- ---- jobs that are read

module _ (claims : List Claim) (project : ℕ) (runners : List Runner) (needs : List Need) (attempts : List Attempt) (jobs : List Job) (facts : List Facts) (rows : List Row) where
  abbrev told_from : ℕ → List Data
  told_from i = told_jobs claims project runners needs attempts (drop i jobs) (drop i facts) (drop i rows)

  abbrev told_at : Job → ℕ → Facts → Row → Data
  told_at j i f r = told_job claims project runners needs attempts j (slice_index_or facts i f) (slice_index_or rows i r)

  next_told : (i : ℕ) (j : Job) (f : Facts) (r : Row) → i < length jobs → i < length facts → i < length rows → j ≡ slice_index_or jobs i j → told_from i ≡ told_at j i f r ∷ told_from (i + 1)
  next_told i j f r in_jobs in_facts in_rows at_job =
      at_drop_more (λ (js : List Job). told_jobs claims project runners needs attempts js (drop i facts) (drop i rows)) jobs i j in_jobs
      ∙ (at_drop_more (λ (fs : List Facts). told_jobs claims project runners needs attempts (slice_index_or jobs i j ∷ drop (i + 1) jobs) fs (drop i rows)) facts i f in_facts
      ∙ (at_drop_more (λ (rs : List Row). told_jobs claims project runners needs attempts (slice_index_or jobs i j ∷ drop (i + 1) jobs) (slice_index_or facts i f ∷ drop (i + 1) facts) rs) rows i r in_rows
      ∙ ap (λ (x : Job). told_at x i f r ∷ told_from (i + 1)) (sym at_job)))

  -- the next job is told behind those before it
  pub told_further : (i : ℕ) (j : Job) (f : Facts) (r : Row) (before after : List Data) → i < length jobs → i < length facts → i < length rows → j ≡ slice_index_or jobs i j
      → after ≡ before ++ told_at j i f r ∷ [] → before ++ told_from i ≡ told_jobs claims project runners needs attempts jobs facts rows → after ++ told_from (i + 1) ≡ told_jobs claims project runners needs attempts jobs facts rows
  told_further i j f r before after in_jobs in_facts in_rows at_job pushed all =
      ap (λ (ds : List Data). ds ++ told_from (i + 1)) pushed
      ∙ (append_assoc before (told_at j i f r ∷ []) (told_from (i + 1))
      ∙ (ap (λ (ds : List Data). before ++ ds) (sym (next_told i j f r in_jobs in_facts in_rows at_job)) ∙ all))

  -- none is left
  pub told_ended : (i : ℕ) (shown : List Data) → length jobs ≤ i → shown ++ told_from i ≡ told_jobs claims project runners needs attempts jobs facts rows → shown ≡ told_jobs claims project runners needs attempts jobs facts rows
  told_ended i shown over all =
      sym (ap (λ (js : List Job). shown ++ told_jobs claims project runners needs attempts js (drop i facts) (drop i rows)) (drop_all i jobs over) ∙ append-nil shown) ∙ all
