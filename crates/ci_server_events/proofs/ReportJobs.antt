-- The jobs of a pipeline, as what was looked up tells them.
use Rattle.std.proofs.Common.{◌≡◌, ℕ, Bool, true, List, ◌++◌, length, map, filter, ◌==◌, refl, sym, ap, subst, ◌∙◌, eqb-true}
use Rattle.ci_machine_steps.specs.Prelude.{Facts, Row, Status, Attempt, Claim, Job, Pipeline, status_of_jobs, is_free, held_claim, with_status, Kept, is_within}
use Rattle.ci_machine_steps.specs.Prelude.{pending_status, shown_status, job_row, job_rows, groups_in, claims_in, jobs_of, attempts_of, facts_of, rows_of, row_for, status_for}
use Rattle.ci_machine.proofs.Keyed.{Has, has_find, has_from_all}
use Rattle.ci_machine.proofs.Filters.{filter_implied}
use Rattle.ci_machine_statuses.proofs.Puts.{map_same, map_twice}
use Rattle.ci_server_lookups.specs.Prelude.{FreeAlike, IsWhole}
use Rattle.ci_server_lookups.specs.declared.records.Whole.{Whole}
use Rattle.ci_server_lookups.proofs.Claiming.{with_alike}
use Rattle.ci_server_events.specs.Told.{job_told}

-- by claims on the same of its groups a job is told alike
shown_alike : (cs ds : List Claim) (project : ℕ) (j : Job) (s : Status) → is_free cs project j.options.resource_group ≡ is_free ds project j.options.resource_group → shown_status cs project j s ≡ shown_status ds project j s
shown_alike cs ds project j Status.Pending same = ap pending_status same
shown_alike cs ds project j _ same = refl

module _ (k : Kept) (id : ℕ) (w : Whole) (whole : IsWhole k id w) where
  number : w.pipeline.id ≡ id
  number = eqb-true w.pipeline.id id (has_find (λ (p : Pipeline). p.id == id) w.pipeline k.state.pipelines whole.there).1

  tries : (j : Job) → Has j w.records.jobs.items → length (filter (λ a. a.job == j.id) w.records.attempts.items) ≡ length (attempts_of k.state j.id)
  tries j h =
      let first = whole.records.first in
      let last = whole.records.last in
      let own : Attempt → Bool = λ a. a.job == j.id in
      ap (λ (l : List Attempt). length (filter own l)) whole.records.are_attempts
      ∙ ap length (filter_implied own (λ a. is_within first last a.job) k.state.attempts
      (λ a k e. subst (λ m. is_within first last m ≡ true) (sym (eqb-true a.job j.id e)) (has_from_all (λ (i : Job). is_within first last i.id ≡ true) j w.records.jobs.items whole.records.inside h)))

  -- for which groups its jobs must wait, as it was looked up
  abbrev claims : List Claim
  claims = map held_claim w.held.items ++ w.ahead.items

  claims_alike : FreeAlike claims (claims_in k.state k.board w.pipeline.id) w.pipeline.project w.records.jobs.items
  claims_alike =
      subst (λ n. FreeAlike claims (claims_in k.state k.board n) w.pipeline.project w.records.jobs.items) (sym number)
      (with_alike (groups_in k.state k.board) id w.pipeline.project w.records.jobs.items w.held.items w.ahead.items whole.held whole.ahead)

  one_told : (j : Job) → Has j w.records.jobs.items → job_told claims w.pipeline.project w.records.attempts.items k.board j ≡ job_row k.state k.board (claims_in k.state k.board w.pipeline.id) w.pipeline.project j
  one_told j h =
      let own = claims_in k.state k.board w.pipeline.id in
      let free = has_from_all (λ (i : Job). is_free claims w.pipeline.project i.options.resource_group ≡ is_free own w.pipeline.project i.options.resource_group) j w.records.jobs.items claims_alike h in
      let shown = shown_alike claims own w.pipeline.project j (status_for k.board j.id) free in
      let count = tries j h in
      λ i. record { job = j.id; status = shown i; tries = count i; name = j.name }

  -- its jobs are told as they are
  pub jobs_told : map (job_told claims w.pipeline.project w.records.attempts.items k.board) w.records.jobs.items ≡ job_rows k.state k.board w.pipeline
  jobs_told =
      let own = claims_in k.state k.board w.pipeline.id in
      map_same (job_told claims w.pipeline.project w.records.attempts.items k.board) (job_row k.state k.board own w.pipeline.project) w.records.jobs.items one_told
      ∙ ap (map (job_row k.state k.board own w.pipeline.project)) (whole.records.are_jobs ∙ ap (jobs_of k.state) (sym number))

  -- with these rows of their statuses
  pub rows_told : (rows : List Row) → rows ≡ rows_of k.state k.board id → rows ≡ map (λ j. row_for k.board j.id) w.records.jobs.items
  rows_told rows is = is ∙ map_twice (row_for k.board) (λ (j : Job). j.id) (jobs_of k.state id) ∙ ap (map (λ (j : Job). row_for k.board j.id)) (sym whole.records.are_jobs)

  -- and its status
  pub status_told : (facts : List Facts) (rows : List Row) → facts ≡ facts_of k.state id → rows ≡ rows_of k.state k.board id → status_of_jobs w.records.jobs.items facts rows ≡ (with_status k.state k.board w.pipeline).status
  status_told facts rows are_facts are_rows =
      (λ i. status_of_jobs (whole.records.are_jobs i) (are_facts i) (are_rows i)) ∙ ap (λ n. status_of_jobs (jobs_of k.state n) (facts_of k.state n) (rows_of k.state k.board n)) (sym number)
