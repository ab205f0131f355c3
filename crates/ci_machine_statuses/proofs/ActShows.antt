-- What a user does to jobs: what its outcome shows.
use Rattle.std.proofs.Common.{◌≡◌, ℕ, ◌<◌, Bool, true, List, [], ◌∷◌, length, map, Some, None, slice_index_or, refl, sym, ap, subst, ◌∙◌, inl}
use Rattle.std.proofs.lemmas.Bool.{cond-true}
use Rattle.std.proofs.lemmas.List.{get_or-map, length-map}
use Rattle.ci_machine_steps.specs.Prelude.{Row, no_row, Status, Pipeline, Job, BoardRow, Claim, State, put_rows, claims_in, jobs_of, numbers_of, facts_of, row_for, status_for}
use Rattle.ci_machine_steps.specs.Prelude.{RowChange, Reply, printed_status, job_data, jobs_data, pipeline_shown, ShowsJobAfter, ShowsPipelineAfter}
use Rattle.ci_board.specs.Prelude.{row_at}
use Rattle.ci_machine.proofs.Keyed.{Has, has_from_all}
use Rattle.ci_machine_steps.proofs.Sound.{Sound}
use Rattle.ci_machine_steps.proofs.Alike.{shown_alike}
use Rattle.ci_machine_statuses.specs.declared.act.Act.{Act}
use Rattle.ci_machine_statuses.specs.declared.outcome.Outcome.{Outcome}
use Rattle.ci_machine_statuses.specs.Acts.{is_permitted, act_changes, is_acted_on, acted_jobs, acted_state, shows_job_by, shows_pipeline_by, IsOutcome}
use Rattle.ci_machine_statuses.proofs.Puts.{number, cons_same}
use Rattle.ci_machine_statuses.proofs.ActLines.{own_rows, rows_after}
use Rattle.ci_machine_statuses.proofs.ActFacts.{after_is, of_job, jobs_after, keeps, all_keep}
use Rattle.ci_machine_statuses.proofs.ActPlaces.{one_acted}

-- ---- one job

-- the only place of a list of which one record is found
record IsOne (js : List Job) (places : List ℕ) (job : Job) : Type 0 where
  pub place : ℕ
  pub only : places ≡ place ∷ []
  pub there : place < length js
  pub is : slice_index_or js place job ≡ job

one_place : (js : List Job) (places : List ℕ) (job : Job) → ((i : ℕ) → Has i places → i < length js) → map (λ i. slice_index_or js i job) places ≡ job ∷ [] → IsOne js places job
one_place js [] job within e = absurd (cc)
one_place js (i ∷ []) job within e = record { place = i; only = refl; there = within i (inl refl); is = cc }
one_place js (i ∷ (k ∷ ks)) job within e = absurd (cc)

module _ (act : Act) (s : State) (board : List BoardRow) (job : Job) (o : Outcome) (sound : Sound s) (has : Has job s.jobs) (permitted : is_permitted act (status_for board job.id) ≡ true)
    (outcome : IsOutcome act (Some job.id) s board job.pipeline o) where
  abbrev p : ℕ
  p = job.pipeline

  alone : acted_jobs act (Some job.id) s board p ≡ job ∷ []
  alone = one_acted act s board job sound has ∙ cond-true (is_permitted act (status_for board job.id)) (job ∷ []) [] permitted

  at : IsOne (jobs_of s p) o.places.items job
  at = one_place (jobs_of s p) o.places.items job (λ i k. has_from_all (λ n. n < length (jobs_of s p)) i o.places.items outcome.within k) (outcome.jobs job ∙ alone)

  abbrev after : List BoardRow
  after = put_rows o.changed.items board

  row_is : row_at o.rows.items at.place ≡ row_for after job.id
  row_is =
      let named : slice_index_or (numbers_of s p) at.place 0 ≡ job.id = get_or-map number (jobs_of s p) at.place job 0 at.there ∙ ap number at.is in
      let there : at.place < length (numbers_of s p) = subst (λ n. at.place < n) (sym (length-map (jobs_of s p) number)) at.there in
      ap (λ (rows : List Row). row_at rows at.place) (sym (own_rows act (Some job.id) s board p o sound outcome))
      ∙ (get_or-map (row_for after) (numbers_of s p) at.place 0 no_row there ∙ ap (row_for after) named)

  pub shows_job : (i : ℕ) × ((o.places.items ≡ i ∷ []) × ShowsJobAfter s job (act_changes act s (job ∷ [])) (shows_job_by s after (act_changes act s (job ∷ [])) job (row_at o.rows.items i).status))
  shows_job = (
    at.place,
    (
      at.only,
      subst (λ (js : List Job). ShowsJobAfter s job (act_changes act s js) (shows_job_by s after (act_changes act s js) job (row_at o.rows.items at.place).status)) alone
          (after, outcome.board, ap (λ (r : Row). shows_job_by s after (act_changes act s (acted_jobs act (Some job.id) s board p)) job r.status) row_is),
    ),
  )

-- ---- a pipeline

same_shown : (claims : List Claim) (project : ℕ) (F : Job → Job) → ((status : Status) (j : Job) → job_data (printed_status claims project (F j) status) (F j) ≡ job_data (printed_status claims project j status) j) → (js : List Job) (rows : List Row)
    → jobs_data claims project (map F js) rows ≡ jobs_data claims project js rows
same_shown claims project F same [] rows = refl
same_shown claims project F same (j ∷ js) [] = refl
same_shown claims project F same (j ∷ js) (r ∷ rows) = cons_same (same r.status j) (same_shown claims project F same js rows)

module _ (act : Act) (s : State) (board : List BoardRow) (q : Pipeline) (o : Outcome) (sound : Sound s) (outcome : IsOutcome act None s board q.id o) where
  abbrev wide : Job → Bool
  wide = is_acted_on act None board

  abbrev new : State
  new = acted_state act None s board q.id

  abbrev changes : List RowChange
  changes = act_changes act s (acted_jobs act None s board q.id)

  new_jobs : jobs_of new q.id ≡ map (of_job s act q.id wide sound) (jobs_of s q.id)
  new_jobs = ap (λ (w : State). jobs_of w q.id) (after_is s act q.id wide sound) ∙ jobs_after s act q.id wide sound q.id

  abbrev shown : List BoardRow
  shown = put_rows o.changed.items board

  abbrev claims : List Claim
  claims = claims_in new shown q.id

  shown_same : jobs_data claims q.project (jobs_of new q.id) o.rows.items ≡ jobs_data claims q.project (jobs_of s q.id) o.rows.items
  shown_same =
      ap (λ js. jobs_data claims q.project js o.rows.items) new_jobs
      ∙ same_shown claims q.project (of_job s act q.id wide sound)
      (λ status. keeps s act q.id wide sound (λ i. job_data (printed_status claims q.project i status) i) (λ i a b n. refl)) (jobs_of s q.id) o.rows.items

  parts_same : map (λ (j : Job). j.options.part) (jobs_of new q.id) ≡ map (λ (j : Job). j.options.part) (jobs_of s q.id)
  parts_same = ap (map (λ (j : Job). j.options.part)) new_jobs ∙ all_keep s act q.id wide sound (λ j. j.options.part) (λ i a b n. refl) (jobs_of s q.id)

  pub shows_pipeline : ShowsPipelineAfter s q changes (shows_pipeline_by s shown changes q (jobs_of s q.id) o.facts.items o.rows.items)
  shows_pipeline = (
    shown,
    outcome.board,
    ap (λ (r : Reply). (r, changes))
        (shown_alike q claims claims (jobs_of s q.id) (jobs_of new q.id) o.facts.items (facts_of new q.id) o.rows.items (sym shown_same) (sym parts_same) outcome.facts
        ∙ ap (λ (rows : List Row). (pipeline_shown q claims (jobs_of new q.id) (facts_of new q.id) rows).0) (sym (rows_after act None s board q.id o sound outcome))),
  )
