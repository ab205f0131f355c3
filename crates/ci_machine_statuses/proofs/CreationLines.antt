-- A pipeline is made: no group is held that was not, and its jobs wait for the groups for which they would have waited before.
use Rattle.std.proofs.Common.{◌≡◌, ℕ, ◌==◌, List, [], ◌∷◌, ◌++◌, map, filter, find, flat_map, Option, Some, option_map, sym, ap, subst, ◌∙◌}
use Rattle.std.proofs.lemmas.Grind.{flat_map-append}
use Rattle.std.proofs.lemmas.List.{append-nil}
use Rattle.std.proofs.lemmas.List.Elements.{filter-append}
use Rattle.ci_machine_steps.specs.Prelude.{Row, Attempt, BoardRow, GroupMode, Job, Pipeline, WaitingJob, State, applied, put_rows, is_live, rows_of, status_for, AreBoard}
use Rattle.ci_machine_steps.specs.Prelude.{held_claim, waiting_claim, is_first, queued_at, group_held, held_by, held_of, holders, job_at, pipeline_at, project_or_none, queued}
use Rattle.ci_machine_steps.specs.Prelude.{live_attempts, waits_as, waiting, claims_in, Creation, creation_changes}
use Rattle.ci_machine.proofs.Keyed.{Has, has_filter, find_has, has_from_all}
use Rattle.ci_machine_steps.proofs.Created.{after_creation}
use Rattle.ci_machine_steps.proofs.Sound.{Sound}
use Rattle.ci_machine_statuses.proofs.Creations.{Created}
use Rattle.ci_machine_statuses.proofs.Made as made_rows
use Rattle.ci_machine_statuses.proofs.HeldLists.{find_left}
use Rattle.ci_machine_statuses.proofs.Lines.{own_first, passing_alike, none_passing}
use Rattle.ci_machine_steps.proofs.Behind.{flat_same}

module _ (s : State) (sound : Sound s) (c : Creation) (it : Created s c) where
  open it use {pipelines, made}

  abbrev t : State
  t = applied (creation_changes s.next.job c) s

  abbrev n : ℕ
  n = c.pipeline.id

  -- ---- what is held

  -- a job that was there has the pipeline that it had
  same_pipeline : (j : Job) → Has j s.jobs → pipeline_at t j.pipeline ≡ pipeline_at s j.pipeline
  same_pipeline j has =
      let v = sound.job_pipeline j has in
      let was : pipeline_at s j.pipeline ≡ Some v.0 = subst (λ m. pipeline_at s m ≡ Some v.0) v.1.1 (find_has (λ (q : Pipeline). q.id) v.0 0 s.pipelines sound.pipelines v.1.0) in
      ap (find (λ (q : Pipeline). q.id == j.pipeline)) pipelines ∙ (find_left (λ (q : Pipeline). q.id == j.pipeline) v.0 s.pipelines (c.pipeline ∷ []) was ∙ sym was)

  pub same_held : (a : Attempt) → Has a s.attempts → held_by a.id (queued_at t a.job) ≡ held_by a.id (queued_at s a.job)
  same_held a h =
      let w = sound.attempt_job a h in
      let j = w.0 in
      let was : job_at s a.job ≡ Some j = subst (λ m. job_at s m ≡ Some j) w.1.1 (find_has (λ (i : Job). i.id) j 0 s.jobs sound.jobs w.1.0) in
      let is : job_at t a.job ≡ Some j = ap (find (λ (i : Job). i.id == a.job)) made.all_jobs ∙ find_left (λ (i : Job). i.id == a.job) j s.jobs c.jobs was in
      ap (λ (o : Option Job). held_by a.id (option_map (queued t) o)) is
      ∙ (ap (λ (o : Option Pipeline). group_held a.id (project_or_none o) j.options.resource_group) (same_pipeline j w.1.0)
      ∙ sym (ap (λ (o : Option Job). held_by a.id (option_map (queued s) o)) was))

  same_holders : holders t ≡ holders s
  same_holders =
      ap (λ (l : List Attempt). flat_map (held_of t) (filter is_live l)) made.same_attempts
      ∙ flat_same (held_of t) (held_of s) (live_attempts s) (λ a h. same_held a (has_filter is_live a s.attempts h).0)

  -- ---- who waits

  module _ (board : List BoardRow) (are : AreBoard s board) (rows : List BoardRow) (keys : map (λ r. r.job) rows ≡ map (λ j. j.id) c.jobs) where
    abbrev after : List BoardRow
    after = put_rows rows board

    pub created_rows : rows_of t after n ≡ map (λ r. r.row) rows
    created_rows = made_rows.its_rows s t board n c.jobs c.needs sound are made rows keys

    module _ (modes : List GroupMode) where
      abbrev waits_in : State → List BoardRow → Job → List WaitingJob
      waits_in w b j = waits_as (queued w j) (status_for b j.id)

      old : (j : Job) → Has j s.jobs → filter (is_first modes n) (waits_in t after j) ≡ filter (is_first modes n) (waits_in s board j)
      old j has =
          (λ i. filter (is_first modes n) (waits_as (record { job = j; project = project_or_none (same_pipeline j has i) }) (status_for after j.id)))
          ∙ ap (λ (r : Row). filter (is_first modes n) (waits_as (queued s j) r.status)) (made_rows.old_rows s t board n c.jobs c.needs sound are made rows keys j has)

      young : (j : Job) → Has j c.jobs → filter (is_first modes n) (waits_in t after j) ≡ []
      young j has = own_first modes n (queued t j) (status_for after j.id) (has_from_all (λ (i : Job). i.pipeline ≡ n) j c.jobs made.within has)

      ahead : filter (is_first modes n) (waiting t after) ≡ filter (is_first modes n) (waiting s board)
      ahead =
          ap (λ (js : List Job). filter (is_first modes n) (flat_map (waits_in t after) js)) made.all_jobs
          ∙ (ap (filter (is_first modes n)) (flat_map-append (waits_in t after) s.jobs c.jobs)
          ∙ (filter-append (is_first modes n) (flat_map (waits_in t after) s.jobs) (flat_map (waits_in t after) c.jobs)
          ∙ ((λ i. passing_alike (is_first modes n) (waits_in s board) (waits_in t after) s.jobs old i ++ none_passing (is_first modes n) (waits_in t after) c.jobs young i)
          ∙ append-nil (filter (is_first modes n) (waiting s board)))))

    pub created_claims : claims_in t after n ≡ claims_in s board n
    created_claims =
        (λ i. map held_claim (same_holders i) ++ map waiting_claim (filter (is_first (ap (λ (w : State). w.modes) (after_creation s.next.job c s) i) n) (waiting t after)))
        ∙ ap (λ (ws : List WaitingJob). map held_claim (holders s) ++ map waiting_claim ws) (ahead s.modes)
