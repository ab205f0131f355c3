-- A finished pipeline has no live attempt, and once it is pruned each job of another is where it was.
use Rattle.std.proofs.Common.{◌≡◌, ℕ, zero, suc, ◌<◌, Bool, true, false, ◌==◌, ◌||◌, not, List, length, map, Some, slice_index_or, refl, sym, ap, subst, ◌∙◌, ⊎_elim, arith}
use Rattle.std.proofs.Common.{eqb-true}
use Rattle.std.proofs.lemmas.Bool.{both_ways, cases_Bool}
use Rattle.std.proofs.lemmas.List.{get_or-map, length-map}
use Rattle.ci_machine.specs.Prelude.{Part}
use Rattle.ci_machine_steps.specs.Prelude.{Facts, Row, Status, is_status, no_row, statuses, some_job, has_status, pipeline_status, Pipeline, Job, Attempt, BoardRow, State, jobs_of}
use Rattle.ci_machine_steps.specs.Prelude.{numbers_of, facts_of, row_for, rows_of, AreBoard, is_live, is_unfinished, is_open_in, is_job_among, without_pipeline, job_at}
use Rattle.ci_machine_steps.specs.Prelude.{last_attempt}
use Rattle.ci_board.specs.Prelude.{row_at}
use Rattle.ci_machine.proofs.Keyed.{Has, has_filter, contains_from_has}
use Rattle.ci_machine.proofs.Tests.{any_has}
use Rattle.ci_machine.proofs.Filters.{find_implied}
use Rattle.ci_machine_steps.proofs.Pruned.{among_its}
use Rattle.ci_machine_steps.proofs.Running.{live_runs}
use Rattle.ci_machine_steps.proofs.Sound.{Sound}

-- ---- a pipeline is open while one of its jobs runs

pub some_is : (n : ℕ) (test : ℕ → Bool) (i : ℕ) → i < n → test i ≡ true → some_job n test ≡ true
some_is zero test i l e = absurd (omega arith)
some_is (suc n) test i l e =
    ⊎_elim
    (λ (t : test n ≡ true). ap (λ b. b || some_job n test) t)
    (λ (f : test n ≡ false).
    let other : i ≡ n → ⊥ = λ q. both_ways (test n) f (subst (λ k. test k ≡ true) q e) in
    ap (λ b. b || some_job n test) f ∙ some_is n test i (omega arith) e)
    (cases_Bool (test n))

pub running_open : (parts : List Part) (facts : List Facts) (a : ℕ → Status) → some_job (length parts) (has_status a Status.Running) ≡ true → is_unfinished (pipeline_status parts facts a) ≡ true
running_open parts facts a e = rw e refl

runs_open : (s : State) (board : List BoardRow) (p : Pipeline) (j : Job) → Has j (jobs_of s p.id) → (row_for board j.id).status ≡ Status.Running → is_open_in s board p ≡ true
runs_open s board p j has runs =
    let jobs = jobs_of s p.id in
    let at = contains_from_has j jobs has in
    let k = at.0 in
    let numbered : k < length (numbers_of s p.id) = subst (λ n. k < n) (sym (length-map jobs (λ (w : Job). w.id))) at.1 in
    let number : slice_index_or (numbers_of s p.id) k 0 ≡ j.id = get_or-map (λ (w : Job). w.id) jobs k j 0 at.1 ∙ ap (λ (w : Job). w.id) at.2 in
    let rows = rows_of s board p.id in
    let row : row_at rows k ≡ row_for board j.id = get_or-map (row_for board) (numbers_of s p.id) k 0 no_row numbered ∙ ap (row_for board) number in
    let parts : List Part = map (λ (w : Job). w.options.part) jobs in
    let inside : k < length parts = subst (λ n. k < n) (sym (length-map jobs (λ (w : Job). w.options.part))) at.1 in
    running_open parts (facts_of s p.id) (statuses rows)
    (some_is (length parts) (has_status (statuses rows) Status.Running) k inside (ap (is_status Status.Running) (ap (λ (r : Row). r.status) row ∙ runs)))

-- ---- what a prune leaves

module _ (s : State) (board : List BoardRow) (p : Pipeline) (known : Sound s) (are : AreBoard s board) (finished : is_open_in s board p ≡ false) where
  -- no live attempt is of one of its jobs
  pub not_its : (a : Attempt) → Has a s.attempts → is_live a ≡ true → is_job_among (jobs_of s p.id) a.job ≡ false
  not_its a has live =
      ⊎_elim
      (λ (e : is_job_among (jobs_of s p.id) a.job ≡ true).
      let w = any_has (λ (j : Job). j.id == a.job) (jobs_of s p.id) e in
      let j = w.0 in
      let of = has_filter (λ (v : Job). v.pipeline == p.id) j s.jobs w.1.0 in
      let last : last_attempt s j.id ≡ Some a = subst (λ m. last_attempt s m ≡ Some a) (sym (eqb-true j.id a.job w.1.1)) (known.live_last a has live) in
      absurd (both_ways (is_open_in s board p) finished (runs_open s board p j w.1.0 (live_runs s board are j of.0 a last live))))
      (λ e. e)
      (cases_Bool (is_job_among (jobs_of s p.id) a.job))

  pub job_stands : (m : ℕ) → is_job_among (jobs_of s p.id) m ≡ false → job_at (without_pipeline s p.id) m ≡ job_at s m
  job_stands m outside =
      find_implied (λ (j : Job). j.id == m) (λ j. not (j.pipeline == p.id)) s.jobs
      (λ j k e. ap not (sym (among_its s p.id known.jobs known.attempts j k) ∙ (ap (is_job_among (jobs_of s p.id)) (eqb-true j.id m e) ∙ outside)))
