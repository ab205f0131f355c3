-- A new pipeline in the state that has it: its jobs, and their facts.
use Rattle.ci_machine_laws.proofs.Prelude.{◌≡◌, ℕ, ◌+◌, ◌-◌, Bool, ◌==◌, List, [], ◌∷◌, ◌++◌, length, map, filter, replicate, option_map, None, refl, ap, ◌∙◌, inl, inr, arith}
use Rattle.ci_machine_laws.proofs.Prelude.{eq-eqb, ne_eqb, last_or, filter-append, Given, Has, filter_none, filter_all, created_state, after_creation, IsNew, new_are}
use Rattle.ci_machine_laws.proofs.Prelude.{jobs_behind}
use Rattle.ci_machine_steps.specs.Prelude.{Facts, no_facts, Attempt, Job, NewPipeline, State, applied, jobs_of, attempts_of, facts_in, facts_of, Layout, Creation, creation}
use Rattle.ci_machine_steps.specs.Prelude.{creation_changes}
use Rattle.ci_machine_laws.proofs.Linked.{Linked}

map_to_one : {A B : Type 0} (f : A → B) (b : B) (xs : List A) → ((x : A) → Has x xs → f x ≡ b) → map f xs ≡ replicate (length xs) b
map_to_one f b [] h = refl
map_to_one f b (x ∷ xs) h =
    let first : f x ≡ b = h x (inl refl) in
    let rest = map_to_one f b xs (λ y k. h y (inr k)) in
    λ i. first i ∷ rest i

module _ (s : State) (i : Linked s) (new : NewPipeline) (given : Given) (now : ℕ) (laid : Layout) where
  abbrev id : ℕ
  id = s.next.pipeline

  abbrev first : ℕ
  first = s.next.job

  abbrev made : Creation
  made = creation id first new given now laid

  abbrev t : State
  t = created_state first made s

  is_new : (j : Job) → Has j made.jobs → IsNew id first (0 + length laid.plan.jobs) laid.plan.jobs j
  is_new j k = new_are id first 0 laid.plan.jobs j k

  -- its jobs
  jobs_are : t.jobs ≡ s.jobs ++ made.jobs
  jobs_are = jobs_behind s laid.plan.jobs i.job_below

  pub its_jobs : jobs_of t id ≡ made.jobs
  its_jobs =
      let test : Job → Bool = λ j. j.pipeline == id in
      let none : filter test s.jobs ≡ [] = filter_none test s.jobs (λ j k. let p = i.job_pipeline j k in ne_eqb j.pipeline id (λ e. absurd (omega (arith, i.pipeline_below p.0 p.1.0, p.1.1)))) in
      let all : filter test made.jobs ≡ made.jobs = filter_all test made.jobs (λ j k. eq-eqb j.pipeline id (ap (λ (w : Job). w.pipeline) (is_new j k).job)) in
      ap (filter test) jobs_are ∙ (filter-append test s.jobs made.jobs ∙ (λ k. none k ++ all k))

  -- its facts
  no_attempts : (j : Job) → Has j made.jobs → attempts_of t j.id ≡ []
  no_attempts j k =
      filter_none (λ (a : Attempt). a.job == j.id) s.attempts (λ a m.
      let w = i.attempt_job a m in
      ne_eqb a.job j.id (λ e. absurd (omega (arith, i.job_below w.0 w.1.0, w.1.1, (is_new j k).above))))

  pub its_facts : facts_of t id ≡ replicate (length made.jobs) no_facts
  its_facts =
      ap (map (facts_in t)) its_jobs
      ∙ map_to_one (facts_in t) no_facts made.jobs (λ j k.
      let w = is_new j k in
      let facts : List Attempt → Job → Facts
      = λ l v. record { last = option_map (λ (a : Attempt). a.state) (last_or None l); attempts = length l - v.set_aside; cancelled = v.cancelled; played = v.played } in
      ap (λ (l : List Attempt). facts l j) (no_attempts j k) ∙ ap (facts []) w.job)

  pub made_state : applied (creation_changes first made) s ≡ t
  made_state = after_creation first made s
