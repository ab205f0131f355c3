-- What is left once a pipeline is pruned, and what became of that which was there in an earlier state.
use Rattle.ci_machine_laws.proofs.Prelude.{rules, ◌≡◌, ◌⊎◌, ℕ, ◌≤◌, true, false, ◌==◌, not, List, ◌∷◌, length, refl, sym, ap, subst, ◌∙◌, inl, inr, ⊎_elim, eqb-true, eq-eqb}
use Rattle.ci_machine_laws.proofs.Prelude.{ne_eqb, both_ways, cases_Bool, not_true, Has, Rising, rising_filter, has_filter, filter_has, Named, among_its, job_left, job_was}
use Rattle.ci_machine_laws.proofs.Prelude.{attempts_left, attempt_was, attempt_left}
use Rattle.ci_machine_steps.specs.Prelude.{Pipeline, Job, Need, Attempt, State, jobs_of, is_job_among, without_pipeline, Past, project_for_good, runner_for_good, job_for_good}
use Rattle.ci_machine_steps.specs.Prelude.{attempt_for_good, Prunes, WasPruned, WentWithItsJob}
use Rattle.ci_machine_laws.proofs.Ends.{still_pruned, still_gone, is_pruned, goes_with}
use Rattle.ci_machine_laws.proofs.Linked.{Later, later, Linked, Follows}
use Rattle.ci_machine_laws.proofs.Joined.{Joined}

-- ---- what records name is left with them

module _ (s : State) (n : ℕ) (jobs_rise : Rising (λ (j : Job). j.id) 0 s.jobs) (rise : Rising (λ (a : Attempt). a.id) 0 s.attempts) where
  -- a job that has none of its jobs' numbers is of another pipeline
  pub other_pipeline : (j : Job) → Has j s.jobs → is_job_among (jobs_of s n) j.id ≡ false → j.pipeline ≡ n → ⊥
  other_pipeline j k outside e = both_ways (is_job_among (jobs_of s n) j.id) outside (among_its s n jobs_rise rise j k ∙ eq-eqb j.pipeline n e)

  left_named : (m : ℕ) → is_job_among (jobs_of s n) m ≡ false → Named (λ (j : Job). j.id) m s.jobs → Named (λ (j : Job). j.id) m (without_pipeline s n).jobs
  left_named m outside w =
      let other = other_pipeline w.0 w.1.0 (subst (λ k. is_job_among (jobs_of s n) k ≡ false) (sym w.1.1) outside) in
      (w.0, (job_left s n jobs_rise rise w.0 w.1.0 other, w.1.1))

  pub linked_left : Linked s → Joined s.jobs s.needs → Linked (without_pipeline s n)
  linked_left i is =
      let of_others : Need → _ = λ w. not (is_job_among (jobs_of s n) w.job) in
      let not_it : Pipeline → _ = λ p. not (p.id == n) in
      record {
        projects_rise = i.projects_rise;
        runners_rise = i.runners_rise;
        pipelines_rise = rising_filter (λ (p : Pipeline). p.id) not_it 0 s.pipelines i.pipelines_rise;
        project_below = i.project_below;
        runner_below = i.runner_below;
        pipeline_below = λ p k. i.pipeline_below p (has_filter not_it p s.pipelines k).0;
        job_below = λ j k. i.job_below j (job_was s n jobs_rise rise j k).0;
        attempt_job = λ a k. let w = attempt_was s n jobs_rise rise a k in left_named a.job w.1 (i.attempt_job a w.0);
        attempt_runner = λ a k. i.attempt_runner a (attempt_was s n jobs_rise rise a k).0;
        job_pipeline = λ j k.
            let w = job_was s n jobs_rise rise j k in
            let p = i.job_pipeline j w.0 in
            (p.0, (filter_has not_it p.0 s.pipelines p.1.0 (ap not (ne_eqb p.0.id n (λ e. w.1 (sym p.1.1 ∙ e)))), p.1.1));
        pipeline_project = λ p k. i.pipeline_project p (has_filter not_it p s.pipelines k).0;
        need_job = λ w k. let v = has_filter of_others w s.needs k in left_named w.job (not_true (is_job_among (jobs_of s n) w.job) v.1) (i.need_job w v.0);
        need_pred = λ w k.
            let v = has_filter of_others w s.needs k in
            let j = i.need_job w v.0 in
            let p = i.need_pred w v.0 in
            let outside = not_true (is_job_among (jobs_of s n) w.job) v.1 in
            let other = other_pipeline j.0 j.1.0 (subst (λ m. is_job_among (jobs_of s n) m ≡ false) (sym j.1.1) outside) in
            let same : j.0.pipeline ≡ p.0.pipeline = is.one_pipeline w j.0 p.0 v.0 j.1.0 p.1.0 j.1.1 p.1.1 in
            (p.0, (job_left s n jobs_rise rise p.0 p.1.0 (λ e. other (same ∙ e)), p.1.1));
        first_job = i.first_job;
        positive = λ j k. i.positive j (job_was s n jobs_rise rise j k).0;
        aside = λ j k. let w = job_was s n jobs_rise rise j k in subst (λ (l : List Attempt). j.set_aside ≤ length l) (sym (attempts_left s n jobs_rise rise j w.0 w.1)) (i.aside j w.0);
        in_turn = λ a b k l. i.in_turn a b (job_was s n jobs_rise rise a k).0 (job_was s n jobs_rise rise b l).0;
      }

-- ---- what became of that which was there

-- each record of the one list is in the other, with what it has for good, or has gone
abbrev pub KeptOr : {A : Type 0} → (A → A) → (A → Type 0) → List A → List A → Type 0
KeptOr {A} f HasGone xs ys = (x : A) → Has x xs → ((y : A) × (Has y ys × (f y ≡ f x))) ⊎ HasGone x

through : {A : Type 0} (f : A → A) (G H : A → Type 0) (xs ys zs : List A) → ((x : A) → G x → H x) → ((x y : A) → f y ≡ f x → H y → H x) → KeptOr f G xs ys → KeptOr f H ys zs → KeptOr f H xs zs
through f G H xs ys zs more alike a b x k =
    ⊎_elim
    (λ y. ⊎_elim (λ z. inl (z.0, (z.1.0, z.1.1 ∙ y.1.1))) (λ g. inr (alike x y.0 y.1.1 g)) (b y.0 y.1.0))
    (λ g. inr (more x g))
    (a x k)

-- what was there is there, or a line of the history pruned it
pub record Since (h : List Past) (s t : State) : Type 0 where
  pub projects : KeptOr project_for_good (λ _. ⊥) s.projects t.projects
  pub runners : KeptOr runner_for_good (λ _. ⊥) s.runners t.runners
  pub pipelines : KeptOr (λ p. p) (λ p. WasPruned h p.id) s.pipelines t.pipelines
  pub jobs : KeptOr job_for_good (λ j. WasPruned h j.pipeline) s.jobs t.jobs
  pub attempts : KeptOr attempt_for_good (WentWithItsJob h) s.attempts t.attempts

since_later : (h : List Past) (s t : State) → Later s t → Since h s t
since_later h s t l = search (rules, inl, l.projects, l.runners, l.pipelines, l.jobs, l.attempts)

since_pruned : (p : Past) (h : List Past) (n : ℕ) → Rising (λ (j : Job). j.id) 0 p.before.jobs → Rising (λ (a : Attempt). a.id) 0 p.before.attempts → Prunes p n → Since (p ∷ h) p.before (without_pipeline p.before n)
since_pruned p h n jobs_rise rise prunes =
    let s = p.before in
    record {
      projects = λ x k. inl (x, (k, refl));
      runners = λ x k. inl (x, (k, refl));
      pipelines = λ x k. ⊎_elim
          (λ (e : (x.id == n) ≡ true). inr (subst (λ m. WasPruned (p ∷ h) m) (sym (eqb-true x.id n e)) (is_pruned p h n prunes)))
          (λ (e : (x.id == n) ≡ false). inl (x, (filter_has (λ (q : Pipeline). not (q.id == n)) x s.pipelines k (ap not e), refl)))
          (cases_Bool (x.id == n));
      jobs = λ x k. ⊎_elim
          (λ (e : (x.pipeline == n) ≡ true). inr (subst (λ m. WasPruned (p ∷ h) m) (sym (eqb-true x.pipeline n e)) (is_pruned p h n prunes)))
          (λ (e : (x.pipeline == n) ≡ false). inl (x, (filter_has (λ (j : Job). not (j.pipeline == n)) x s.jobs k (ap not e), refl)))
          (cases_Bool (x.pipeline == n));
      attempts = λ x k. ⊎_elim
          (λ e. inr (goes_with p h s n refl prunes x e))
          (λ e. inl (x, (attempt_left s n jobs_rise rise x k e, refl)))
          (cases_Bool (is_job_among (jobs_of s n) x.job));
    }

-- after the newest line
pub since_line : (p : Past) (h : List Past) (t : State) → Rising (λ (j : Job). j.id) 0 p.before.jobs → Rising (λ (a : Attempt). a.id) 0 p.before.attempts → Follows p.before p.event p.answer t → Since (p ∷ h) p.before t
since_line p h t jobs_rise rise follows =
    ⊎_elim
    (λ n. since_later (p ∷ h) p.before t (later p.before t n))
    (λ w. subst (λ (r : State). Since (p ∷ h) p.before r) (sym w.state) (since_pruned p h w.pipeline.id jobs_rise rise (w.before, w.asked, w.answered)))
    follows

pub since_through : (p : Past) (h : List Past) (s m t : State) → Since h s m → Since (p ∷ h) m t → Since (p ∷ h) s t
since_through p h s m t a b = record {
  projects = through project_for_good (λ _. ⊥) (λ _. ⊥) s.projects m.projects t.projects (λ x w. w) (λ x y e w. w) a.projects b.projects;
  runners = through runner_for_good (λ _. ⊥) (λ _. ⊥) s.runners m.runners t.runners (λ x w. w) (λ x y e w. w) a.runners b.runners;
  pipelines = through (λ (x : Pipeline). x) (λ x. WasPruned h x.id) (λ x. WasPruned (p ∷ h) x.id) s.pipelines m.pipelines t.pipelines
      (λ x w. still_pruned p h x.id w) (λ x y e w. subst (λ (v : Pipeline). WasPruned (p ∷ h) v.id) e w) a.pipelines b.pipelines;
  jobs = through job_for_good (λ x. WasPruned h x.pipeline) (λ x. WasPruned (p ∷ h) x.pipeline) s.jobs m.jobs t.jobs
      (λ x w. still_pruned p h x.pipeline w) (λ x y e w. subst (λ n. WasPruned (p ∷ h) n) (ap (λ (v : Job). v.pipeline) e) w) a.jobs b.jobs;
  attempts = through attempt_for_good (WentWithItsJob h) (WentWithItsJob (p ∷ h)) s.attempts m.attempts t.attempts
      (λ x w. still_gone p h x w) (λ x y e w. (w.0, w.1, w.2, w.3, w.4 ∙ ap (λ (v : Attempt). v.job) e, w.5)) a.attempts b.attempts;
}
