-- What a step leaves, and which records others name.
use Rattle.ci_machine_laws.proofs.Prelude.{rules, ◌≡◌, ◌⊎◌, ℕ, ◌+◌, ◌<◌, ◌≤◌, Bool, ◌==◌, List, [], ◌∷◌, ◌++◌, length, map, filter, Ok, nat_cmp, refl, sym, ap}
use Rattle.ci_machine_laws.proofs.Prelude.{subst, ◌∙◌, inl, inr, ⊎_elim, arith, Given, Has, Rising, has_put, rising_put, has_find, has_map, one_at, Below, Named}
use Rattle.ci_machine_laws.proofs.Prelude.{nat_less, in_either, has_left, has_right, put_behind, put_all, has_all, created_state, new_length, IsNew, new_are, new_numbered}
use Rattle.ci_machine_laws.proofs.Prelude.{needs_are, pairs_inside, jobs_behind}
use Rattle.ci_machine_steps.specs.Prelude.{BoardRow, Need, Project, Runner, Pipeline, QueuedJob, Job, Attempt, RowChange, NewPipeline, Event, Seed, Answer, State, applied}
use Rattle.ci_machine_steps.specs.Prelude.{put, others, pipeline_cmp, job_cmp, need_cmp, attempt_cmp, attempts_of, Layout, IsLaidOut, creation, is_prunable, Happens}
use Rattle.ci_machine_steps.specs.Prelude.{project_for_good, runner_for_good, job_for_good, attempt_for_good}
use Rattle.ci_machine_laws.proofs.Counts.{passing, passing_mapped, passing_implied, passing_new}
use Rattle.ci_machine.proofs.Found.{placed_here}
use Rattle.ci_machine_laws.proofs.PutAll.{all_at, all_at_id, all_in_place, at_or}
use Rattle.ci_machine_laws.proofs.Acts.{IsAct}
use Rattle.ci_machine_laws.proofs.EachPlan.{given_in}
use Rattle.ci_machine_laws.proofs.EachNext.{EachNext, IsAside, project_made, runner_made, runner_stands, file_stands, next_is}
use Rattle.ci_machine_laws.proofs.Ends.{IsPruned}

-- ---- lists

-- each record of the one list is in the other, with what it has for good
abbrev pub Kept : {A : Type 0} → (A → A) → List A → List A → Type 0
Kept {A} f xs ys = (x : A) → Has x xs → (y : A) × (Has y ys × (f y ≡ f x))

kept : {A : Type 0} (f : A → A) (xs ys : List A) → ys ≡ xs → Kept f xs ys
kept f xs ys e x k = (x, (subst (Has x) (sym e) k, refl))

below_put : {A : Type 0} (id : A → ℕ) (x : A) (n m : ℕ) (xs : List A) → Below id n xs → n ≤ m → id x < m → Below id m (put (λ a b. nat_cmp (id a) (id b)) x xs)
below_put id x n m xs b l lt y k =
    ⊎_elim (λ e. subst (λ (w : _). id w < m) (sym e) lt) (λ h. let z : id y < n = b y h in omega arith) (has_put (λ a b. nat_cmp (id a) (id b)) x y xs k)

-- a record whose number is new
kept_new : {A : Type 0} (id : A → ℕ) (f : A → A) (x : A) (n : ℕ) (xs : List A) → Below id n xs → n ≤ id x → Kept f xs (put (λ a b. nat_cmp (id a) (id b)) x xs)
kept_new id f x n xs b l y k =
    (y, (subst (Has y) (sym (put_behind (λ v w. nat_cmp (id v) (id w)) x xs (λ z m. nat_less (id z) (id x) (omega (arith, b z m))))) (has_left y xs (x ∷ []) k), refl))

-- a table in the next state: what was there is there, and numbers that are still to come are new
abbrev Table : {A : Type 0} → (A → ℕ) → (A → A) → List A → List A → ℕ → Type 0
Table id f xs ys next = Kept f xs ys × Rising id 0 ys × Below id next ys

same_table : {A : Type 0} (id : A → ℕ) (f : A → A) (xs : List A) (next : ℕ) → Rising id 0 xs → Below id next xs → Table id f xs xs next
same_table id f xs next r b = (kept f xs xs refl, r, b)

new_in : {A : Type 0} (id : A → ℕ) (f : A → A) (x : A) (xs : List A) → Rising id 0 xs → Below id (id x) xs → Table id f xs (put (λ a b. nat_cmp (id a) (id b)) x xs) (id x + 1)
new_in id f x xs r b = (kept_new id f x (id x) xs b (omega arith), rising_put id x 0 xs r (omega arith), below_put id x (id x) (id x + 1) xs b (omega arith) (omega arith))

of_one : {A : Type 0} (f : A → A) (x a : A) (xs : List A) → Has a xs → f x ≡ f a → (w : A) → Has w (x ∷ []) → (b : A) × (Has b xs × (f w ≡ f b))
of_one f x a xs has good w k = ⊎_elim (λ e. (a, (has, ap f e ∙ good))) (λ m. absurd m) k

-- records that come in the places of ones that are the same for good
module _ {A : Type 0} (id : A → ℕ) (f : A → A) (same_id : (x y : A) → f x ≡ f y → id x ≡ id y) (rs xs : List A) (r : Rising id 0 xs) (old : (w : A) → Has w rs → (a : A) × (Has a xs × (f w ≡ f a))) where
  in_places : put_all (λ a b. nat_cmp (id a) (id b)) rs xs ≡ map (all_at id rs) xs
  in_places = all_in_place id rs xs r (λ w k. let v = old w k in (v.0, (v.1.0, sym (same_id w v.0 v.1.1))))

  good_at : (x : A) → Has x xs → f (all_at id rs x) ≡ f x
  good_at x k =
      ⊎_elim
      (λ m. let v = old (all_at id rs x) m in v.1.1 ∙ ap f (one_at id v.0 x 0 xs r v.1.0 k (sym (same_id (all_at id rs x) v.0 v.1.1) ∙ all_at_id id rs x)))
      (λ w. ap f w.0)
      (at_or id rs x)

  kept_all : Kept f xs (put_all (λ a b. nat_cmp (id a) (id b)) rs xs)
  kept_all x k = (all_at id rs x, (subst (Has (all_at id rs x)) (sym in_places) (has_map (all_at id rs) x xs k), good_at x k))

  passing_all : (p : A → Bool) → ((x y : A) → f x ≡ f y → p x ≡ p y) → passing p xs ≤ passing p (put_all (λ a b. nat_cmp (id a) (id b)) rs xs)
  passing_all p alike =
      rw (in_places, passing_mapped p (all_at id rs) xs) (passing_implied (λ x. p (all_at id rs x)) p xs (λ x k e. alike (all_at id rs x) x (good_at x k) ∙ e))

put_in : {A : Type 0} (id : A → ℕ) (f : A → A) (same_id : (x y : A) → f x ≡ f y → id x ≡ id y) (x a : A) (xs : List A) (next : ℕ) → Rising id 0 xs → Below id next xs → Has a xs → f x ≡ f a
    → Table id f xs (put (λ v w. nat_cmp (id v) (id w)) x xs) next
put_in id f same_id x a xs next r b has good =
    let below : id a < next = b a has in
    let same : id x ≡ id a = same_id x a good in (
      kept_all id f same_id (x ∷ []) xs r (of_one f x a xs has good),
      rising_put id x 0 xs r (omega arith),
      below_put id x next next xs b (omega arith) (omega arith),
    )

named_kept : {A : Type 0} (id : A → ℕ) (f : A → A) (n : ℕ) (xs ys : List A) → ((x y : A) → f y ≡ f x → id y ≡ id x) → Kept f xs ys → Named id n xs → Named id n ys
named_kept id f n xs ys g k w =
    let y = k w.0 w.1.0 in
    (y.0, (y.1.0, g w.0 y.0 y.1.1 ∙ w.1.1))

-- ---- what a step leaves

-- what was there is there
pub record Later (s t : State) : Type 0 where
  pub projects : Kept project_for_good s.projects t.projects
  pub runners : Kept runner_for_good s.runners t.runners
  pub pipelines : Kept (λ p. p) s.pipelines t.pipelines
  pub jobs : Kept job_for_good s.jobs t.jobs
  pub attempts : Kept attempt_for_good s.attempts t.attempts

-- numbers that are still to come are new, and the records that others name are there
pub record Linked (s : State) : Type 0 where
  pub projects_rise : Rising (λ (p : Project). p.id) 0 s.projects
  pub runners_rise : Rising (λ (r : Runner). r.id) 0 s.runners
  pub pipelines_rise : Rising (λ (p : Pipeline). p.id) 0 s.pipelines
  pub project_below : Below (λ (p : Project). p.id) s.next.project s.projects
  pub runner_below : Below (λ (r : Runner). r.id) s.next.runner s.runners
  pub pipeline_below : Below (λ (p : Pipeline). p.id) s.next.pipeline s.pipelines
  pub job_below : Below (λ (j : Job). j.id) s.next.job s.jobs
  pub attempt_job : (a : Attempt) → Has a s.attempts → Named (λ (j : Job). j.id) a.job s.jobs
  pub attempt_runner : (a : Attempt) → Has a s.attempts → Named (λ (r : Runner). r.id) a.runner s.runners
  pub job_pipeline : (j : Job) → Has j s.jobs → Named (λ (p : Pipeline). p.id) j.pipeline s.pipelines
  pub pipeline_project : (p : Pipeline) → Has p s.pipelines → Named (λ (q : Project). q.id) p.project s.projects
  pub need_job : (w : Need) → Has w s.needs → Named (λ (j : Job). j.id) w.job s.jobs
  pub need_pred : (w : Need) → Has w s.needs → Named (λ (j : Job). j.id) w.pred s.jobs
  pub first_job : 1 ≤ s.next.job
  pub positive : (j : Job) → Has j s.jobs → 1 ≤ j.id
  -- no more of a job's attempts are set aside than it has
  pub aside : (j : Job) → Has j s.jobs → j.set_aside ≤ length (attempts_of s j.id)
  -- jobs of newer pipelines have greater numbers
  pub in_turn : (a b : Job) → Has a s.jobs → Has b s.jobs → a.pipeline < b.pipeline → a.id < b.id

-- a job of this number was there, in this pipeline
abbrev WasThere : State → Job → Type 0
WasThere s j = (old : Job) × (Has old s.jobs × ((old.id ≡ j.id) × (old.pipeline ≡ j.pipeline)))

-- the job is of the pipeline that comes next, and its number is one of those that come next
abbrev IsOfNext : State → Job → Type 0
IsOfNext s j = (j.pipeline ≡ s.next.pipeline) × (s.next.job ≤ j.id)

was_there : (s : State) (j : Job) → Has j s.jobs → WasThere s j ⊎ IsOfNext s j
was_there s j k = inl (j, (k, (refl, refl)))

-- the attempts of the next state: those that were there are there, the new ones name others, and no job has fewer
record Attempts (s : State) (attempts : List Attempt) (jobs : List Job) : Type 0 where
  stay : Kept attempt_for_good s.attempts attempts
  linked : (a : Attempt) → Has a attempts → Has a s.attempts ⊎ (Named (λ (j : Job). j.id) a.job jobs × Named (λ (r : Runner). r.id) a.runner s.runners)
  counts : (job : ℕ) → length (filter (λ a. a.job == job) s.attempts) ≤ length (filter (λ a. a.job == job) attempts)

same_attempts : (s : State) (jobs : List Job) → Attempts s s.attempts jobs
same_attempts s jobs = record { stay = kept attempt_for_good s.attempts s.attempts refl; linked = λ a k. inl k; counts = λ n. omega arith }

-- what was there is there in the next state, and its new records are linked
pub record NextOf (s t : State) : Type 0 where
  projects : Table (λ (p : Project). p.id) project_for_good s.projects t.projects t.next.project
  runners : Table (λ (r : Runner). r.id) runner_for_good s.runners t.runners t.next.runner
  pipelines : Table (λ (p : Pipeline). p.id) (λ p. p) s.pipelines t.pipelines t.next.pipeline
  kept_jobs : Kept job_for_good s.jobs t.jobs
  job_below : Below (λ (j : Job). j.id) t.next.job t.jobs
  next_job : s.next.job ≤ t.next.job
  attempts : Attempts s t.attempts t.jobs
  jobs : (j : Job) → Has j t.jobs → Has j s.jobs ⊎ (Named (λ (p : Pipeline). p.id) j.pipeline t.pipelines × ((1 ≤ j.id) × (j.set_aside ≤ length (attempts_of t j.id))))
  numbered : (j : Job) → Has j t.jobs → WasThere s j ⊎ IsOfNext s j
  of_project : (p : Pipeline) → Has p t.pipelines → Has p s.pipelines ⊎ Named (λ (q : Project). q.id) p.project t.projects
  needs : (w : Need) → Has w t.needs → Has w s.needs ⊎ (Named (λ (j : Job). j.id) w.job t.jobs × Named (λ (j : Job). j.id) w.pred t.jobs)

-- variables, process modes and traces don't count
abbrev pub Next : State → State → Type 0
Next s t = NextOf s (record t { variables = []; job_variables = []; modes = []; traces = [] })

pub later : (s t : State) → Next s t → Later s t
later s t n = record { projects = n.projects.0; runners = n.runners.0; pipelines = n.pipelines.0; jobs = n.kept_jobs; attempts = n.attempts.stay }

turns : (s : State) → Linked s → (a b : Job) → WasThere s a ⊎ IsOfNext s a → WasThere s b ⊎ IsOfNext s b → a.pipeline < b.pipeline → a.id < b.id
turns s i a b (inl v) (inl w) lt = omega (arith, v.1.1.0, w.1.1.0, i.in_turn v.0 w.0 v.1.0 w.1.0 (omega (arith, v.1.1.1, w.1.1.1)))
turns s i a b (inl v) (inr m) lt = omega (arith, v.1.1.0, i.job_below v.0 v.1.0, m.1)
turns s i a b (inr n) (inl w) lt = let p = i.job_pipeline w.0 w.1.0 in absurd (omega (arith, i.pipeline_below p.0 p.1.0, p.1.1, w.1.1.1, n.0))
turns s i a b (inr n) (inr m) lt = absurd (omega (arith, n.0, m.0))

pub linked_on : (s t : State) → Linked s → Next s t → Linked t
linked_on s t i n = record {
  projects_rise = n.projects.1;
  runners_rise = n.runners.1;
  pipelines_rise = n.pipelines.1;
  project_below = n.projects.2;
  runner_below = n.runners.2;
  pipeline_below = n.pipelines.2;
  job_below = n.job_below;
  attempt_job = λ a k. ⊎_elim (λ m. of_job a.job (i.attempt_job a m)) (λ w. w.0) (n.attempts.linked a k);
  attempt_runner = λ a k. ⊎_elim (λ m. named_kept (λ (r : Runner). r.id) runner_for_good a.runner s.runners t.runners (λ x y e. ap (λ (r : Runner). r.id) e) n.runners.0 (i.attempt_runner a m))
      (λ w. named_kept (λ (r : Runner). r.id) runner_for_good a.runner s.runners t.runners (λ x y e. ap (λ (r : Runner). r.id) e) n.runners.0 w.1) (n.attempts.linked a k);
  job_pipeline = λ j k. ⊎_elim (λ m. named_kept (λ (p : Pipeline). p.id) (λ p. p) j.pipeline s.pipelines t.pipelines (λ x y e. ap (λ (p : Pipeline). p.id) e) n.pipelines.0 (i.job_pipeline j m)) (λ w. w.0) (n.jobs j k);
  pipeline_project = λ p k. ⊎_elim (λ m. named_kept (λ (q : Project). q.id) project_for_good p.project s.projects t.projects (λ x y e. ap (λ (q : Project). q.id) e) n.projects.0 (i.pipeline_project p m)) (λ w. w) (n.of_project p k);
  need_job = λ w k. ⊎_elim (λ m. of_job w.job (i.need_job w m)) (λ v. v.0) (n.needs w k);
  need_pred = λ w k. ⊎_elim (λ m. of_job w.pred (i.need_pred w m)) (λ v. v.1) (n.needs w k);
  first_job = let a = i.first_job in let b = n.next_job in omega arith;
  positive = λ j k. ⊎_elim (λ m. i.positive j m) (λ w. w.1.0) (n.jobs j k);
  aside = λ j k. ⊎_elim (λ m. let a = i.aside j m in let b = n.attempts.counts j.id in omega arith) (λ w. w.1.1) (n.jobs j k);
  in_turn = λ a b k l. turns s i a b (n.numbered a k) (n.numbered b l);
} where
  of_job : (m : ℕ) → Named (λ (j : Job). j.id) m s.jobs → Named (λ (j : Job). j.id) m t.jobs
  of_job m = named_kept (λ (j : Job). j.id) job_for_good m s.jobs t.jobs (λ x y e. ap (λ (j : Job). j.id) e) n.kept_jobs

-- ---- what changes no pipeline and no job

module _ (s : State) (i : Linked s) where
  same_projects : Table (λ (p : Project). p.id) project_for_good s.projects s.projects s.next.project
  same_projects = same_table (λ (p : Project). p.id) project_for_good s.projects s.next.project i.projects_rise i.project_below

  same_runners : Table (λ (r : Runner). r.id) runner_for_good s.runners s.runners s.next.runner
  same_runners = same_table (λ (r : Runner). r.id) runner_for_good s.runners s.next.runner i.runners_rise i.runner_below

  same_pipelines : Table (λ (p : Pipeline). p.id) (λ p. p) s.pipelines s.pipelines s.next.pipeline
  same_pipelines = same_table (λ (p : Pipeline). p.id) (λ p. p) s.pipelines s.next.pipeline i.pipelines_rise i.pipeline_below

  with : (projects : List Project) (runners : List Runner) (attempts : List Attempt) (project runner attempt : ℕ) → Table (λ (p : Project). p.id) project_for_good s.projects projects project
      → Table (λ (r : Runner). r.id) runner_for_good s.runners runners runner → Attempts s attempts s.jobs
      → Next s (record s { projects = projects; runners = runners; attempts = attempts; next = record s.next { project = project; runner = runner; attempt = attempt } })
  with projects runners attempts project runner attempt ps rs as_next = search (rules, same_pipelines, kept, was_there, inl)

  with_projects : (projects : List Project) (next : ℕ) → Table (λ (p : Project). p.id) project_for_good s.projects projects next → Next s (record s { projects = projects; next = record s.next { project = next } })
  with_projects projects next ps = with projects s.runners s.attempts next s.next.runner s.next.attempt ps same_runners (same_attempts s s.jobs)

  with_runners : (runners : List Runner) (next : ℕ) → Table (λ (r : Runner). r.id) runner_for_good s.runners runners next → Next s (record s { runners = runners; next = record s.next { runner = next } })
  with_runners runners next rs = with s.projects runners s.attempts s.next.project next s.next.attempt same_projects rs (same_attempts s s.jobs)

  with_attempts : (attempts : List Attempt) (next : ℕ) → Attempts s attempts s.jobs → Next s (record s { attempts = attempts; next = record s.next { attempt = next } })
  with_attempts attempts next as_next = with s.projects s.runners attempts s.next.project s.next.runner next same_projects same_runners as_next

-- an attempt in place of one of its number, job, runner, token and grant
put_attempt : (s : State) (x a : Attempt) → Linked s → Rising (λ (b : Attempt). b.id) 0 s.attempts → Has a s.attempts → attempt_for_good x ≡ attempt_for_good a → Attempts s (put attempt_cmp x s.attempts) s.jobs
put_attempt s x a i r has good =
    let ids = λ (b : Attempt). b.id in
    record {
      stay = kept_all ids attempt_for_good (λ v w. ap ids) (x ∷ []) s.attempts r (of_one attempt_for_good x a s.attempts has good);
      linked = λ b k. ⊎_elim
          (λ e. let same_job : a.job ≡ b.job = sym (ap (λ (c : Attempt). c.job) e ∙ ap (λ (c : Attempt). c.job) good) in
          let same_runner : a.runner ≡ b.runner = sym (ap (λ (c : Attempt). c.runner) e ∙ ap (λ (c : Attempt). c.runner) good) in
          inr (subst (λ n. Named (λ (j : Job). j.id) n s.jobs) same_job (i.attempt_job a has), subst (λ n. Named (λ (q : Runner). q.id) n s.runners) same_runner (i.attempt_runner a has)))
          (λ m. inl m) (has_put attempt_cmp x b s.attempts k);
      counts = λ n. passing_all ids attempt_for_good (λ v w. ap ids) (x ∷ []) s.attempts r (of_one attempt_for_good x a s.attempts has good) (λ (b : Attempt). b.job == n) (λ v w. ap (λ (b : Attempt). b.job == n));
    }

-- ---- a new pipeline

enters : (s : State) (new : NewPipeline) (project : Project) (given : Given) (now : ℕ) (text : List ℕ) (laid : Layout) → Linked s → Has project s.projects → project.id ≡ new.project → IsLaidOut text given (Ok laid)
    → Next s (created_state s.next.job (creation s.next.pipeline s.next.job new given now laid) s)
enters s new project given now text laid i has named lays =
    let made = creation s.next.pipeline s.next.job new given now laid in
    let t = created_state s.next.job made s in
    let is = laid.plan.jobs in
    let count = length is in
    let pids = λ (w : Pipeline). w.id in
    let ids = λ (w : Job). w.id in
    let long : length made.jobs ≡ count = new_length s.next.pipeline s.next.job 0 is in
    let jobs : t.jobs ≡ s.jobs ++ made.jobs = jobs_behind s is i.job_below in
    let cases : (j : Job) → Has j t.jobs → Has j s.jobs ⊎ IsNew s.next.pipeline s.next.job (0 + count) is j
    = λ j k. ⊎_elim (λ m. inl m) (λ m. inr (new_are s.next.pipeline s.next.job 0 is j m)) (in_either j s.jobs made.jobs (subst (Has j) jobs k)) in
    let is_pipeline : Named pids s.next.pipeline t.pipelines = (made.pipeline, (placed_here pipeline_cmp made.pipeline (others pipeline_cmp made.pipeline s.pipelines), refl)) in
    let has_number : (k : ℕ) → k < count → Named ids (s.next.job + k) t.jobs
    = λ k l. let w = new_numbered s.next.pipeline s.next.job 0 is k (omega arith) (omega arith) in (w.0, (subst (Has w.0) (sym jobs) (has_right w.0 s.jobs made.jobs w.1.0), w.1.1)) in
    let within = pairs_inside text given laid lays in
    record {
      projects = same_projects s i;
      runners = same_runners s i;
      pipelines = new_in pids (λ w. w) made.pipeline s.pipelines i.pipelines_rise i.pipeline_below;
      kept_jobs = λ x k. (x, (subst (Has x) (sym jobs) (has_left x s.jobs made.jobs k), refl));
      job_below = λ w k. ⊎_elim (λ m. let a : w.id < s.next.job = i.job_below w m in omega arith) (λ e. let b = e.below in omega arith) (cases w k);
      next_job = omega arith;
      attempts = same_attempts s t.jobs;
      jobs = λ w k. ⊎_elim (λ m. inl m)
          (λ e. inr (subst (λ n. Named pids n t.pipelines) (sym (ap (λ (v : Job). v.pipeline) e.job)) is_pipeline, (let a = e.above in let b = i.first_job in omega arith, let none : w.set_aside ≡ 0 = ap (λ (v : Job). v.set_aside) e.job in omega arith))) (cases w k);
      numbered = λ w k. ⊎_elim (λ m. was_there s w m) (λ e. inr (ap (λ (v : Job). v.pipeline) e.job, e.above)) (cases w k);
      of_project = λ w k. ⊎_elim
          (λ e. inr (project, (has, named ∙ sym (ap (λ (v : Pipeline). v.project) e))))
          (λ l. inl l) (has_put pipeline_cmp made.pipeline w s.pipelines k);
      needs = λ w k. ⊎_elim (λ m. inl m)
          (λ m. ⊎_elim (λ e. absurd e)
          (λ q. let of = within q.0 q.1.0 in
          inr (subst (λ n. Named ids n t.jobs) (sym (ap (λ (v : Need). v.job) q.1.1)) (has_number q.0.1 of.1), subst (λ n. Named ids n t.jobs) (sym (ap (λ (v : Need). v.pred) q.1.1)) (has_number q.0.0 of.0)))
          (needs_are s.next.job laid.plan.pairs [] w m))
          (has_all need_cmp made.needs s.needs w k);
    }

-- ---- a user acts on jobs

acts : (s : State) (changes : List RowChange) (act : IsAct s changes) → Linked s → Rising (λ (j : Job). j.id) 0 s.jobs → Rising (λ (a : Attempt). a.id) 0 s.attempts
    → Next s (record s { jobs = put_all job_cmp act.jobs s.jobs; attempts = put_all attempt_cmp act.attempts s.attempts })
acts s changes act i jr r =
    let jids = λ (j : Job). j.id in
    let aids = λ (a : Attempt). a.id in
    let t : State = record s { jobs = put_all job_cmp act.jobs s.jobs; attempts = put_all attempt_cmp act.attempts s.attempts } in
    let kept_jobs = kept_all jids job_for_good (λ x y e. ap jids e) act.jobs s.jobs jr (λ j k. let w = act.each_job j k in (w.old, (w.has, w.good))) in
    let was_attempt : (a : Attempt) → Has a act.attempts → (b : Attempt) × (Has b s.attempts × (attempt_for_good a ≡ attempt_for_good b))
    = λ a k. let w = act.each_attempt a k in (w.old, (w.has, ap attempt_for_good w.is)) in
    let counts : (n : ℕ) → length (attempts_of s n) ≤ length (attempts_of t n)
    = λ n. passing_all aids attempt_for_good (λ x y e. ap aids e) act.attempts s.attempts r was_attempt (λ (b : Attempt). b.job == n) (λ x y e. ap (λ (b : Attempt). b.job == n) e) in
    record {
      projects = same_projects s i;
      runners = same_runners s i;
      pipelines = same_pipelines s i;
      kept_jobs = kept_jobs;
      job_below = λ j k. ⊎_elim (λ m. i.job_below j m)
          (λ m. let w = act.each_job j m in subst (λ n. n < s.next.job) (sym (ap jids w.good)) (i.job_below w.old w.has))
          (has_all job_cmp act.jobs s.jobs j k);
      next_job = omega arith;
      attempts = record {
        stay = kept_all aids attempt_for_good (λ x y e. ap aids e) act.attempts s.attempts r was_attempt;
        linked = λ a k. ⊎_elim (λ m. inl m)
            (λ m. let w = act.each_attempt a m in
            inr (
              subst (λ n. Named jids n t.jobs) (sym (ap (λ (b : Attempt). b.job) w.is)) (named_kept jids job_for_good w.old.job s.jobs t.jobs (λ x y e. ap jids e) kept_jobs (i.attempt_job w.old w.has)),
              subst (λ n. Named (λ (q : Runner). q.id) n s.runners) (sym (ap (λ (b : Attempt). b.runner) w.is)) (i.attempt_runner w.old w.has),
            ))
            (has_all attempt_cmp act.attempts s.attempts a k);
        counts = counts;
      };
      jobs = λ j k. ⊎_elim (λ m. inl m)
          (λ m. let w = act.each_job j m in
          let same : j.id ≡ w.old.id = ap jids w.good in
          let old : w.old.set_aside ≤ length (attempts_of s w.old.id) = i.aside w.old w.has in
          let more : length (attempts_of s w.old.id) ≤ length (attempts_of t w.old.id) = counts w.old.id in
          let aside : j.set_aside ≤ length (attempts_of t w.old.id)
          = ⊎_elim (λ e. let f : j.set_aside ≡ w.old.set_aside = e in omega arith) (λ e. let f : j.set_aside ≡ length (attempts_of s w.old.id) = e in omega arith) w.aside in
          inr (
            subst (λ n. Named (λ (p : Pipeline). p.id) n s.pipelines) (sym (ap (λ (v : Job). v.pipeline) w.good)) (i.job_pipeline w.old w.has),
            (subst (λ n. 1 ≤ n) (sym same) (i.positive w.old w.has), subst (λ n. j.set_aside ≤ length (attempts_of t n)) (sym same) aside),
          ))
          (has_all job_cmp act.jobs s.jobs j k);
      numbered = λ j k. ⊎_elim (λ m. was_there s j m)
          (λ m. let w = act.each_job j m in inl (w.old, (w.has, (sym (ap jids w.good), sym (ap (λ (v : Job). v.pipeline) w.good)))))
          (has_all job_cmp act.jobs s.jobs j k);
      of_project = λ p k. inl k;
      needs = λ w k. inl k;
    }

-- ---- each step

-- the next state, in which what was there is there; or that without a pipeline, which a request to prune leads to
abbrev pub Follows : State → Event → Answer → State → Type 0
Follows s e a t = Next s t ⊎ IsPruned s e a t

goes : (s : State) (board : List BoardRow) (e : Event) → Linked s → Rising (λ (j : Job). j.id) 0 s.jobs → Rising (λ (a : Attempt). a.id) 0 s.attempts → Below (λ (a : Attempt). a.id) s.next.attempt s.attempts → EachNext s board e (Follows s e)
goes s board e i jr r b = record {
  stays = λ _ _. inl rests;
  aside = λ _ _ t by. inl (beside t by);
  pipeline = λ new now is project text laid claims rows asked has named file lays fits. inl (enters s new project (given_in s new) now text laid i has named lays);
  granted = λ token is runner job q variables now seed found offered has_runner has_job pending is_queued free.
      let its_job : job.id ≡ q.job.id = ap (λ (w : QueuedJob). w.job.id) is_queued in
      inl (with_attempts s i _ _ (record {
        stay = kept_new (λ (w : Attempt). w.id) attempt_for_good _ s.next.attempt s.attempts b (omega arith);
        linked = λ a k. ⊎_elim
            (λ e. inr ((job, (has_job, its_job ∙ sym (ap (λ (w : Attempt). w.job) e))), (runner, (has_runner, sym (ap (λ (w : Attempt). w.runner) e)))))
            (λ m. inl m) (has_put attempt_cmp _ a s.attempts k);
        counts = λ n. passing_new (λ (w : Attempt). w.id) (λ (w : Attempt). w.job == n) _ s.next.attempt s.attempts b (omega arith);
      }));
  alters = λ _ _ old seen state has live. inl (with_attempts s i _ s.next.attempt (put_attempt s _ old i r has refl));
  grown = λ part is old now size has its live. inl (with_attempts s i _ s.next.attempt (put_attempt s _ old i r has refl));
  acted = λ _ _ changes act. inl (acts s changes act i jr r);
  pruned = λ p before is found. inr (record { pipeline = p; has = (has_find (is_prunable s board before) p s.pipelines found).0; before = before; asked = is; answered = refl; state = refl });
} where
  rests : Next s s
  rests = with_attempts s i s.attempts s.next.attempt (same_attempts s s.jobs)

  beside : (t : State) → IsAside s e t → Next s (record s { projects = t.projects; runners = t.runners; next = record s.next { project = t.next.project; runner = t.next.runner } })
  beside _ (project_made name seed) = with_projects s i _ _ (new_in (λ (p : Project). p.id) project_for_good _ s.projects i.projects_rise i.project_below)
  beside _ (runner_made new seed) = with_runners s i _ _ (new_in (λ (q : Runner). q.id) runner_for_good _ s.runners i.runners_rise i.runner_below)
  beside _ (runner_stands runner paused has) = with_runners s i _ _ (put_in (λ (q : Runner). q.id) runner_for_good (λ x y g. ap (λ (q : Runner). q.id) g) _ runner s.runners s.next.runner i.runners_rise i.runner_below has refl)
  beside _ (file_stands project text has) = with_projects s i _ _ (put_in (λ (p : Project). p.id) project_for_good (λ x y g. ap (λ (p : Project). p.id) g) _ project s.projects s.next.project i.projects_rise i.project_below has refl)
  beside _ by = rests

pub follows : (s : State) (board : List BoardRow) (e : Event) (now : ℕ) (seed : Seed) (a : Answer) (changes : List RowChange) → Linked s → Rising (λ (w : Job). w.id) 0 s.jobs → Rising (λ (w : Attempt). w.id) 0 s.attempts → Below (λ (w : Attempt). w.id) s.next.attempt s.attempts
    → Happens s board e now seed a changes → Follows s e a (applied changes s)
follows s board e now seed a changes i jr r b = next_is s board jr r (Follows s e) e now seed a changes (goes s board e i jr r b)
