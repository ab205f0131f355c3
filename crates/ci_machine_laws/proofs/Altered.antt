-- A state in which jobs and attempts stand otherwise, each in its place: the graphs of its pipelines are the same, and so is the status of each
-- pipeline whose jobs have the facts that they had.
use Rattle.ci_machine_laws.proofs.Prelude.{◌≡◌, ℕ, zero, suc, ◌-◌, ◌<◌, Bool, ◌==◌, ◌||◌, not, if◌then◌else◌, List, [], length, map, option_map, None, refl, sym, ap}
use Rattle.ci_machine_laws.proofs.Prelude.{subst, ◌∙◌, arith, map-id, last_or, length-map, Part, JobGraph, Has, has_filter}
use Rattle.ci_machine_steps.specs.Prelude.{Facts, Status, statuses, facts_at, IsAssignment, is_status, some_job, has_status, has_strict, has_attempt, pipeline_status, Attempt}
use Rattle.ci_machine_steps.specs.Prelude.{BoardRow, Job, JobOptions, Pipeline, State, jobs_of, numbers_of, attempts_of, pairs_among, predecessors_by, graph_of, facts_in}
use Rattle.ci_machine_steps.specs.Prelude.{facts_of, rows_of, AreBoard, is_open_in, is_unfinished, HasOneBoard}
use Rattle.ci_machine_laws.proofs.PutAll.{map_twice}
use Rattle.ci_machine_laws.proofs.Finished.{map_same}
use Rattle.ci_machine.proofs.Filters.{filter-map}

abbrev pub altered : State → (Job → Job) → (Attempt → Attempt) → State
altered s of_job of_attempt = record s { jobs = map of_job s.jobs; attempts = map of_attempt s.attempts }

-- each job stays in its place, and each attempt with its job
pub record Alters (s : State) (of_job : Job → Job) (of_attempt : Attempt → Attempt) : Type 0 where
  pub id : (j : Job) → Has j s.jobs → (of_job j).id ≡ j.id
  pub pipeline : (j : Job) → Has j s.jobs → (of_job j).pipeline ≡ j.pipeline
  pub options : (j : Job) → Has j s.jobs → (of_job j).options ≡ j.options
  pub job : (a : Attempt) → Has a s.attempts → (of_attempt a).job ≡ a.job

-- ---- the status of a pipeline by its jobs'

some_same : (n : ℕ) (f g : ℕ → Bool) → ((k : ℕ) → k < n → f k ≡ g k) → some_job n f ≡ some_job n g
some_same zero f g e = refl
some_same (suc n) f g e =
    let last : f n ≡ g n = e n (omega arith) in
    let rest : some_job n f ≡ some_job n g = some_same n f g (λ k l. e k (omega arith)) in
    λ i. last i || rest i

pub status_same : (parts : List Part) (facts : List Facts) (a b : ℕ → Status) → ((k : ℕ) → k < length parts → a k ≡ b k) → pipeline_status parts facts a ≡ pipeline_status parts facts b
status_same parts facts a b e =
    let n = length parts in
    let runs = some_same n (has_status a Status.Running) (has_status b Status.Running) (λ k l. ap (is_status Status.Running) (e k l)) in
    let waits = some_same n (has_status a Status.Pending) (has_status b Status.Pending) (λ k l. ap (is_status Status.Pending) (e k l)) in
    let manual = some_same n (has_strict parts facts a Status.Manual) (has_strict parts facts b Status.Manual) (λ k l i. has_strict parts facts (λ _. e k l i) Status.Manual k) in
    let failed = some_same n (has_strict parts facts a Status.Failed) (has_strict parts facts b Status.Failed) (λ k l i. has_strict parts facts (λ _. e k l i) Status.Failed k) in
    let canceled = some_same n (has_strict parts facts a Status.Canceled) (has_strict parts facts b Status.Canceled) (λ k l i. has_strict parts facts (λ _. e k l i) Status.Canceled k) in
    let done = some_same n (λ j. not (is_status Status.Skipped (a j) || is_status Status.Manual (a j))) (λ j. not (is_status Status.Skipped (b j) || is_status Status.Manual (b j)))
    (λ k l. ap (λ (s : Status). not (is_status Status.Skipped s || is_status Status.Manual s)) (e k l)) in
    λ i. if runs i then Status.Running
    else if waits i then (if some_job n (λ j. has_attempt (facts_at facts j).last) then Status.Running else Status.Pending)
    else if manual i then Status.Manual
    else if failed i then Status.Failed
    else if canceled i then Status.Canceled
    else if done i then Status.Success
    else Status.Skipped

-- ---- the state

module _ (s : State) (of_job : Job → Job) (of_attempt : Attempt → Attempt) (alters : Alters s of_job of_attempt) where
  abbrev t : State
  t = altered s of_job of_attempt

  pub jobs_altered : (m : ℕ) → jobs_of t m ≡ map of_job (jobs_of s m)
  jobs_altered m = filter-map (λ (j : Job). j.pipeline == m) of_job s.jobs (λ j k. ap (λ n. n == m) (alters.pipeline j k))

  its_job : (m : ℕ) (j : Job) → Has j (jobs_of s m) → Has j s.jobs
  its_job m j k = (has_filter (λ (w : Job). w.pipeline == m) j s.jobs k).0

  numbers_altered : (m : ℕ) → numbers_of t m ≡ numbers_of s m
  numbers_altered m =
      let id : Job → ℕ = λ j. j.id in
      ap (map id) (jobs_altered m) ∙ (sym (map_twice id of_job (jobs_of s m)) ∙ map_same (λ (j : Job). id (of_job j)) id (jobs_of s m) (λ j k. alters.id j (its_job m j k)))

  parts_altered : (m : ℕ) → map (λ (j : Job). j.options.part) (jobs_of t m) ≡ map (λ (j : Job). j.options.part) (jobs_of s m)
  parts_altered m =
      let part : Job → Part = λ j. j.options.part in
      ap (map part) (jobs_altered m)
      ∙ (sym (map_twice part of_job (jobs_of s m)) ∙ map_same (λ (j : Job). part (of_job j)) part (jobs_of s m) (λ j k. ap (λ (o : JobOptions). o.part) (alters.options j (its_job m j k))))

  pub long_altered : (m : ℕ) → length (jobs_of t m) ≡ length (jobs_of s m)
  long_altered m = ap (λ (l : List Job). length l) (jobs_altered m) ∙ length-map (jobs_of s m) of_job

  pub graph_altered : (m : ℕ) → graph_of t m ≡ graph_of s m
  graph_altered m =
      let parts = parts_altered m in
      let numbers = numbers_altered m in
      let long = long_altered m in
      λ i. record { parts = parts i; predecessors = predecessors_by (pairs_among (numbers i) s.needs) (long i); successors = []; order = []; meter = 0 }

  pub facts_altered : (m : ℕ) → facts_of t m ≡ map (λ (j : Job). facts_in t (of_job j)) (jobs_of s m)
  facts_altered m = ap (map (facts_in t)) (jobs_altered m) ∙ sym (map_twice (facts_in t) of_job (jobs_of s m))

  pub attempts_altered : (n : ℕ) → attempts_of t n ≡ map of_attempt (attempts_of s n)
  attempts_altered n = filter-map (λ (a : Attempt). a.job == n) of_attempt s.attempts (λ a k. ap (λ m. m == n) (alters.job a k))

  -- a job that stands as it did, and so do its attempts
  pub facts_kept : (j : Job) → of_job j ≡ j → ((a : Attempt) → Has a (attempts_of s j.id) → of_attempt a ≡ a) → facts_in t (of_job j) ≡ facts_in s j
  facts_kept j same attempts =
      let facts : List Attempt → Facts
      = λ l. record { last = option_map (λ (a : Attempt). a.state) (last_or None l); attempts = length l - j.set_aside; cancelled = j.cancelled; played = j.played } in
      ap (facts_in t) same ∙ ap facts (attempts_altered j.id ∙ (map_same of_attempt (λ a. a) (attempts_of s j.id) attempts ∙ map-id (attempts_of s j.id)))

  -- what is an assignment by the facts that it has then is one of the state
  pub assigned : (m : ℕ) (facts : List Facts) (a : ℕ → Status) → facts_of t m ≡ facts → IsAssignment (graph_of s m) facts a → IsAssignment (graph_of t m) (facts_of t m) a
  assigned m facts a same is =
      subst (λ (g : JobGraph). IsAssignment g (facts_of t m) a) (sym (graph_altered m)) (subst (λ (fs : List Facts). IsAssignment (graph_of s m) fs a) (sym same) is)

  module _ (one : HasOneBoard t) (board : List BoardRow) (are : AreBoard t board) (p : Pipeline) where
    -- so its jobs' statuses are those of the assignment
    pub open_by : (facts : List Facts) (a : ℕ → Status) → facts_of t p.id ≡ facts → IsAssignment (graph_of s p.id) facts a
        → is_open_in t board p ≡ is_unfinished (pipeline_status (map (λ (j : Job). j.options.part) (jobs_of s p.id)) facts a)
    open_by facts a same is =
        let m = p.id in
        let b = statuses (rows_of t board m) in
        let parts = map (λ (j : Job). j.options.part) (jobs_of s m) in
        let agree : (k : ℕ) → k < length parts → b k ≡ a k
        = λ k l. one.one_assignment m b a (are.each m).is (assigned m facts a same is) k
        (let e : length parts ≡ length (jobs_of s m) = length-map (jobs_of s m) (λ (j : Job). j.options.part) in let f = long_altered m in omega arith) in
        let its_parts = parts_altered m in
        (λ i. is_unfinished (pipeline_status (its_parts i) (same i) b)) ∙ ap is_unfinished (status_same parts facts b a agree)

    -- a pipeline whose jobs have the facts that they had
    pub open_as_it_was : (was : List BoardRow) → AreBoard s was → facts_of t p.id ≡ facts_of s p.id → is_open_in t board p ≡ is_open_in s was p
    open_as_it_was was are_was same = open_by (facts_of s p.id) (statuses (rows_of s was p.id)) same (are_was.each p.id).is
