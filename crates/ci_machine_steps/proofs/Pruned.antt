-- What a prune leads to: the state without the pipeline, in which all else stands as it did.
use Rattle.std.proofs.Common.{◌≡◌, ℕ, true, false, not, ◌==◌, List, [], ◌∷◌, ◌++◌, map, filter, flat_map, refl, sym, ap, subst, ◌∙◌, ⊎_elim, eqb-true, eq-eqb, ne_eqb}
use Rattle.std.specs.List.{list_any}
use Rattle.std.proofs.lemmas.Bool.{both_ways, cases_Bool}
use Rattle.ci_machine_steps.specs.Prelude.{Pipeline, Job, JobVariable, Need, Attempt, Trace, Key, RowChange, Remove, State, without, without_all, bytes_or_none, applied, jobs_of}
use Rattle.ci_machine_steps.specs.Prelude.{attempts_of, trace_of, is_job_among, attempt_goes, ties_go, pipeline_goes, without_pipeline}
use Rattle.ci_machine_steps.specs.Prunes.{attempts_among}
use Rattle.ci_machine.proofs.Keyed.{Has, Rising, one_at, not_true, has_filter, filter_has, filter_none, filter_same}
use Rattle.ci_machine.proofs.Tests.{any_mapped, any_has, has_any}
use Rattle.ci_machine.proofs.Filters.{filter_implied, find_implied, all_gone, those_gone, unlike}
use Rattle.ci_machine_steps.proofs.Created.{applied_append}

-- ---- the changes, one after the other

attempts_went : (mine : List Attempt) (s : State) → applied (flat_map attempt_goes mine) s
    ≡ record s { attempts = without_all (λ a. a.id) (map (λ a. a.id) mine) s.attempts; traces = without_all (λ t. t.attempt) (map (λ a. a.id) mine) s.traces }
attempts_went [] s = refl
attempts_went (a ∷ mine) s = attempts_went mine (record s { attempts = without (λ b. b.id) a.id s.attempts; traces = without (λ t. t.attempt) a.id s.traces })

ties_went : (js : List Job) (s : State) → applied (flat_map ties_go js) s
    ≡ record s { job_variables = without_all (λ v. v.job) (map (λ j. j.id) js) s.job_variables; needs = without_all (λ w. w.job) (map (λ j. j.id) js) s.needs }
ties_went [] s = refl
ties_went (j ∷ js) s = ties_went js (record s { job_variables = without (λ v. v.job) j.id s.job_variables; needs = without (λ w. w.job) j.id s.needs })

jobs_went : (js : List Job) (s : State) → applied (map (λ j. Remove (Key.Job j.id)) js) s ≡ record s { jobs = without_all (λ j. j.id) (map (λ j. j.id) js) s.jobs }
jobs_went [] s = refl
jobs_went (j ∷ js) s = jobs_went js (record s { jobs = without (λ w. w.id) j.id s.jobs })

-- the state without records of these numbers
abbrev without_these : ℕ → List ℕ → List ℕ → State → State
without_these n jobs attempts s = record s {
  pipelines = without (λ p. p.id) n s.pipelines;
  jobs = without_all (λ j. j.id) jobs s.jobs;
  job_variables = without_all (λ v. v.job) jobs s.job_variables;
  needs = without_all (λ w. w.job) jobs s.needs;
  attempts = without_all (λ a. a.id) attempts s.attempts;
  traces = without_all (λ t. t.attempt) attempts s.traces;
}

all_went : (p : Pipeline) (js : List Job) (mine : List Attempt) (s : State)
    → applied (pipeline_goes p js mine) s ≡ without_these p.id (map (λ j. j.id) js) (map (λ a. a.id) (attempts_among js mine)) s
all_went p js mine s =
    let its = attempts_among js mine in
    let jobs_and_it : List RowChange = map (λ j. Remove (Key.Job j.id)) js ++ Remove (Key.Pipeline p.id) ∷ [] in
    let r : State = record s { attempts = without_all (λ a. a.id) (map (λ a. a.id) its) s.attempts; traces = without_all (λ t. t.attempt) (map (λ a. a.id) its) s.traces } in
    let t : State = record r { job_variables = without_all (λ v. v.job) (map (λ j. j.id) js) r.job_variables; needs = without_all (λ w. w.job) (map (λ j. j.id) js) r.needs } in
    applied_append (flat_map attempt_goes its) (flat_map ties_go js ++ jobs_and_it) s
    ∙ (ap (applied (flat_map ties_go js ++ jobs_and_it)) (attempts_went its s)
    ∙ (applied_append (flat_map ties_go js) jobs_and_it r
    ∙ (ap (applied jobs_and_it) (ties_went js r)
    ∙ (applied_append (map (λ j. Remove (Key.Job j.id)) js) (Remove (Key.Pipeline p.id) ∷ []) t
    ∙ ap (applied (Remove (Key.Pipeline p.id) ∷ [])) (jobs_went js t)))))

-- ---- what is left

module _ (s : State) (n : ℕ) (jobs_rise : Rising (λ (j : Job). j.id) 0 s.jobs) (attempts_rise : Rising (λ (a : Attempt). a.id) 0 s.attempts) where
  abbrev its_jobs : List Job
  its_jobs = jobs_of s n

  abbrev left : State
  left = without_pipeline s n

  -- a job of the state has one of its jobs' numbers if it is one of them
  pub among_its : (j : Job) → Has j s.jobs → is_job_among (jobs_of s n) j.id ≡ (j.pipeline == n)
  among_its j k =
      ⊎_elim
      (λ (e : (j.pipeline == n) ≡ true). has_any (λ (w : Job). w.id == j.id) j its_jobs (filter_has (λ (w : Job). w.pipeline == n) j s.jobs k e) (eq-eqb j.id j.id refl) ∙ sym e)
      (λ (e : (j.pipeline == n) ≡ false).
      ⊎_elim
      (λ (t : is_job_among its_jobs j.id ≡ true).
      let w = any_has (λ (w : Job). w.id == j.id) its_jobs t in
      let of = has_filter (λ (v : Job). v.pipeline == n) w.0 s.jobs w.1.0 in
      absurd (both_ways (j.pipeline == n) e (subst (λ (v : Job). (v.pipeline == n) ≡ true) (one_at (λ (v : Job). v.id) w.0 j 0 s.jobs jobs_rise of.0 k (eqb-true w.0.id j.id w.1.1)) of.1)))
      (λ f. f ∙ sym e)
      (cases_Bool (is_job_among its_jobs j.id)))
      (cases_Bool (j.pipeline == n))

  pub pruned_state : (p : Pipeline) → p.id ≡ n → applied (pipeline_goes p (jobs_of s n) s.attempts) s ≡ without_pipeline s n
  pruned_state p number =
      let its = attempts_among its_jobs s.attempts in
      let same_pipelines : without (λ (q : Pipeline). q.id) p.id s.pipelines ≡ filter (λ q. not (q.id == n)) s.pipelines
      = filter_same _ (λ (q : Pipeline). not (q.id == n)) s.pipelines (λ q k. unlike q.id p.id ∙ ap not (flips p.id q.id) ∙ ap (λ m. not (q.id == m)) number) in
      let same_jobs = those_gone (λ (j : Job). j.id) (λ j. j.pipeline == n) s.jobs jobs_rise in
      let same_variables = all_gone (λ (v : JobVariable). v.job) (map (λ j. j.id) its_jobs) s.job_variables
      ∙ filter_same _ (λ (v : JobVariable). not (is_job_among its_jobs v.job)) s.job_variables (λ v k. ap not (sym (any_mapped (λ m. m == v.job) (λ (j : Job). j.id) its_jobs))) in
      let same_needs = all_gone (λ (w : Need). w.job) (map (λ j. j.id) its_jobs) s.needs
      ∙ filter_same _ (λ (w : Need). not (is_job_among its_jobs w.job)) s.needs (λ w k. ap not (sym (any_mapped (λ m. m == w.job) (λ (j : Job). j.id) its_jobs))) in
      let same_attempts = those_gone (λ (a : Attempt). a.id) (λ a. is_job_among its_jobs a.job) s.attempts attempts_rise in
      let same_traces = all_gone (λ (t : Trace). t.attempt) (map (λ a. a.id) its) s.traces
      ∙ filter_same _ (λ (t : Trace). not (list_any (λ a. a.id == t.attempt) its)) s.traces (λ t k. ap not (sym (any_mapped (λ m. m == t.attempt) (λ (a : Attempt). a.id) its))) in
      all_went p its_jobs s.attempts s ∙ (λ i. record s {
        pipelines = same_pipelines i;
        jobs = same_jobs i;
        job_variables = same_variables i;
        needs = same_needs i;
        attempts = same_attempts i;
        traces = same_traces i;
      })
    where
      flips : (a b : ℕ) → (a == b) ≡ (b == a)
      flips a b =
          ⊎_elim (λ (e : (a == b) ≡ true). e ∙ sym (eq-eqb b a (sym (eqb-true a b e))))
          (λ (e : (a == b) ≡ false). e ∙ sym (ne_eqb b a (λ f. both_ways (a == b) e (eq-eqb a b (sym f)))))
          (cases_Bool (a == b))

  -- the jobs of the others, and none of its own
  pub jobs_left : (m : ℕ) → (m ≡ n → ⊥) → jobs_of (without_pipeline s n) m ≡ jobs_of s m
  jobs_left m other =
      filter_implied (λ (j : Job). j.pipeline == m) (λ j. not (j.pipeline == n)) s.jobs (λ j k e. ap not (ne_eqb j.pipeline n (λ f. other (sym (eqb-true j.pipeline m e) ∙ f))))

  pub no_jobs : jobs_of (without_pipeline s n) n ≡ []
  no_jobs = filter_none (λ (j : Job). j.pipeline == n) left.jobs (λ j k. not_true (j.pipeline == n) (has_filter (λ (w : Job). not (w.pipeline == n)) j s.jobs k).1)

  pub job_left : (j : Job) → Has j s.jobs → (j.pipeline ≡ n → ⊥) → Has j (without_pipeline s n).jobs
  job_left j k other = filter_has (λ (w : Job). not (w.pipeline == n)) j s.jobs k (ap not (ne_eqb j.pipeline n other))

  pub job_was : (j : Job) → Has j (without_pipeline s n).jobs → Has j s.jobs × (j.pipeline ≡ n → ⊥)
  job_was j k =
      let w = has_filter (λ (v : Job). not (v.pipeline == n)) j s.jobs k in
      (w.0, λ e. both_ways (j.pipeline == n) (not_true (j.pipeline == n) w.1) (eq-eqb j.pipeline n e))

  -- the attempts of a job that is left
  pub attempts_left : (j : Job) → Has j s.jobs → (j.pipeline ≡ n → ⊥) → attempts_of (without_pipeline s n) j.id ≡ attempts_of s j.id
  attempts_left j k other =
      filter_implied (λ (a : Attempt). a.job == j.id) (λ a. not (is_job_among its_jobs a.job)) s.attempts
      (λ a m e. ap not (ap (is_job_among its_jobs) (eqb-true a.job j.id e) ∙ (among_its j k ∙ ne_eqb j.pipeline n other)))

  pub attempt_was : (a : Attempt) → Has a (without_pipeline s n).attempts → Has a s.attempts × (is_job_among (jobs_of s n) a.job ≡ false)
  attempt_was a k =
      let w = has_filter (λ (b : Attempt). not (is_job_among its_jobs b.job)) a s.attempts k in
      (w.0, not_true (is_job_among its_jobs a.job) w.1)

  pub attempt_left : (a : Attempt) → Has a s.attempts → is_job_among (jobs_of s n) a.job ≡ false → Has a (without_pipeline s n).attempts
  attempt_left a k e = filter_has (λ (b : Attempt). not (is_job_among its_jobs b.job)) a s.attempts k (ap not e)

  -- the trace of an attempt that is left
  pub trace_left : (a : Attempt) → Has a (without_pipeline s n).attempts → trace_of (without_pipeline s n) a.id ≡ trace_of s a.id
  trace_left a k =
      let its = attempts_among its_jobs s.attempts in
      let was = attempt_was a k in
      ap bytes_or_none (find_implied (λ (t : Trace). t.attempt == a.id) (λ t. not (list_any (λ b. b.id == t.attempt) its)) s.traces
      (λ t m e.
      ⊎_elim
      (λ (among : list_any (λ (b : Attempt). b.id == t.attempt) its ≡ true).
      let w = any_has (λ (b : Attempt). b.id == t.attempt) its among in
      let of = has_filter (λ (b : Attempt). is_job_among its_jobs b.job) w.0 s.attempts w.1.0 in
      let same = one_at (λ (b : Attempt). b.id) w.0 a 0 s.attempts attempts_rise of.0 was.0 (eqb-true w.0.id t.attempt w.1.1 ∙ eqb-true t.attempt a.id e) in
      absurd (both_ways (is_job_among its_jobs a.job) was.1 (subst (λ (b : Attempt). is_job_among its_jobs b.job ≡ true) same of.1)))
      (λ f. ap not f)
      (cases_Bool (list_any (λ (b : Attempt). b.id == t.attempt) its))))
