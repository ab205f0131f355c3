-- What a user does to jobs: which records it puts, and which state it leads to.
use Rattle.ci_machine_laws.proofs.Prelude.{◌≡◌, ◌⊎◌, ℕ, ◌==◌, true, false, List, [], ◌∷◌, ◌++◌, length, map, filter, refl, sym, ap, ◌∙◌, inl, inr, ⊎_elim, and_parts, Has}
use Rattle.ci_machine_laws.proofs.Prelude.{has_filter, map_has, put_all, applied_append}
use Rattle.ci_machine_steps.specs.Prelude.{Job, Attempt, BoardRow, RowChange, Put, Record, State, put, job_cmp, attempt_cmp, applied, jobs_of, attempts_of, status_for, is_live}
use Rattle.ci_machine_steps.specs.Prelude.{play, retry, is_cancellable, cancellable_jobs, is_lease_on, cancelled_job, cancelled_attempt, cancel, job_for_good}
use Rattle.ci_machine_laws.proofs.PutAll.{map_twice}

-- the job was there, with what it has for good, and sets aside what it did, or all its attempts
pub record WasJob (s : State) (j : Job) : Type 0 where
  pub old : Job
  pub has : Has old s.jobs
  pub good : job_for_good j ≡ job_for_good old
  pub aside : (j.set_aside ≡ old.set_aside) ⊎ (j.set_aside ≡ length (attempts_of s old.id))

-- the attempt was live, and is cancelled
pub record WasLive (s : State) (a : Attempt) : Type 0 where
  pub old : Attempt
  pub has : Has old s.attempts
  pub live : is_live old ≡ true
  pub is : a ≡ cancelled_attempt old

-- the changes put jobs that were there, and cancel live attempts
pub record IsAct (s : State) (changes : List RowChange) : Type 0 where
  pub jobs : List Job
  pub attempts : List Attempt
  pub is : changes ≡ map (λ j. Put (Record.Job j)) jobs ++ map (λ a. Put (Record.Attempt a)) attempts
  pub each_job : (j : Job) → Has j jobs → WasJob s j
  pub each_attempt : (a : Attempt) → Has a attempts → WasLive s a

-- ---- each act

pub plays : (s : State) (job : Job) → Has job s.jobs → IsAct s (play job)
plays s job has = record {
  jobs = record job { played = true } ∷ [];
  attempts = [];
  is = refl;
  each_job = λ j k. ⊎_elim (λ e. record { old = job; has = has; good = ap job_for_good e; aside = inl (ap (λ (w : Job). w.set_aside) e) }) (λ m. absurd m) k;
  each_attempt = λ a k. absurd k;
}

pub retries : (s : State) (job : Job) → Has job s.jobs → IsAct s (retry (attempts_of s job.id) job)
retries s job has = record {
  jobs = record job { set_aside = length (attempts_of s job.id); cancelled = false } ∷ [];
  attempts = [];
  is = refl;
  each_job = λ j k. ⊎_elim (λ e. record { old = job; has = has; good = ap job_for_good e; aside = inr (ap (λ (w : Job). w.set_aside) e) }) (λ m. absurd m) k;
  each_attempt = λ a k. absurd k;
}

pub cancels : (s : State) (jobs : List Job) → ((j : Job) → Has j jobs → Has j s.jobs) → IsAct s (cancel s.attempts jobs)
cancels s jobs within =
    let leases = filter (is_lease_on jobs) s.attempts in
    let put_jobs = map_twice (λ (j : Job). Put (Record.Job j)) cancelled_job jobs in
    let put_attempts = map_twice (λ (a : Attempt). Put (Record.Attempt a)) cancelled_attempt leases in
    record {
      jobs = map cancelled_job jobs;
      attempts = map cancelled_attempt leases;
      is = λ i. (put_jobs i) ++ (put_attempts i);
      each_job = λ j k. let w = map_has cancelled_job j jobs k in record {
        old = w.0;
        has = within w.0 w.1.0;
        good = ap job_for_good (sym w.1.1);
        aside = inl (ap (λ (v : Job). v.set_aside) (sym w.1.1));
      };
      each_attempt = λ a k. let w = map_has cancelled_attempt a leases k in let of = has_filter (is_lease_on jobs) w.0 s.attempts w.1.0 in record {
        old = w.0;
        has = of.0;
        live = (and_parts (is_live w.0) _ of.1).0;
        is = sym w.1.1;
      };
    }

-- the jobs of a pipeline that can be cancelled are there
pub cancellable_within : (s : State) (board : List BoardRow) (pipeline : ℕ) (j : Job) → Has j (cancellable_jobs s board pipeline) → Has j s.jobs
cancellable_within s board pipeline j k =
    (has_filter (λ (w : Job). w.pipeline == pipeline) j s.jobs (has_filter (λ (w : Job). is_cancellable (status_for board w.id)) j (jobs_of s pipeline) k).0).0

-- ---- the state that it leads to

pub after_act : (s : State) (changes : List RowChange) (act : IsAct s changes)
    → applied changes s ≡ record s { jobs = put_all job_cmp act.jobs s.jobs; attempts = put_all attempt_cmp act.attempts s.attempts }
after_act s changes act =
    let js = map (λ (j : Job). Put (Record.Job j)) act.jobs in
    let as_live = map (λ (a : Attempt). Put (Record.Attempt a)) act.attempts in
    ap (λ cs. applied cs s) act.is
    ∙ (applied_append js as_live s
    ∙ (ap (applied as_live) (jobs_put act.jobs s)
    ∙ attempts_put act.attempts (record s { jobs = put_all job_cmp act.jobs s.jobs })))
  where
    jobs_put : (js : List Job) (r : State) → applied (map (λ j. Put (Record.Job j)) js) r ≡ record r { jobs = put_all job_cmp js r.jobs }
    jobs_put [] r = refl
    jobs_put (j ∷ js) r = jobs_put js (record r { jobs = put job_cmp j r.jobs })

    attempts_put : (xs : List Attempt) (r : State) → applied (map (λ a. Put (Record.Attempt a)) xs) r ≡ record r { attempts = put_all attempt_cmp xs r.attempts }
    attempts_put [] r = refl
    attempts_put (a ∷ xs) r = attempts_put xs (record r { attempts = put attempt_cmp a r.attempts })

-- where jobs are cancelled
pub after_cancel : (s : State) (jobs : List Job) → ((j : Job) → Has j jobs → Has j s.jobs)
    → applied (cancel s.attempts jobs) s ≡ record s { jobs = put_all job_cmp (map cancelled_job jobs) s.jobs; attempts = put_all attempt_cmp (map cancelled_attempt (filter (is_lease_on jobs) s.attempts)) s.attempts }
unfolding cancels
after_cancel s jobs within = after_act s (cancel s.attempts jobs) (cancels s jobs within)
