-- A user acts on jobs of a pipeline: the facts of the state after.
use Rattle.std.proofs.Common.{◌≡◌, ℕ, ◌-◌, Bool, true, false, ◌&&◌, ◌==◌, List, [], ◌∷◌, length, map, filter, if◌then◌else◌, Some, refl, sym, ap, ◌∙◌, ⊎_elim}
use Rattle.std.proofs.Common.{arith, eqb-true, eq-eqb, ne_eqb}
use Rattle.std.proofs.lemmas.Bool.{cond_both, cond-false, and_right, both_ways, cases_Bool}
use Rattle.std.proofs.lemmas.List.{length-map}
use Rattle.ci_machine_steps.specs.Prelude.{AttemptState, is_live_state, Attempt, Job, Put, Record, State, job_cmp, attempt_cmp, put, applied, jobs_of, numbers_of, attempts_of}
use Rattle.ci_machine_steps.specs.Prelude.{pairs_among, predecessors_by, facts_in, facts_of, is_live, is_lease_on, is_job_among, cancelled_attempt}
use Rattle.ci_machine.proofs.Keyed.{Has, Rising, has_filter, filter_has, filter_none, one_at}
use Rattle.ci_machine.proofs.Filters.{filter_both, filter-map}
use Rattle.ci_machine.proofs.Tests.{any_has, has_any}
use Rattle.ci_machine_steps.proofs.Behind.{put_all}
use Rattle.ci_machine_steps.proofs.Created.{applied_append}
use Rattle.ci_machine_steps.proofs.Sound.{Sound}
use Rattle.ci_machine_statuses.specs.declared.act.Act.{Act}
use Rattle.ci_machine_statuses.specs.declared.act.Act.TheVariants.{Play, Retry, Cancel}
use Rattle.ci_machine_statuses.specs.Acts.{marked, ended_leases, act_changes, cancelled_last, acted, facts_acted}
use Rattle.ci_machine_statuses.specs.Changes.{IsWithin}
use Rattle.ci_machine_statuses.specs.HolderChanges.{unleased}
use Rattle.ci_machine_statuses.proofs.Puts.{number, attempt_id, map_same, map_twice, change_where, puts_where}
use Rattle.ci_machine_statuses.proofs.Facts.{facts_with, facts_mapped, facts_kept, in_pipeline}

-- a mark changes what was done to a job, and nothing else of it
marked_is : (act : Act) (s : State) (j : Job)
    → marked act s j ≡ record j { played = (marked act s j).played; cancelled = (marked act s j).cancelled; set_aside = (marked act s j).set_aside }
marked_is Play s j = refl
marked_is Retry s j = refl
marked_is Cancel s j = refl

-- what doesn't depend on what was done to a job
abbrev pub Unmarked : {B : Type 0} → (Job → B) → Type 0
Unmarked g = (j : Job) (played cancelled : Bool) (n : ℕ) → g (record j { played = played; cancelled = cancelled; set_aside = n }) ≡ g j

-- the leases that end are those on the jobs whose leases end
pub leases_are : (act : Act) (attempts : List Attempt) (jobs : List Job) → ended_leases act attempts jobs ≡ filter (is_lease_on (unleased act jobs)) attempts
leases_are Cancel attempts jobs = refl
leases_are _ attempts jobs = sym (filter_none (is_lease_on []) attempts (λ a h. and_right (is_live a) false refl))

none_unleased : (act : Act) (jobs : List Job) (n : ℕ) → is_job_among jobs n ≡ false → is_job_among (unleased act jobs) n ≡ false
none_unleased Cancel jobs n e = e
none_unleased _ jobs n e = refl

-- of jobs of different numbers those that pass a test have their numbers alone
among_passing : (test : Job → Bool) (j : Job) (js : List Job) → Rising (λ i. i.id) 0 js → Has j js → is_job_among (filter test js) j.id ≡ test j
among_passing test j js rise h =
    ⊎_elim
    (λ e. has_any (λ (i : Job). i.id == j.id) j (filter test js) (filter_has test j js h e) (eq-eqb j.id j.id refl) ∙ sym e)
    (λ e. ⊎_elim
    (λ t. let w = any_has (λ (i : Job). i.id == j.id) (filter test js) t in
    let v = has_filter test w.0 js w.1.0 in
    absurd (both_ways (test j) e (ap test (sym (one_at number w.0 j 0 js rise v.0 h (eqb-true w.0.id j.id w.1.1))) ∙ v.1)))
    (λ f. f ∙ sym e)
    (cases_Bool (is_job_among (filter test js) j.id)))
    (cases_Bool (test j))

-- a live attempt that is cancelled stands so, and the others as they did
stands_cancelled : (a : Attempt) (x : AttemptState) → Some (if is_live_state x then cancelled_attempt a else record a { state = x }).state ≡ cancelled_last (Some x)
stands_cancelled a AttemptState.Live = refl
stands_cancelled a _ = refl

-- where no lease ends, the facts stay
none_end : (l : List Attempt) (j : Job) → facts_with (map (change_where (is_lease_on []) cancelled_attempt) l) j ≡ facts_with l j
none_end l j =
    facts_kept (change_where (is_lease_on []) cancelled_attempt) l j
    (λ a h. ap (λ (b : Bool). (if b then cancelled_attempt a else a).state) (and_right (is_live a) false refl))

-- the facts of a job to which it was done
acted_facts : (act : Act) (s : State) (jobs : List Job) (j : Job) → is_job_among jobs j.id ≡ true
    → facts_with (map (change_where (is_lease_on (unleased act jobs)) cancelled_attempt) (attempts_of s j.id)) (marked act s j) ≡ acted act (facts_in s j)
acted_facts Play s jobs j among = none_end (attempts_of s j.id) (marked Play s j)
acted_facts Retry s jobs j among =
    let l = attempts_of s j.id in
    let none : length l - length l ≡ 0 = omega arith in
    none_end l (marked Retry s j) ∙ (λ i. record (facts_in s j) { attempts = none i; cancelled = false })
acted_facts Cancel s jobs j among =
    facts_mapped (change_where (is_lease_on jobs) cancelled_attempt) cancelled_last (attempts_of s j.id) (marked Cancel s j) refl
    (λ a h. let its : a.job ≡ j.id = eqb-true a.job j.id (has_filter (λ (b : Attempt). b.job == j.id) a s.attempts h).1 in
    let all : is_lease_on jobs a ≡ is_live a = ap (λ b. is_live a && b) (ap (is_job_among jobs) its ∙ among) ∙ and_true (is_live a) in
    ap (λ (b : Bool). Some (if b then cancelled_attempt a else a).state) all ∙ stands_cancelled a a.state)
  where
    and_true : (b : Bool) → (b && true) ≡ b
    and_true true = refl
    and_true false = refl

-- ---- the state after

module _ (s : State) (act : Act) (p : ℕ) (test : Job → Bool) (sound : Sound s) where
  abbrev pub done_to : List Job
  done_to = filter test (jobs_of s p)

  abbrev chosen : Job → Bool
  chosen j = (j.pipeline == p) && test j

  abbrev pub of_job : Job → Job
  of_job = change_where chosen (marked act s)

  abbrev pub gone : Attempt → Bool
  gone = is_lease_on (unleased act done_to)

  abbrev pub new_attempt : Attempt → Attempt
  new_attempt = change_where gone cancelled_attempt

  abbrev pub t : State
  t = record s { jobs = map of_job s.jobs; attempts = map new_attempt s.attempts }

  put_jobs : (js : List Job) (r : State) → applied (map (λ j. Put (Record.Job (marked act s j))) js) r ≡ record r { jobs = put_all job_cmp (map (marked act s) js) r.jobs }
  put_jobs [] r = refl
  put_jobs (j ∷ js) r = put_jobs js (record r { jobs = put job_cmp (marked act s j) r.jobs })

  put_attempts : (xs : List Attempt) (r : State) → applied (map (λ a. Put (Record.Attempt (cancelled_attempt a))) xs) r ≡ record r { attempts = put_all attempt_cmp (map cancelled_attempt xs) r.attempts }
  put_attempts [] r = refl
  put_attempts (a ∷ xs) r = put_attempts xs (record r { attempts = put attempt_cmp (cancelled_attempt a) r.attempts })

  chosen_are : done_to ≡ filter chosen s.jobs
  chosen_are = filter_both (λ (j : Job). j.pipeline == p) test chosen s.jobs (λ j. refl)

  pub after_is : applied (act_changes act s (filter test (jobs_of s p))) s ≡ t
  after_is =
      let ended = ended_leases act s.attempts done_to in
      let jobs_put : put_all job_cmp (map (marked act s) done_to) s.jobs ≡ map of_job s.jobs
      = ap (λ (js : List Job). put_all job_cmp (map (marked act s) js) s.jobs) chosen_are
      ∙ puts_where number (marked act s) chosen (λ j. ap number (marked_is act s j)) 0 s.jobs sound.jobs in
      let attempts_put : put_all attempt_cmp (map cancelled_attempt ended) s.attempts ≡ map new_attempt s.attempts
      = ap (λ (l : List Attempt). put_all attempt_cmp (map cancelled_attempt l) s.attempts) (leases_are act s.attempts done_to)
      ∙ puts_where attempt_id cancelled_attempt gone (λ a. refl) 0 s.attempts sound.attempts in
      applied_append (map (λ j. Put (Record.Job (marked act s j))) done_to) (map (λ a. Put (Record.Attempt (cancelled_attempt a))) ended) s
      ∙ (ap (applied (map (λ a. Put (Record.Attempt (cancelled_attempt a))) ended)) (put_jobs done_to s)
      ∙ (put_attempts ended (record s { jobs = put_all job_cmp (map (marked act s) done_to) s.jobs })
      ∙ (λ i. record s { jobs = jobs_put i; attempts = attempts_put i })))

  -- which all jobs keep
  pub keeps : {B : Type 0} (g : Job → B) → Unmarked g → (j : Job) → g (of_job j) ≡ g j
  keeps g same j =
      cond_both (chosen j) (marked act s j) j (λ (i : Job). g i ≡ g j)
      (λ _. ap g (marked_is act s j) ∙ same j (marked act s j).played (marked act s j).cancelled (marked act s j).set_aside) (λ _. refl)

  pub all_keep : {B : Type 0} (g : Job → B) → Unmarked g → (l : List Job) → map g (map of_job l) ≡ map g l
  all_keep g same l = map_twice g of_job l ∙ map_same (λ j. g (of_job j)) g l (λ j h. keeps g same j)

  pub jobs_after : (q : ℕ) → jobs_of t q ≡ map of_job (jobs_of s q)
  jobs_after q = filter-map (λ (j : Job). j.pipeline == q) of_job s.jobs (λ j h. keeps (λ i. i.pipeline == q) (λ i a b n. refl) j)

  attempts_after : (n : ℕ) → attempts_of t n ≡ map new_attempt (attempts_of s n)
  attempts_after n =
      filter-map (λ (a : Attempt). a.job == n) new_attempt s.attempts
      (λ a h. cond_both (gone a) (cancelled_attempt a) a (λ (b : Attempt). (b.job == n) ≡ (a.job == n)) (λ _. refl) (λ _. refl))

  -- the facts of a job after it
  facts_after : (j : Job) → Has j s.jobs → facts_in t (of_job j) ≡ (if chosen j then acted act (facts_in s j) else facts_in s j)
  facts_after j h =
      ap (λ (l : List Attempt). facts_with l (of_job j)) (ap (attempts_of t) (keeps number (λ i a b n. refl) j) ∙ attempts_after j.id) ∙ by (chosen j) among
    where
      among : is_job_among done_to j.id ≡ chosen j
      among = ap (λ (js : List Job). is_job_among js j.id) chosen_are ∙ among_passing chosen j s.jobs sound.jobs h

      by : (b : Bool) → is_job_among done_to j.id ≡ b
          → facts_with (map new_attempt (attempts_of s j.id)) (if b then marked act s j else j) ≡ (if b then acted act (facts_in s j) else facts_in s j)
      by true e = acted_facts act s done_to j e
      by false e =
          facts_kept new_attempt (attempts_of s j.id) j
          (λ a k. let its : a.job ≡ j.id = eqb-true a.job j.id (has_filter (λ (b : Attempt). b.job == j.id) a s.attempts k).1 in
          ap (λ (b : Attempt). b.state) (cond-false (gone a) (cancelled_attempt a) a
          (and_right (is_live a) (is_job_among (unleased act done_to) a.job) (ap (is_job_among (unleased act done_to)) its ∙ none_unleased act done_to j.id e))))

  -- one of another pipeline is none of them
  pub outside : (j : Job) → (p ≡ j.pipeline → ⊥) → (j.pipeline == p && test j) ≡ false
  outside j d = ap (λ b. b && test j) (ne_eqb j.pipeline p (λ e. d (sym e)))

  mapped_facts : (q : ℕ) → facts_of t q ≡ map (λ j. if chosen j then acted act (facts_in s j) else facts_in s j) (jobs_of s q)
  mapped_facts q =
      ap (map (facts_in t)) (jobs_after q)
      ∙ (map_twice (facts_in t) of_job (jobs_of s q)
      ∙ map_same (λ j. facts_in t (of_job j)) (λ j. if chosen j then acted act (facts_in s j) else facts_in s j) (jobs_of s q) (λ j h. facts_after j (in_pipeline s q j h).0))

  pub its_facts : facts_of t p ≡ facts_acted act s p test
  its_facts =
      mapped_facts p
      ∙ map_same (λ j. if chosen j then acted act (facts_in s j) else facts_in s j) (λ j. if test j then acted act (facts_in s j) else facts_in s j) (jobs_of s p)
      (λ j k. ap (λ (b : Bool). if b && test j then acted act (facts_in s j) else facts_in s j) (has_filter (λ (i : Job). i.pipeline == p) j s.jobs k).1)

  pub within : IsWithin s t p
  within = record {
    numbers = all_keep number (λ i a b n. refl) s.jobs;
    its_numbers = numbers;
    graphs = λ q i. record { parts = parts q i; predecessors = predecessors_by (pairs_among (numbers q i) s.needs) (longs q i); successors = []; order = []; meter = 0 };
    facts = λ q d. mapped_facts q
        ∙ map_same (λ j. if chosen j then acted act (facts_in s j) else facts_in s j) (facts_in s) (jobs_of s q)
        (λ j k. cond-false (chosen j) (acted act (facts_in s j)) (facts_in s j) (outside j (λ e. d (e ∙ (in_pipeline s q j k).1))));
  }
    where
      numbers : (q : ℕ) → numbers_of t q ≡ numbers_of s q
      numbers q = ap (map number) (jobs_after q) ∙ all_keep number (λ i a b n. refl) (jobs_of s q)

      longs : (q : ℕ) → length (jobs_of t q) ≡ length (jobs_of s q)
      longs q = ap length (jobs_after q) ∙ length-map (jobs_of s q) of_job

      parts : (q : ℕ) → map (λ (j : Job). j.options.part) (jobs_of t q) ≡ map (λ (j : Job). j.options.part) (jobs_of s q)
      parts q = ap (map (λ (j : Job). j.options.part)) (jobs_after q) ∙ all_keep (λ (j : Job). j.options.part) (λ i a b n. refl) (jobs_of s q)
