-- Each resource group of a project is held by at most one live attempt, in every state that a history leads to.
use Rattle.ci_machine_laws.proofs.Prelude.{◌≡◌, ◌⊎◌, ℕ, ◌==◌, ◌&&◌, ◌||◌, not, Bool, true, false, List, [], ◌∷◌, map, Option, Some, None, option_map, refl, sym, ap, subst, ◌∙◌}
use Rattle.ci_machine_laws.proofs.Prelude.{inl, inr, ⊎_elim, eqb-true, ne_eqb, list_any, bytes_eq, both_ways, false≢true, and_parts, bytes_eq-Decides, not_true, Has, Rising}
use Rattle.ci_machine_laws.proofs.Prelude.{has_put, filter_has, find_has, count_one, Named, rising_filter, has_any, any_joined, find_implied, job_left, attempt_was}
use Rattle.ci_machine_steps.specs.Prelude.{BoardRow, Holder, Pipeline, Job, Attempt, QueuedJob, Event, State, applied, attempt_cmp, jobs_of, is_live, holds, is_free, held_claim}
use Rattle.ci_machine_steps.specs.Prelude.{groups_in, is_job_among, without_pipeline, queued_at, group_held, held_by, held_of, holders, is_in_group, job_at, pipeline_at}
use Rattle.ci_machine_steps.specs.Prelude.{project_or_none, queued, live_attempts, Past, Leads, job_for_good, OneLeaseInGroup}
use Rattle.ci_machine.proofs.Claims.{free_held, free_not_held}
use Rattle.ci_machine_laws.proofs.Grants.{Stood, id_stood, job_stood, stood_self, stood_put, stood_act}
use Rattle.ci_machine_laws.proofs.EachNext.{EachNext, next_is}
use Rattle.ci_machine_laws.proofs.Reached.{reached}
use Rattle.ci_machine_laws.proofs.Linked.{Later, later, Linked, linked_on, follows}
use Rattle.ci_machine_laws.proofs.Left.{other_pipeline}
use Rattle.ci_machine_laws.proofs.Held.{held}

abbrev job_id : Job → ℕ
job_id j = j.id

pub only_one : (b : Bool) → (b || false) ≡ true → b ≡ true
only_one true e = refl
only_one false e = absurd (false≢true e)

-- ---- what is free isn't held

-- what an attempt of a job would hold whose group is free, none holds
free_none : (hs : List Holder) (n project : ℕ) (group : Option (List ℕ)) → is_free (map held_claim hs) project group ≡ true → (p : ℕ) (g : List ℕ) → list_any (holds p g) (group_held n project group) ≡ true → list_any (holds p g) hs ≡ false
free_none hs n project None free p g e = absurd (false≢true e)
free_none hs n project (Some group) free p g e =
    let both = and_parts (project == p) (bytes_eq group g) (only_one ((project == p) && bytes_eq group g) e) in
    let same_project : project ≡ p = eqb-true project p both.0 in
    let same_group : group ≡ g = (bytes_eq-Decides group g).0 both.1 in
    subst (λ m. list_any (holds m g) hs ≡ false) same_project (subst (λ (w : List ℕ). list_any (holds project w) hs ≡ false) same_group (not_true (list_any (holds project group) hs) (sym (free_held hs project group) ∙ free)))

-- what a live attempt is in, is held
in_holders : (s : State) (a : Attempt) → Has a s.attempts → is_live a ≡ true → (p : ℕ) (g : List ℕ) → is_in_group s p g a ≡ true → list_any (holds p g) (holders s) ≡ true
in_holders s a k live p g e = sym (any_joined (holds p g) (held_of s) (live_attempts s)) ∙ has_any (λ b. list_any (holds p g) (held_of s b)) a (live_attempts s) (filter_has is_live a s.attempts k live) e

-- ---- a job is found as it was

pub job_found : (s : State) (j : Job) (n : ℕ) → Rising job_id 0 s.jobs → Has j s.jobs → j.id ≡ n → job_at s n ≡ Some j
job_found s j n r k e = subst (λ m. job_at s m ≡ Some j) e (find_has job_id j 0 s.jobs r k)

pub pipeline_found : (s : State) (p : Pipeline) (n : ℕ) → Rising (λ (q : Pipeline). q.id) 0 s.pipelines → Has p s.pipelines → p.id ≡ n → pipeline_at s n ≡ Some p
pipeline_found s p n r k e = subst (λ m. pipeline_at s m ≡ Some p) e (find_has (λ (q : Pipeline). q.id) p 0 s.pipelines r k)

module _ (s t : State) (linked : Linked s) (next : Linked t) (later : Later s t) (jr : Rising job_id 0 s.jobs) (kr : Rising job_id 0 t.jobs) where
  same_held : (n job : ℕ) → Named job_id job s.jobs → held_by n (queued_at t job) ≡ held_by n (queued_at s job)
  same_held n job w =
      let j = w.0 in
      let k = later.jobs j w.1.0 in
      let i = k.0 in
      let good : job_for_good i ≡ job_for_good j = k.1.1 in
      let p = linked.job_pipeline j w.1.0 in
      let q = later.pipelines p.0 p.1.0 in
      let was : pipeline_at s j.pipeline ≡ Some p.0 = pipeline_found s p.0 j.pipeline linked.pipelines_rise p.1.0 p.1.1 in
      let is : pipeline_at t j.pipeline ≡ Some p.0 = pipeline_found t p.0 j.pipeline next.pipelines_rise (subst (λ (v : Pipeline). Has v t.pipelines) q.1.1 q.1.0) p.1.1 in
      ap (λ (o : Option Job). held_by n (option_map (queued t) o)) (job_found t i job kr k.1.0 (ap job_id good ∙ w.1.1))
      ∙ (ap (λ (v : Job). group_held n (project_or_none (pipeline_at t v.pipeline)) v.options.resource_group) good
      ∙ (ap (λ (o : Option Pipeline). group_held n (project_or_none o) j.options.resource_group) (is ∙ sym was)
      ∙ sym (ap (λ (o : Option Job). held_by n (option_map (queued s) o)) (job_found s j job jr w.1.0 w.1.1))))

-- ---- what a step leaves of the attempts

-- the attempt is a new one, of a job whose group is free
record IsNew (s : State) (b : Attempt) : Type 0 where
  job : Job
  has : Has job s.jobs
  its : job.id ≡ b.job
  free : is_free (map held_claim (holders s)) (queued s job).project job.options.resource_group ≡ true
  id : b.id ≡ s.next.attempt

abbrev Come : State → State → Type 0
Come s t = (b : Attempt) → Has b t.attempts → Stood s b ⊎ IsNew s b

comes : (s : State) (board : List BoardRow) (e : Event) → Rising job_id 0 s.jobs → Rising (λ (a : Attempt). a.id) 0 s.attempts → EachNext s board e (λ _ t. Come s t)
comes s board e jobs_rise rise = record {
  stays = λ _ _. same;
  aside = λ _ _ t by. same;
  pipeline = λ new now is project text laid claims rows asked has named file lays fits. same;
  granted = λ token is runner job q variables now seed found offered has_runner has_job pending is_queued free b k. ⊎_elim
      (λ e. inr (record {
        job = job;
        has = has_job;
        its = ap (λ w. w.job.id) is_queued ∙ sym (ap (λ (c : Attempt). c.job) e);
        free = subst (λ (w : QueuedJob). is_free (map held_claim (holders s)) w.project w.job.options.resource_group ≡ true) (sym is_queued)
            (free_not_held (groups_in s board) q.job.pipeline q.project q.job.options.resource_group free);
        id = ap (λ (c : Attempt). c.id) e;
      }))
      (λ m. inl (stood_self s b m)) (has_put attempt_cmp _ b s.attempts k);
  alters = λ _ _ old seen state has live b k. inl (stood_put s _ old has refl live b k);
  grown = λ part is old now size has its live b k. inl (stood_put s _ old has refl live b k);
  acted = λ _ _ changes act b k. inl (stood_act s changes act b k);
  pruned = λ p before is found b k. inl (stood_self s b (attempt_was s p.id jobs_rise rise b k).0);
} where
  same : Come s s
  same b k = inl (stood_self s b k)

-- ---- every state that a history leads to

-- live attempts that hold one group of a project are one
abbrev pub Apart : State → Type 0
Apart s =
    (a b : Attempt) → Has a s.attempts → Has b s.attempts → is_live a ≡ true → is_live b ≡ true → (p : ℕ) (g : List ℕ) → is_in_group s p g a ≡ true → is_in_group s p g b ≡ true → a.id ≡ b.id

module _ (s t : State) (linked : Linked s) (next : Linked t) (later : Later s t) (jr : Rising job_id 0 s.jobs) (kr : Rising job_id 0 t.jobs) (i : Apart s) where
  -- what stood was in the group
  was_in : (b : Attempt) (w : Stood s b) (p : ℕ) (g : List ℕ) → is_in_group t p g b ≡ true → is_in_group s p g w.old ≡ true
  was_in b w p g e =
      let named : Named job_id b.job s.jobs = subst (λ n. Named job_id n s.jobs) (job_stood s b w) (linked.attempt_job w.old w.has) in
      let same : held_of s w.old ≡ held_of t b = (λ k. held_by (id_stood s b w k) (queued_at s (job_stood s b w k))) ∙ sym (same_held s t linked next later jr kr b.id b.job named) in
      ap (list_any (holds p g)) same ∙ e

  -- what is new is in no group that was held
  new_in : (b : Attempt) → IsNew s b → (p : ℕ) (g : List ℕ) → is_in_group t p g b ≡ true → list_any (holds p g) (holders s) ≡ false
  new_in b w p g e =
      let same : held_of t b ≡ held_by b.id (Some (queued s w.job))
      = same_held s t linked next later jr kr b.id b.job (w.job, (w.has, w.its)) ∙ ap (λ (o : Option Job). held_by b.id (option_map (queued s) o)) (job_found s w.job b.job jr w.has w.its) in
      free_none (holders s) b.id (queued s w.job).project w.job.options.resource_group w.free p g (sym (ap (list_any (holds p g)) same) ∙ e)

  apart_on : Come s t → Apart t
  apart_on come a b k l live lives p g e f =
      ⊎_elim
      (λ v. let old = was_in a v p g e in
      ⊎_elim
      (λ w. sym (id_stood s a v) ∙ (i v.old w.old v.has w.has (v.live live) (w.live lives) p g old (was_in b w p g f) ∙ id_stood s b w))
      (λ n. absurd (both_ways (list_any (holds p g) (holders s)) (new_in b n p g f) (in_holders s v.old v.has (v.live live) p g old)))
      (come b l))
      (λ n. ⊎_elim
      (λ w. absurd (both_ways (list_any (holds p g) (holders s)) (new_in a n p g e) (in_holders s w.old w.has (w.live lives) p g (was_in b w p g f))))
      (λ m. n.id ∙ sym m.id)
      (come b l))
      (come a k)

-- without a pipeline, each attempt that is left holds what it held
module _ (s : State) (n : ℕ) (attempt_job : (a : Attempt) → Has a s.attempts → Named job_id a.job s.jobs) (jr : Rising job_id 0 s.jobs) (ar : Rising (λ (a : Attempt). a.id) 0 s.attempts) where
  pub held_left : (b : Attempt) → Has b (without_pipeline s n).attempts → held_of (without_pipeline s n) b ≡ held_of s b
  held_left b k =
      let t = without_pipeline s n in
      let was = attempt_was s n jr ar b k in
      let w = attempt_job b was.0 in
      let j = w.0 in
      let other : j.pipeline ≡ n → ⊥ = other_pipeline s n jr ar j w.1.0 (subst (λ m. is_job_among (jobs_of s n) m ≡ false) (sym w.1.1) was.1) in
      let its : pipeline_at t j.pipeline ≡ pipeline_at s j.pipeline = find_implied (λ (p : Pipeline). p.id == j.pipeline) (λ p. not (p.id == n)) s.pipelines
      (λ p m e. ap not (ne_eqb p.id n (λ f. other (sym (eqb-true p.id j.pipeline e) ∙ f)))) in
      ap (λ (o : Option Job). held_by b.id (option_map (queued t) o)) (job_found t j b.job (rising_filter job_id (λ (v : Job). not (v.pipeline == n)) 0 s.jobs jr) (job_left s n jr ar j w.1.0 other) w.1.1)
      ∙ (ap (λ (o : Option Pipeline). group_held b.id (project_or_none o) j.options.resource_group) its
      ∙ sym (ap (λ (o : Option Job). held_by b.id (option_map (queued s) o)) (job_found s j b.job jr w.1.0 w.1.1)))

  apart_left : Apart s → Apart (without_pipeline s n)
  apart_left i a b k l live lives p g e f =
      i a b (attempt_was s n jr ar a k).0 (attempt_was s n jr ar b l).0 live lives p g
      (ap (list_any (holds p g)) (sym (held_left a k)) ∙ e) (ap (list_any (holds p g)) (sym (held_left b l)) ∙ f)

apart : (h : List Past) (s : State) → Leads h s → Apart s
apart [] s l = subst Apart (sym l) (λ a b k. absurd k)
apart (p ∷ h) s l =
    let g = (reached h p.before l.0).grants in
    let was = (held h p.before l.0).linked in
    let t = applied l.1.changes p.before in
    let kr : Rising job_id 0 t.jobs = subst (λ (w : State). Rising job_id 0 w.jobs) l.1.state (reached (p ∷ h) s l).grants.jobs_rise in
    subst Apart (sym l.1.state) (⊎_elim
    (λ n. apart_on p.before t was (linked_on p.before t was n) (later p.before t n) g.jobs_rise kr (apart h p.before l.0)
    (next_is p.before l.1.before g.jobs_rise g.rise (λ _ w. Come p.before w) p.event p.now p.seed p.answer l.1.changes (comes p.before l.1.before p.event g.jobs_rise g.rise) l.1.happens))
    (λ w. subst Apart (sym w.state) (apart_left p.before w.pipeline.id was.attempt_job g.jobs_rise g.rise (apart h p.before l.0)))
    (follows p.before l.1.before p.event p.now p.seed p.answer l.1.changes was g.jobs_rise g.rise g.below l.1.happens))

pub one_in_group : (h : List Past) (s : State) → Leads h s → OneLeaseInGroup s
one_in_group h s l p g = count_one (λ a. a.id) (λ a. is_live a && is_in_group s p g a) 0 s.attempts (reached h s l).grants.rise (λ a b k m e f.
    let x = and_parts (is_live a) (is_in_group s p g a) e in
    let y = and_parts (is_live b) (is_in_group s p g b) f in
    apart h s l a b k m x.0 y.0 p g x.1 y.1)
