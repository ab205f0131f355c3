-- Attempts in every state that a history leads to: which are live, and how each was granted.
use Rattle.ci_machine_laws.proofs.Prelude.{has_all, rules, ◌≡◌, ◌⊎◌, ℕ, ◌+◌, ◌<◌, ◌≤◌, true, false, ◌==◌, ◌&&◌, List, [], ◌∷◌, filter, Some, None, refl, sym, ap, subst, ◌∙◌}
use Rattle.ci_machine_laws.proofs.Prelude.{⊎_elim, arith, eqb-true, eq-eqb, cond-true, cond-false, and_parts, put_all, Has, Rising, has_put, rising_put, rising_filter}
use Rattle.ci_machine_laws.proofs.Prelude.{has_filter, filter_has, last_greatest, count_one}
use Rattle.ci_machine_steps.specs.Prelude.{attempt_for_good, Runner, Job, Attempt, Event, AskJob, State, attempt_cmp, put, attempts_of, is_live, last_attempt, Past, grants}
use Rattle.ci_machine_steps.specs.Prelude.{IsLeastEligible, OneLease, RowChange}
use Rattle.std.proofs.lemmas.Bool.{ne_eqb}
use Rattle.ci_machine_laws.proofs.Acts.{IsAct}

-- just one line granted the attempt, to the least eligible job: as the law says, but for how the job came into its pipeline
pub record WasGiven (h : List Past) (a : Attempt) : Type 0 where
  pub line : Past
  pub once : filter (grants a.id) h ≡ line ∷ []
  pub runner : Runner
  pub job : Job
  pub its_runner : runner.id ≡ a.runner
  pub its_job : job.id ≡ a.job
  pub eligible : IsLeastEligible line.before runner job
  pub asked : line.event ≡ Event.Request (AskJob runner.token)

-- what the attempts are, besides their traces
pub record Grants (h : List Past) (s : State) : Type 0 where
  pub jobs_rise : Rising (λ (j : Job). j.id) 0 s.jobs
  pub rise : Rising (λ (a : Attempt). a.id) 0 s.attempts
  pub below : (a : Attempt) → Has a s.attempts → a.id < s.next.attempt
  -- a live attempt is the last of its job
  pub is_last : (a b : Attempt) → Has a s.attempts → Has b s.attempts → is_live a ≡ true → a.job ≡ b.job → b.id ≤ a.id
  pub granted : (a : Attempt) → Has a s.attempts → WasGiven h a
  -- no line grants a number that is still to come
  pub fresh : (n : ℕ) → s.next.attempt ≤ n → filter (grants n) h ≡ []

-- so each job has at most one live attempt
pub one_lease : (h : List Past) (s : State) → Grants h s → OneLease s
one_lease h s i job = count_one (λ a. a.id) (λ a. is_live a && (a.job == job)) 0 s.attempts i.rise (λ a b k l p q.
    let x = and_parts (is_live a) (a.job == job) p in
    let y = and_parts (is_live b) (b.job == job) q in
    let same : a.job ≡ b.job = eqb-true a.job job x.1 ∙ sym (eqb-true b.job job y.1) in
    omega (arith, i.is_last a b k l x.0 same, i.is_last b a l k y.0 (sym same)))

-- and a live attempt stands last among those of its job
pub live_last : (h : List Past) (s : State) → Grants h s → (a : Attempt) → Has a s.attempts → is_live a ≡ true → last_attempt s a.job ≡ Some a
live_last h s i a k live =
    let its = λ (b : Attempt). b.job == a.job in
    last_greatest (λ (b : Attempt). b.id) a None 0 (attempts_of s a.job) (rising_filter (λ (b : Attempt). b.id) its 0 s.attempts i.rise) (filter_has its a s.attempts k (eq-eqb a.job a.job refl))
    (λ b m. let w = has_filter its b s.attempts m in i.is_last a b k w.0 live (sym (eqb-true b.job a.job w.1)))

-- a line that grants another number, where the attempt has its number, job and runner still
longer : (p : Past) (h : List Past) (a b : Attempt) → grants b.id p ≡ false → a.id ≡ b.id → a.job ≡ b.job → a.runner ≡ b.runner → WasGiven h a → WasGiven (p ∷ h) b
longer p h a b isnt same_id same_job same_runner w =
    let once : filter (grants b.id) (p ∷ h) ≡ w.line ∷ []
    = cond-false (grants b.id p) (p ∷ filter (grants b.id) h) (filter (grants b.id) h) isnt ∙ subst (λ n. filter (grants n) h ≡ w.line ∷ []) same_id w.once in
    let its_runner = w.its_runner ∙ same_runner in
    let its_job = w.its_job ∙ same_job in
    search rules

-- the attempt was there, with what it has for good, and was live if it is
pub record Stood (s : State) (b : Attempt) : Type 0 where
  pub old : Attempt
  pub has : Has old s.attempts
  pub good : attempt_for_good old ≡ attempt_for_good b
  pub live : is_live b ≡ true → is_live old ≡ true

pub id_stood : (s : State) (b : Attempt) (w : Stood s b) → w.old.id ≡ b.id
id_stood s b w = ap (λ (c : Attempt). c.id) w.good

pub job_stood : (s : State) (b : Attempt) (w : Stood s b) → w.old.job ≡ b.job
job_stood s b w = ap (λ (c : Attempt). c.job) w.good

pub stood_self : (s : State) (b : Attempt) → Has b s.attempts → Stood s b
stood_self s b k = record { old = b; has = k; good = refl; live = λ l. l }

-- x in place of an attempt that is the same for good
pub stood_put : (s : State) (x a : Attempt) → Has a s.attempts → attempt_for_good x ≡ attempt_for_good a → is_live a ≡ true → (b : Attempt) → Has b (put attempt_cmp x s.attempts) → Stood s b
stood_put s x a has good live b k = ⊎_elim (λ e. record { old = a; has = has; good = sym (ap attempt_for_good e ∙ good); live = λ _. live }) (stood_self s b) (has_put attempt_cmp x b s.attempts k)

-- what an act leaves
pub stood_act : (s : State) (changes : List RowChange) (act : IsAct s changes) (b : Attempt) → Has b (put_all attempt_cmp act.attempts s.attempts) → Stood s b
stood_act s changes act b k =
    ⊎_elim (stood_self s b) (λ m. let w = act.each_attempt b m in record { old = w.old; has = w.has; good = sym (ap attempt_for_good w.is); live = λ _. w.live }) (has_all attempt_cmp act.attempts s.attempts b k)

-- a step with no attempts but those that were there
pub stand : (h : List Past) (s t : State) (p : Past) → Grants h s → ((n : ℕ) → grants n p ≡ false) → ((b : Attempt) → Has b t.attempts → Stood s b)
    → Rising (λ (b : Attempt). b.id) 0 t.attempts → t.next.attempt ≡ s.next.attempt → Rising (λ (j : Job). j.id) 0 t.jobs → Grants (p ∷ h) t
stand h s t p i isnt stood rise f r = record {
  jobs_rise = r;
  rise = rise;
  below = λ b k. let w = stood b k in subst (λ n. n < t.next.attempt) (id_stood s b w) (subst (λ n. w.old.id < n) (sym f) (i.below w.old w.has));
  is_last = λ b c k l lv j.
      let v = stood b k in
      let w = stood c l in
      subst (λ n. n ≤ b.id) (id_stood s c w) (subst (λ n. w.old.id ≤ n) (id_stood s b v) (i.is_last v.old w.old v.has w.has (v.live lv) (job_stood s b v ∙ (j ∙ sym (job_stood s c w)))));
  granted = λ b k. let w = stood b k in longer p h w.old b (isnt b.id) (id_stood s b w) (job_stood s b w) (ap (λ (c : Attempt). c.runner) w.good) (i.granted w.old w.has);
  fresh = λ n l. cond-false (grants n p) (p ∷ filter (grants n) h) (filter (grants n) h) (isnt n) ∙ i.fresh n (subst (λ m. m ≤ n) f l);
}

-- a step that grants the next number, where its job has no live attempt
pub gives : (h : List Past) (s t : State) (p : Past) (x : Attempt) → Grants h s → x.id ≡ s.next.attempt
    → ((a : Attempt) → Has a s.attempts → is_live a ≡ true → a.job ≡ x.job → ⊥)
    → ((n : ℕ) → grants n p ≡ (x.id == n))
    → (runner : Runner) (job : Job) → runner.id ≡ x.runner → job.id ≡ x.job → IsLeastEligible p.before runner job
    → p.event ≡ Event.Request (AskJob runner.token) → t.attempts ≡ put attempt_cmp x s.attempts → t.next.attempt ≡ s.next.attempt + 1 → t.jobs ≡ s.jobs → Grants (p ∷ h) t
gives h s t p x i at_next free grant_of runner job its_runner its_job eligible asked e f r =
    let cases : (b : Attempt) → Has b t.attempts → (b ≡ x) ⊎ Has b s.attempts = λ b k. has_put attempt_cmp x b s.attempts (subst (Has b) e k) in
    record {
      jobs_rise = subst (λ l. Rising (λ (j : Job). j.id) 0 l) (sym r) i.jobs_rise;
      rise = subst (λ l. Rising (λ (b : Attempt). b.id) 0 l) (sym e) (rising_put (λ (b : Attempt). b.id) x 0 s.attempts i.rise (omega arith));
      below = λ b k. ⊎_elim (λ q. let m : b.id ≡ x.id = ap (λ (c : Attempt). c.id) q in omega arith) (λ m. let z : b.id < s.next.attempt = i.below b m in omega arith) (cases b k);
      is_last = λ b c k l lv j.
          ⊎_elim
          (λ q. let bi : b.id ≡ x.id = ap (λ (w : Attempt). w.id) q in
          ⊎_elim (λ u. let ci : c.id ≡ x.id = ap (λ (w : Attempt). w.id) u in omega arith)
          (λ m. let z : c.id < s.next.attempt = i.below c m in omega arith) (cases c l))
          (λ m. ⊎_elim (λ u. absurd (free b m lv (j ∙ ap (λ (w : Attempt). w.job) u)))
          (λ w. i.is_last b c m w lv j) (cases c l))
          (cases b k);
      granted = λ b k. ⊎_elim
          (λ q. subst (WasGiven (p ∷ h)) (sym q) (
          let once : filter (grants x.id) (p ∷ h) ≡ p ∷ []
          = cond-true (grants x.id p) (p ∷ filter (grants x.id) h) (filter (grants x.id) h) (grant_of x.id ∙ eq-eqb x.id x.id refl) ∙ ap (λ l. p ∷ l) (i.fresh x.id (omega arith)) in
          search rules))
          (λ m. longer p h b b (grant_of b.id ∙ ne_eqb x.id b.id (λ u. let z : b.id < s.next.attempt = i.below b m in absurd (omega arith))) refl refl refl (i.granted b m))
          (cases b k);
      fresh = λ n l. let m : s.next.attempt + 1 ≤ n = subst (λ w. w ≤ n) f l in
          cond-false (grants n p) (p ∷ filter (grants n) h) (filter (grants n) h) (grant_of n ∙ ne_eqb x.id n (λ u. absurd (omega arith)))
          ∙ i.fresh n (let z : s.next.attempt ≤ n = omega arith in z);
    }
