-- What holds of the numbers of each reached state, in the words of these proofs.
use Rattle.std.proofs.Common.{◌≡◌, ℕ, ◌+◌, ◌<◌, ◌≤◌, true, ◌==◌, List, [], ◌∷◌, length, map, Option, Some, None, All, Contains, nat_cmp, is_lt, Less, refl, sym, ap, inl, ⊎_elim}
use Rattle.std.proofs.Common.{arith, lt-ltb, eq-eqb}
use Rattle.std.specs.List.{last_or, AllByRecursion}
use Rattle.std.specs.List.Sorted.{IsStrictlySortedBy}
use Rattle.std.proofs.lemmas.Bool.{cond-true}
use Rattle.ci_machine_steps.specs.Prelude.{Pipeline, Job, Need, Attempt, State, attempts_of, is_live, last_attempt, IsSound}
use Rattle.ci_machine.proofs.Keyed.{Has, Rising, Below, Named, less, rising_filter, filter_has, has_from_all, named_contains}

-- ---- ascending and rising

nat_less : (a b : ℕ) → a < b → nat_cmp a b ≡ Less
nat_less a b l = cond-true _ _ _ (lt-ltb a b l)

above : {A : Type 0} (id : A → ℕ) (x : A) (low : ℕ) (xs : List A) → id x < low → Rising id low xs → AllByRecursion (λ n. nat_cmp (id x) n ≡ Less) (map id xs)
above id x low [] l r = tt
above id x low (y ∷ ys) l r = (nat_less (id x) (id y) (omega (arith, r.0)), above id x (id y + 1) ys (omega (arith, r.0)) r.1)

pub ascend_from_rising : {A : Type 0} (id : A → ℕ) (low : ℕ) (xs : List A) → Rising id low xs → IsStrictlySortedBy nat_cmp (map id xs)
unfolding IsStrictlySortedBy
ascend_from_rising id low [] r = tt
ascend_from_rising id low (x ∷ xs) r = (above id x (id x + 1) xs (omega arith) r.1, ascend_from_rising id (id x + 1) xs r.1)

rising_after : {A : Type 0} (id : A → ℕ) (x : A) (xs : List A) → AllByRecursion (λ n. nat_cmp (id x) n ≡ Less) (map id xs) → Rising id 0 xs → Rising id (id x + 1) xs
rising_after id x [] above r = tt
rising_after id x (y ∷ ys) above r = (let l : id x < id y = less (id x) (id y) (ap is_lt above.0) in omega arith, r.1)

pub rising_from_ascend : {A : Type 0} (id : A → ℕ) (xs : List A) → IsStrictlySortedBy nat_cmp (map id xs) → Rising id 0 xs
unfolding IsStrictlySortedBy
rising_from_ascend id [] a = tt
rising_from_ascend id (x ∷ xs) a = (omega arith, rising_after id x xs a.0 (rising_from_ascend id xs a.1))

-- ---- the last

-- the last of a rising list is one of the greatest number
pub last_above : {A : Type 0} (id : A → ℕ) (a b : A) (low : ℕ) (xs : List A) (o : Option A) → Rising id low xs → last_or o xs ≡ Some a → Has b xs → id b ≤ id a
last_above id a b low [] o r last k = absurd k
last_above id a b low (x ∷ []) o r last k = ⊎_elim (λ e. let same : x ≡ a = cc in let f : id b ≡ id x = ap id e in let g : id x ≡ id a = ap id same in omega arith) (λ m. absurd m) k
last_above id a b low (x ∷ (y ∷ ys)) o r last k =
    let rest : (c : _) → Has c (y ∷ ys) → id c ≤ id a = λ c m. last_above id a c (id x + 1) (y ∷ ys) (Some x) r.1 last m in
    ⊎_elim (λ e. let f : id b ≡ id x = ap id e in let g : id y ≤ id a = rest y (inl refl) in let h : id x + 1 ≤ id y = r.1.0 in omega arith) (λ m. rest b m) k

-- ---- a sound state

pub record Sound (s : State) : Type 0 where
  pub pipelines : Rising (λ (p : Pipeline). p.id) 0 s.pipelines
  pub jobs : Rising (λ (j : Job). j.id) 0 s.jobs
  pub attempts : Rising (λ (a : Attempt). a.id) 0 s.attempts
  pub pipeline_below : Below (λ (p : Pipeline). p.id) s.next.pipeline s.pipelines
  pub positive : (j : Job) → Has j s.jobs → 0 < j.id
  pub in_turn : (a b : Job) → Has a s.jobs → Has b s.jobs → a.pipeline < b.pipeline → a.id < b.id
  pub job_below : Below (λ (j : Job). j.id) s.next.job s.jobs
  pub below : Below (λ (a : Attempt). a.id) s.next.attempt s.attempts
  pub job_pipeline : (j : Job) → Has j s.jobs → Named (λ (p : Pipeline). p.id) j.pipeline s.pipelines
  pub attempt_job : (a : Attempt) → Has a s.attempts → Named (λ (j : Job). j.id) a.job s.jobs
  pub need_job : (w : Need) → Has w s.needs → Named (λ (j : Job). j.id) w.job s.jobs
  pub need_pred : (w : Need) → Has w s.needs → Named (λ (j : Job). j.id) w.pred s.jobs
  pub aside : (j : Job) → Has j s.jobs → j.set_aside ≤ length (attempts_of s j.id)
  pub live_last : (a : Attempt) → Has a s.attempts → is_live a ≡ true → last_attempt s a.job ≡ Some a
  -- so no attempt of its job comes after a live one
  pub is_last : (a b : Attempt) → Has a s.attempts → Has b s.attempts → is_live a ≡ true → a.job ≡ b.job → b.id ≤ a.id

pub sound : (s : State) → IsSound s → Sound s
sound s i =
    let rise = rising_from_ascend (λ (a : Attempt). a.id) s.attempts i.attempts_ascend in
    let live_last : (a : Attempt) → Has a s.attempts → is_live a ≡ true → last_attempt s a.job ≡ Some a
    = λ a k. has_from_all (λ (b : Attempt). is_live b ≡ true → last_attempt s b.job ≡ Some b) a s.attempts i.live_is_last k in
    record {
      pipelines = rising_from_ascend (λ (p : Pipeline). p.id) s.pipelines i.pipelines_ascend;
      jobs = rising_from_ascend (λ (j : Job). j.id) s.jobs i.jobs_ascend;
      attempts = rise;
      pipeline_below = λ p. has_from_all (λ (q : Pipeline). q.id < s.next.pipeline) p s.pipelines i.pipelines_below;
      positive = λ j. has_from_all (λ (w : Job). 0 < w.id) j s.jobs i.jobs_positive;
      in_turn = λ a b k l. has_from_all (λ (w : Job). a.pipeline < w.pipeline → a.id < w.id) b s.jobs (has_from_all (λ (v : Job). All (λ w. v.pipeline < w.pipeline → v.id < w.id) s.jobs) a s.jobs i.jobs_in_turn k) l;
      job_below = λ j. has_from_all (λ (w : Job). w.id < s.next.job) j s.jobs i.jobs_below;
      below = λ a. has_from_all (λ (b : Attempt). b.id < s.next.attempt) a s.attempts i.attempts_below;
      job_pipeline = λ j k. named_contains (λ (p : Pipeline). p.id) j.pipeline s.pipelines (has_from_all (λ (w : Job). Contains (map (λ (p : Pipeline). p.id) s.pipelines) w.pipeline) j s.jobs i.linked.job_pipeline k);
      attempt_job = λ a k. named_contains (λ (j : Job). j.id) a.job s.jobs (has_from_all (λ (b : Attempt). Contains (map (λ (j : Job). j.id) s.jobs) b.job) a s.attempts i.linked.attempt_job k);
      need_job = λ w k. named_contains (λ (j : Job). j.id) w.job s.jobs (has_from_all (λ (n : Need). Contains (map (λ (j : Job). j.id) s.jobs) n.job) w s.needs i.linked.need_job k);
      need_pred = λ w k. named_contains (λ (j : Job). j.id) w.pred s.jobs (has_from_all (λ (n : Need). Contains (map (λ (j : Job). j.id) s.jobs) n.pred) w s.needs i.linked.need_pred k);
      aside = λ j. has_from_all (λ (w : Job). w.set_aside ≤ length (attempts_of s w.id)) j s.jobs i.set_aside;
      live_last = live_last;
      is_last = λ a b k l live same.
          let its = λ (c : Attempt). c.job == a.job in
          last_above (λ (c : Attempt). c.id) a b 0 (attempts_of s a.job) None (rising_filter (λ (c : Attempt). c.id) its 0 s.attempts rise) (live_last a k live) (filter_has its b s.attempts l (eq-eqb b.job a.job (sym same)));
    }
