-- What has ended stays as it ended or went with its pipeline, and then for good, in every state that a history leads to.
use Rattle.ci_machine_laws.proofs.Prelude.{◌≡◌, ℕ, true, ◌==◌, List, [], ◌∷◌, Contains, refl, sym, subst, inl, eqb-true, Contains-append_right, Has, has_filter}
use Rattle.ci_machine_laws.proofs.Prelude.{contains_from_has, any_has, ◌⊎◌, ◌<◌, ◌≤◌, Bool, false, Result, Ok, Err, ap, ◌∙◌, inr, ⊎_elim, arith, both_ways, put_has, unequal}
use Rattle.ci_machine_steps.specs.Prelude.{Pipeline, Job, Attempt, PruneOne, Event, Answer, State, jobs_of, is_job_among, pruned_reply, without_pipeline, Past, Prunes, WasPruned}
use Rattle.ci_machine_steps.specs.Prelude.{WentWithItsJob, AttemptState, Live, is_live_state, LeaseFault, PieceFault, is_live, while_leased, renewed, if_leased, attempt_cmp, put}
use Rattle.ci_machine_laws.proofs.Traces.{Was, IsNew, same}

-- the step was a request to prune, and this pipeline went
pub record IsPruned (s : State) (e : Event) (a : Answer) (t : State) : Type 0 where
  pub pipeline : Pipeline
  pub has : Has pipeline s.pipelines
  pub before : ℕ
  pub asked : e ≡ Event.Request (PruneOne before)
  pub answered : a ≡ Answer.Reply (pruned_reply pipeline.id)
  pub state : t ≡ without_pipeline s pipeline.id

-- ---- in a history with one more line

pub still_pruned : (p : Past) (h : List Past) (n : ℕ) → WasPruned h n → WasPruned (p ∷ h) n
still_pruned p h n w = (w.0, Contains-append_right (p ∷ []) h w.0 w.1, w.2)

pub still_gone : (p : Past) (h : List Past) (a : Attempt) → WentWithItsJob h a → WentWithItsJob (p ∷ h) a
still_gone p h a w = (w.0, w.1, Contains-append_right (p ∷ []) h w.0 w.2, w.3, w.4, w.5)

-- ---- what goes with the pipeline that the newest line prunes

pub is_pruned : (p : Past) (h : List Past) (n : ℕ) → Prunes p n → WasPruned (p ∷ h) n
is_pruned p h n prunes = (p, contains_from_has p (p ∷ h) (inl refl), prunes)

-- an attempt of one of its jobs
pub goes_with : (p : Past) (h : List Past) (s : State) (n : ℕ) → p.before ≡ s → Prunes p n → (a : Attempt) → is_job_among (jobs_of s n) a.job ≡ true → WentWithItsJob (p ∷ h) a
goes_with p h s n b prunes a e =
    let w = any_has (λ (j : Job). j.id == a.job) (jobs_of s n) e in
    let of = has_filter (λ (j : Job). j.pipeline == n) w.0 s.jobs w.1.0 in (
      p,
      w.0,
      contains_from_has p (p ∷ h) (inl refl),
      subst (λ (r : State). Contains r.jobs w.0) (sym b) (contains_from_has w.0 s.jobs of.0),
      eqb-true w.0.id a.job w.1.1,
      subst (λ m. Prunes p m) (sym (eqb-true w.0.pipeline n of.1)) prunes,
    )

-- ---- what has ended

-- no attempt has the number n, which isn't still to come either
abbrev pub IsMissing : ℕ → State → Type 0
IsMissing n s = (n < s.next.attempt) × ((b : Attempt) → Has b s.attempts → b.id ≡ n → ⊥)

-- the attempt went with its pipeline, and no other has its number
abbrev pub HasGone : List Past → State → Attempt → Type 0
HasGone h s a = WentWithItsJob h a × IsMissing a.id s

-- what had ended in the state before a line stands there as it ended, or went with its pipeline
abbrev pub Ends : List Past → State → Type 0
Ends h s = (p : Past) → Has p h → (a : Attempt) → Has a p.before.attempts → is_live a ≡ false → Has a s.attempts ⊎ HasGone h s a

-- each attempt of the one state was there in the other, or is new
abbrev pub AreKnown : State → State → Type 0
AreKnown s t = (s.next.attempt ≤ t.next.attempt) × ((b : Attempt) → Has b t.attempts → Was s b ⊎ IsNew s b)

still_missing : (n : ℕ) (s t : State) → AreKnown s t → IsMissing n s → IsMissing n t
still_missing n s t known missing = (
  omega (arith, missing.0, known.0),
  λ b k e. ⊎_elim (λ w. missing.1 w.0 w.1.0 (w.1.1 ∙ e)) (λ (w : s.next.attempt ≤ b.id). absurd (omega (arith, missing.0))) (known.1 b k),
)

earlier : (h : List Past) (s : State) (p : Past) → p.before ≡ s → Ends h s → (q : Past) → Has q (p ∷ h) → (a : Attempt) → Has a q.before.attempts → is_live a ≡ false → Has a s.attempts ⊎ HasGone h s a
earlier h s p b i q k a m l = ⊎_elim (λ e. inl (subst (λ (w : State). Has a w.attempts) (ap (λ (w : Past). w.before) e ∙ b) m)) (λ n. i q n a m l) k

-- a step after which what had ended stands, or went with its pipeline
pub goes_on : (h : List Past) (s t : State) (p : Past) → p.before ≡ s → Ends h s → AreKnown s t → ((a : Attempt) → Has a s.attempts → is_live a ≡ false → Has a t.attempts ⊎ HasGone (p ∷ h) t a) → Ends (p ∷ h) t
goes_on h s t p b i known stands q k a m l =
    ⊎_elim (λ n. stands a n l) (λ w. inr (still_gone p h a w.0, still_missing a.id s t known w.1)) (earlier h s p b i q k a m l)

-- a step that leaves what has ended
pub leaves_ended : (h : List Past) (s t : State) (p : Past) → p.before ≡ s → Ends h s → AreKnown s t → ((a : Attempt) → Has a s.attempts → is_live a ≡ false → Has a t.attempts) → Ends (p ∷ h) t
leaves_ended h s t p b i known keeps = goes_on h s t p b i known (λ a k l. inl (keeps a k l))

-- a step that leaves the attempts
pub stays : (h : List Past) (s t : State) (p : Past) → p.before ≡ s → Ends h s → t.attempts ≡ s.attempts → t.next.attempt ≡ s.next.attempt → Ends (p ∷ h) t
stays h s t p b i e f = leaves_ended h s t p b i (omega arith, λ c k. same s c (subst (Has c) e k)) (λ a k l. subst (Has a) (sym e) k)

-- a step that puts x, where none of its number has ended
pub puts : (h : List Past) (s t : State) (p : Past) (x : Attempt) → p.before ≡ s → Ends h s → AreKnown s t → t.attempts ≡ put attempt_cmp x s.attempts
    → ((a : Attempt) → Has a s.attempts → a.id ≡ x.id → is_live a ≡ true) → Ends (p ∷ h) t
puts h s t p x b i known e live =
    leaves_ended h s t p b i known (λ a has l. subst (Has a) (sym e) (put_has attempt_cmp x a s.attempts has (unequal a.id x.id (λ f. both_ways (is_live a) l (live a has f)))))

-- ---- what is accepted of a runner is of a live attempt

pub while_ok : {A : Type 0} (state : AttemptState) (over : Bool) (x y : A) → while_leased state over x ≡ Ok y → (is_live_state state ≡ true) × (y ≡ x)
while_ok Live true x y e = absurd (cc)
while_ok Live false x y e = (refl, cc)
while_ok state over x y e = absurd (cc)

pub renewed_live : (a : Attempt) (limit now z : ℕ) → renewed a limit now ≡ Ok z → is_live a ≡ true
renewed_live a limit now z e = (while_ok a.state _ _ z e).0

pub leased_live : (a : Attempt) (limit now : ℕ) (renewal : Result ℕ LeaseFault) → renewed a limit now ≡ renewal → (r : Result ℕ PieceFault) (z : ℕ) → if_leased renewal r ≡ Ok z → is_live a ≡ true
leased_live a limit now (Ok seen) e r z f = renewed_live a limit now seen e
leased_live a limit now (Err fault) e r z f = absurd (cc)
