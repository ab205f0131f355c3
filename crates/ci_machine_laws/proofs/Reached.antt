-- What holds of every state that a history leads to.
use Rattle.ci_machine_laws.proofs.Prelude.{rules, ◌≡◌, ◌⊎◌, ℕ, ◌<◌, ◌≤◌, Bool, true, false, ◌==◌, ◌&&◌, List, [], ◌∷◌, if◌then◌else◌, Some, refl, sym, ap, subst, ◌∙◌, inl, inr}
use Rattle.ci_machine_laws.proofs.Prelude.{⊎_elim, arith, bytes_eq, both_ways, cases_Bool, bytes_eq-Decides, Has, Rising, rising_put, has_put, rising_filter, has_filter}
use Rattle.ci_machine_laws.proofs.Prelude.{filter_has, has_find, least_find, find-map, one_at, All-from_has, contains_from_has, put_all, attempt_was, attempt_left, trace_left}
use Rattle.ci_machine_laws.proofs.Prelude.{false≢true}
use Rattle.ci_machine_steps.specs.Prelude.{trace_in, is_grant, BoardRow, Runner, Job, JobVariable, QueuedJob, Attempt, TracePart, Event, AskJob, AppendTrace, Seed, Answer, State}
use Rattle.ci_machine_steps.specs.Prelude.{applied, put, job_cmp, attempt_cmp, jobs_of, AreBoard, is_live, is_eligible, chosen, groups_in, creation, pipeline_created, granted}
use Rattle.ci_machine_steps.specs.Prelude.{grown, is_job_among, pruned_reply, without_pipeline, runner_with, last_attempt, is_pending, pending_jobs, queued, queue, Past, Leads}
use Rattle.ci_machine_steps.specs.Prelude.{grants, accepted_bytes, Status, is_status}
use Rattle.ci_machine_steps.proofs.Running.{live_runs}
use Rattle.ci_machine_laws.proofs.Grants.{Grants, live_last}
use Rattle.ci_machine_laws.proofs.PutAll.{rising_all, has_still}
use Rattle.ci_machine_laws.proofs.EachPlan.{given_in}
use Rattle.ci_machine_laws.proofs.EachNext.{EachNext, next_is}
use Rattle.ci_machine_laws.proofs.Ends.{goes_with, Ends}
use Rattle.ci_machine_laws.proofs.Traces.{Traces, Was, IsNew, same}
use Rattle.ci_machine_laws.proofs.Grants as leased
use Rattle.ci_machine_laws.proofs.Traces as trace
use Rattle.ci_machine_laws.proofs.Ends as finals

pub record Inv (h : List Past) (s : State) : Type 0 where
  pub grants : Grants h s
  pub traces : Traces h s
  pub ends : Ends h s

-- the line of an event with this answer
abbrev pub line : State → Event → ℕ → Seed → Answer → Past
line s e now seed a = record { before = s; event = e; now = now; seed = seed; answer = a }

-- the invariant goes on to this state, by a line with this answer
abbrev On : List Past → State → Event → ℕ → Seed → Answer → State → Type 0
On h s e now seed a t = Inv (line s e now seed a ∷ h) t

-- where an attempt is live, none of its number has ended
only_live : {h : List Past} {s : State} {n : ℕ} → Inv h s → (a : Attempt) → Has a s.attempts → is_live a ≡ true → n ≡ a.id → (b : Attempt) → Has b s.attempts → b.id ≡ n → is_live b ≡ true
only_live {h} {s} i a has live its b k e = ap is_live (one_at (λ (c : Attempt). c.id) b a 0 s.attempts i.grants.rise k has (e ∙ its)) ∙ live

-- what is there with x in place of an attempt of its number
in_place : (s : State) (a x : Attempt) → Has a s.attempts → x.id ≡ a.id → (b : Attempt) → Has b (put attempt_cmp x s.attempts) → Was s b ⊎ IsNew s b
in_place s a x has same_id b k = ⊎_elim (λ q. inl (a, (has, sym (ap (λ (c : Attempt). c.id) q ∙ same_id)))) (λ m. same s b m) (has_put attempt_cmp x b s.attempts k)

-- where a job is pending, none of its attempts is live
pending_none : (h : List Past) (s : State) (board : List BoardRow) → AreBoard s board → Inv h s → (job : Job) → Has job s.jobs → is_pending board job ≡ true
    → (a : Attempt) → Has a s.attempts → is_live a ≡ true → a.job ≡ job.id → ⊥
pending_none h s board are i job has pending a k live its =
    let last = subst (λ n. last_attempt s n ≡ Some a) its (live_last h s i.grants a k live) in
    false≢true (sym (ap (λ (w : Status). is_status w Status.Pending) (live_runs s board are job has a last live)) ∙ pending)

-- a grant
starts : (h : List Past) (s : State) (board : List BoardRow) (token : List ℕ) (now : ℕ) (seed : Seed) → AreBoard s board → Inv h s → (runner : Runner) (q : QueuedJob) (vs : List JobVariable) (at : ℕ) (given : Seed)
    → runner_with s token ≡ Some runner → chosen (queue s board) (groups_in s board) runner ≡ Some q
    → let does = granted runner q vs s.next.attempt at given in On h s (Event.Request (AskJob token)) now seed (Answer.Reply does.0) (applied does.1 s)
starts h s board token now seed are i runner q vs at given found offered =
    let t = applied (granted runner q vs s.next.attempt at given).1 s in
    let test : Job → Bool = λ j. is_eligible runner (groups_in s board) (queued s j) in
    let is_runner = has_find (λ (w : Runner). bytes_eq w.token token) runner s.runners found in
    let first = find-map (queued s) (is_eligible runner (groups_in s board)) q (pending_jobs s board) offered in
    let job = first.0 in
    let eligible = has_find test job (pending_jobs s board) first.1.1 in
    let is_job = has_filter (is_pending board) job s.jobs eligible.0 in
    let same_job : job.id ≡ q.job.id = ap (λ (w : QueuedJob). w.job.id) first.1.0 in
    let Least : Job → Type 0 = λ other. is_pending board other ≡ true → is_eligible runner (groups_in s board) (queued s other) ≡ true → job.id ≤ other.id in
    let known : (b : Attempt) → Has b t.attempts → Was s b ⊎ IsNew s b
    = λ b k. ⊎_elim
    (λ w. inr (let m : b.id ≡ s.next.attempt = ap (λ (c : Attempt). c.id) w in omega arith))
    (λ m. same s b m)
    (has_put attempt_cmp _ b s.attempts k) in
    record {
      grants = leased.gives h s _ _ _ i.grants refl (λ a k l m. pending_none h s board are i job is_job.0 is_job.1 a k l (m ∙ sym same_job)) (λ n. refl) runner job refl same_job (record {
        board = board;
        are_board = are;
        is_runner = contains_from_has runner s.runners is_runner.0;
        is_job = contains_from_has job s.jobs is_job.0;
        pending = is_job.1;
        allowed = eligible.1;
        least = All-from_has Least s.jobs (λ other k p m.
            least_find (λ (w : Job). w.id) test job other 0 (pending_jobs s board) (rising_filter (λ (w : Job). w.id) (is_pending board) 0 s.jobs i.grants.jobs_rise) first.1.1 (filter_has (is_pending board) other s.jobs k p) m);
      }) (ap (λ t. Event.Request (AskJob t)) (sym ((bytes_eq-Decides runner.token token).0 is_runner.1))) refl refl refl;
      traces = trace.stays h s _ _ i.traces (λ n. refl) (λ u k. k) (λ b k. refl) (omega arith) known;
      ends = finals.puts h s t _ _ refl i.ends (omega arith, known) refl (λ b k e. let l : b.id < s.next.attempt = i.grants.below b k in let m : b.id ≡ s.next.attempt = e in absurd (omega arith));
    }

-- a piece of a trace
lengthens : (h : List Past) (s : State) (part : TracePart) (now : ℕ) (seed : Seed) → Inv h s → (a : Attempt) (at size : ℕ) → Has a s.attempts → a.id ≡ part.attempt → is_live a ≡ true
    → let does = grown a part.bytes at size in On h s (Event.Request (AppendTrace part)) now seed (Answer.Reply does.0) (applied does.1 s)
lengthens h s part now seed i a at size has its live = record {
  grants = leased.stand h s _ _ i.grants (λ n. refl) (leased.stood_put s _ a has refl live) (rising_put (λ (b : Attempt). b.id) _ 0 s.attempts i.grants.rise (omega arith)) refl i.grants.jobs_rise;
  traces = trace.grows h s _ _ a _ part.bytes i.traces has (i.grants.below a has) refl (λ n. ap (λ m. if m == n then part.bytes else []) (sym its)) refl refl refl;
  ends = finals.puts h s (applied (grown a part.bytes at size).1 s) _ _ refl i.ends (omega arith, in_place s a _ has refl) refl (only_live i a has live refl);
}

known : (s : State) (b : Attempt) → leased.Stood s b → Was s b ⊎ IsNew s b
known s b w = inl (w.old, (w.has, leased.id_stood s b w))

each : (h : List Past) (s : State) (board : List BoardRow) (e : Event) (now : ℕ) (seed : Seed) → AreBoard s board → Inv h s → EachNext s board e (On h s e now seed)
each h s board e now seed are i = record {
  stays = λ a quiet. keeps a (isnt a quiet.0) quiet.1 s refl refl refl i.grants.jobs_rise;
  aside = λ a done t by. keeps a (isnt a done.0) done.1 _ refl refl refl i.grants.jobs_rise;
  pipeline = λ new at is project text laid claims rows asked has named file lays fits.
      let made = creation s.next.pipeline s.next.job new (given_in s new) at laid in
      let answer = Answer.Reply (pipeline_created s.next.job made claims rows).0 in
      keeps answer (λ n. ap (λ w. grants n (line s w now seed answer)) is) (λ n. ap (λ w. accepted_bytes n w answer) is) _ refl refl refl (rising_all (λ (j : Job). j.id) made.jobs s.jobs i.grants.jobs_rise);
  granted = λ token is runner job q vs at given found offered has_runner has_job pending is_queued free.
      let does = granted runner q vs s.next.attempt at given in
      subst (λ w. On h s w now seed (Answer.Reply does.0) (applied does.1 s)) (sym is) (starts h s board token now seed are i runner q vs at given found offered);
  alters = λ a quiet old seen state has live.
      let p = line s e now seed a in
      let x = record old { seen = seen; state = state } in
      let t : State = record s { attempts = put attempt_cmp x s.attempts } in
      record {
        grants = leased.stand h s t p i.grants (isnt a quiet.0) (leased.stood_put s x old has refl live) (rising_put (λ (b : Attempt). b.id) x 0 s.attempts i.grants.rise (omega arith)) refl i.grants.jobs_rise;
        traces = trace.stays h s t p i.traces quiet.1 (λ u k. k) (λ b k. refl) (omega arith) (in_place s old x has refl);
        ends = finals.puts h s t p x refl i.ends (omega arith, in_place s old x has refl) refl (only_live i old has live refl);
      };
  grown = λ part is old at size has its live.
      let does = grown old part.bytes at size in
      subst (λ w. On h s w now seed (Answer.Reply does.0) (applied does.1 s)) (sym is) (lengthens h s part now seed i old at size has its live);
  acted = λ a quiet changes act.
      let p = line s e now seed a in
      let t : State = record s { jobs = put_all job_cmp act.jobs s.jobs; attempts = put_all attempt_cmp act.attempts s.attempts } in
      let stood = leased.stood_act s changes act in
      record {
        grants = leased.stand h s t p i.grants (isnt a quiet.0) stood
            (rising_all (λ (b : Attempt). b.id) act.attempts s.attempts i.grants.rise) refl (rising_all (λ (j : Job). j.id) act.jobs s.jobs i.grants.jobs_rise);
        traces = trace.stays h s t p i.traces quiet.1 (λ u k. k) (λ b k. refl) (omega arith) (λ b k. known s b (stood b k));
        ends = finals.leaves_ended h s t p refl i.ends (omega arith, λ b k. known s b (stood b k)) (λ b k ended. has_still (λ (c : Attempt). c.id) act.attempts s.attempts b k
            (λ c m f. let w = act.each_attempt c m in
            let same : b ≡ w.old = one_at (λ (d : Attempt). d.id) b w.old 0 s.attempts i.grants.rise k w.has (f ∙ ap (λ (d : Attempt). d.id) w.is) in
            both_ways (is_live b) ended (ap is_live same ∙ w.live)));
      };
  pruned = λ p before is found.
      let n = p.id in
      let t = without_pipeline s n in
      let answer = Answer.Reply (pruned_reply n) in
      let q = line s e now seed answer in
      let jobs_rise = i.grants.jobs_rise in
      let rise = i.grants.rise in
      let had : (b : Attempt) → Has b t.attempts → Has b s.attempts = λ b k. (attempt_was s n jobs_rise rise b k).0 in
      record {
        grants = leased.stand h s t q i.grants (λ m. ap (λ w. grants m (line s w now seed answer)) is) (λ b k. leased.stood_self s b (had b k))
            (rising_filter (λ (b : Attempt). b.id) _ 0 s.attempts rise) refl (rising_filter (λ (j : Job). j.id) _ 0 s.jobs jobs_rise);
        traces = trace.stays h s t q i.traces (λ m. ap (λ w. accepted_bytes m w answer) is) (λ u k. (has_filter _ u s.traces k).0) (λ b k. trace_left s n jobs_rise rise b k) (omega arith) (λ b k. same s b (had b k));
        ends = finals.goes_on h s t q refl i.ends (omega arith, λ b k. same s b (had b k)) (λ a k ended. ⊎_elim
            (λ f. inr (
              goes_with q h s n refl (before, is, refl) a f,
              (
                i.grants.below a k,
                λ b m same_id.
                    let w = attempt_was s n jobs_rise rise b m in
                    let same : b ≡ a = one_at (λ (c : Attempt). c.id) b a 0 s.attempts rise w.0 k same_id in
                    both_ways (is_job_among (jobs_of s n) a.job) (subst (λ (c : Attempt). is_job_among (jobs_of s n) c.job ≡ false) same w.1) f,
              ),
            ))
            (λ f. inl (attempt_left s n jobs_rise rise a k f))
            (cases_Bool (is_job_among (jobs_of s n) a.job)));
      };
} where
  isnt : (a : Answer) → is_grant e a ≡ false → (n : ℕ) → grants n (line s e now seed a) ≡ false
  isnt a none n = ap (λ b. b && (s.next.attempt == n)) none

  -- a step that leaves attempts and traces
  keeps : (a : Answer) → ((n : ℕ) → grants n (line s e now seed a) ≡ false) → ((n : ℕ) → accepted_bytes n e a ≡ []) → (t : State)
      → t.attempts ≡ s.attempts → t.traces ≡ s.traces → t.next.attempt ≡ s.next.attempt → Rising (λ (j : Job). j.id) 0 t.jobs → On h s e now seed a t
  keeps a none quiet t same_attempts same_traces same_next rise =
      let p = line s e now seed a in
      record {
        grants = leased.stand h s t p i.grants none (λ b k. leased.stood_self s b (subst (Has b) same_attempts k)) (subst (λ l. Rising (λ (b : Attempt). b.id) 0 l) (sym same_attempts) i.grants.rise) same_next rise;
        traces = trace.stays h s t p i.traces quiet (λ u k. subst (Has u) same_traces k) (λ b k. ap (trace_in b.id) same_traces) (omega arith) (λ b k. same s b (subst (Has b) same_attempts k));
        ends = finals.stays h s t p refl i.ends same_attempts same_next;
      }

pub reached : (h : List Past) (s : State) → Leads h s → Inv h s
reached [] s l = subst (Inv []) (sym l) (search rules)
reached (p ∷ h) s l =
    let i = reached h p.before l.0 in
    subst (Inv (p ∷ h)) (sym l.1.state)
    (next_is p.before l.1.before i.grants.jobs_rise i.grants.rise (On h p.before p.event p.now p.seed) p.event p.now p.seed p.answer l.1.changes (each h p.before l.1.before p.event p.now p.seed l.1.are_before i) l.1.happens)
