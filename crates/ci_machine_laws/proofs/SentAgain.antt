-- What a runner sends again changes nothing.
use Rattle.ci_machine_laws.proofs.Prelude.{rules, ◌≡◌, ◌⊎◌, ℕ, ◌+◌, Bool, true, false, cond, ◌==◌, not, max, List, [], ◌∷◌, ◌++◌, length, find, Option, Some, None, option_map}
use Rattle.ci_machine_laws.proofs.Prelude.{Result, Ok, Err, nat_cmp, is_eq, is_lt, Ordering, refl, sym, ap, subst, ◌∙◌, inl, inr, ⊎_elim, arith, eqb-true, eq-eqb, ne_eqb}
use Rattle.ci_machine_laws.proofs.Prelude.{bytes_eq, cond_both, cond-true, cond-false, both_ways, false≢true, append-nil, length-append, Failed, Has, Rising, rising_put}
use Rattle.ci_machine_laws.proofs.Prelude.{find_has, has_find, equal, All-from_has, contains_named, named_contains, filter_implied, its_trace}
use Rattle.ci_machine_steps.specs.Prelude.{AttemptState, Live, Succeeded, is_live_state, Attempt, Trace, Lease, LeaseFault, NotLive, LeaseOver, PieceFault, RowChange, Put}
use Rattle.ci_machine_steps.specs.Prelude.{Record, Event, UpdateJob, AppendTrace, Seed, Report, JobUpdate, TracePart, M5, HttpStatus, Fine, Reply, Answer, State, applied, placed}
use Rattle.ci_machine_steps.specs.Prelude.{put, others, attempt_cmp, trace_cmp, trace_in, with_bytes, is_live, is_over, while_leased, renewed, accepted, same_exit, is_same_end}
use Rattle.ci_machine_steps.specs.Prelude.{finished, status_of_state, refusal, Plan, refused, heard, ended, reported, update_job, grown, appended, append_trace, Happens, Step}
use Rattle.ci_machine_steps.specs.Prelude.{attempt_at, lease_of, lease_at, trace_of, Past, Leads, IsReached}
use Rattle.ci_machine_steps.specs.Reports.{told}
use Rattle.ci_machine.proofs.Found.{find_none, placed_here}
use Rattle.ci_machine_laws.specs.Repeats.{is_of_runner, is_final, WasJustSent, TwiceIsOnce, IsTakenEnd, IsAnsweredAgain, while_there, once_pruned, EndsOnce, OfEachLine}
use Rattle.ci_machine_laws.specs.Repeats.{RepeatsChangeNothing}
use Rattle.ci_machine_laws.proofs.Ends.{HasGone, while_ok}
use Rattle.ci_machine_laws.proofs.Reached.{reached}
use Rattle.ci_machine_laws.proofs.Pieces.{Fits, accepted_fits}

-- ---- a record that is put twice

module _ {A : Type 0} (id : A → ℕ) (x y : A) (same : id x ≡ id y) where
  abbrev by_id : A → A → Ordering
  by_id a b = nat_cmp (id a) (id b)

  dropped : not (is_eq (nat_cmp (id x) (id y))) ≡ false
  dropped = ap not (equal (id x) (id y) same)

  placed_gone : (zs : List A) → others by_id y (placed by_id x zs) ≡ others by_id y zs
  placed_gone [] = cond-false (not (is_eq (by_id x y))) (x ∷ []) [] dropped
  placed_gone (z ∷ zs) =
      cond_both (is_lt (by_id z x)) (z ∷ placed by_id x zs) (x ∷ z ∷ zs) (λ l. others by_id y l ≡ others by_id y (z ∷ zs))
      (λ _. ap (λ l. cond (not (is_eq (by_id z y))) (z ∷ l) l) (placed_gone zs))
      (λ _. cond-false (not (is_eq (by_id x y))) (x ∷ others by_id y (z ∷ zs)) (others by_id y (z ∷ zs)) dropped)

  -- what is put in the place of what was put
  put_again : (zs : List A) → put (λ a b. nat_cmp (id a) (id b)) y (put (λ a b. nat_cmp (id a) (id b)) x zs) ≡ put (λ a b. nat_cmp (id a) (id b)) y zs
  put_again zs =
      ap (placed by_id y) (placed_gone (others by_id x zs)
      ∙ filter_implied (λ z. not (is_eq (by_id z y))) (λ z. not (is_eq (by_id z x))) zs (λ z k e. subst (λ n. not (is_eq (nat_cmp (id z) n)) ≡ true) (sym same) e))

-- the attempt that was put is found at its number
found_put : (n : ℕ) (x : Attempt) (xs : List Attempt) → Rising (λ (a : Attempt). a.id) 0 xs → x.id ≡ n → find (λ a. a.id == n) (put attempt_cmp x xs) ≡ Some x
found_put n x xs rise its =
    subst (λ m. find (λ (a : Attempt). a.id == m) (put attempt_cmp x xs) ≡ Some x) its
    (find_has (λ (a : Attempt). a.id) x 0 (put attempt_cmp x xs) (rising_put (λ (a : Attempt). a.id) x 0 xs rise (omega arith)) (placed_here attempt_cmp x (others attempt_cmp x xs)))

-- ---- a plan that is made twice

-- the plan, made again of the state that it leads to, leads to that state
abbrev Twice : (State → Plan) → State → Plan → Type 0
Twice f s plan = let t = applied plan.1 s in applied (f t).1 t ≡ t

-- so where it changes nothing
rests : (f : State → Plan) (s : State) (plan : Plan) → f s ≡ plan → plan.1 ≡ [] → Twice f s plan
rests f s plan is none =
    subst (λ cs. let t = applied cs s in applied (f t).1 t ≡ t) (sym none) (ap (λ (p : Plan). applied p.1 s) is ∙ ap (λ cs. applied cs s) none)

-- ---- what is accepted

same_exit_self : (exit : Option ℕ) → same_exit exit exit ≡ true
same_exit_self None = refl
same_exit_self (Some x) = eq-eqb x x refl

-- what is the same final state isn't live
same_ended : (old final : AttemptState) → is_same_end old final ≡ true → is_live_state old ≡ false
same_ended Live final e = absurd (false≢true e)
same_ended old final e = refl

max_again : (seen now : ℕ) → max (max seen now) now ≡ max seen now
max_again seen now = omega arith

-- ---- a runner says that an attempt runs

module _ (s : State) (rise : Rising (λ (a : Attempt). a.id) 0 s.attempts) where
  -- the state with x in the place of an attempt
  abbrev with_attempt : Attempt → State
  with_attempt x = record s { attempts = put attempt_cmp x s.attempts }

  -- put again in its own place it changes nothing
  put_same : (x y : Attempt) → x.id ≡ y.id → y ≡ x → record (with_attempt x) { attempts = put attempt_cmp y (put attempt_cmp x s.attempts) } ≡ with_attempt x
  put_same x y same is = λ i. record s { attempts = (put_again (λ (a : Attempt). a.id) x y same s.attempts ∙ ap (λ (z : Attempt). put attempt_cmp z s.attempts) is) i }

  module _ (u : JobUpdate) (now : ℕ) where
    abbrev runs : State → Plan
    runs t = update_job (lease_at t u.attempt) (record u { report = Report.Running }) now

    -- x was heard of, and is heard of again
    stands : (x : Attempt) (limit seen : ℕ) (r : Result ℕ LeaseFault) → x.seen ≡ max seen now → renewed x limit now ≡ r → applied (heard x r).1 (with_attempt x) ≡ with_attempt x
    stands x limit seen (Err fault) was is = refl
    stands x limit seen (Ok z) was is =
        let later : z ≡ max x.seen now = (while_ok x.state (is_over x limit now) (max x.seen now) z is).1 in
        let same : z ≡ x.seen = later ∙ (ap (λ n. max n now) was ∙ (max_again seen now ∙ sym was)) in
        put_same x (record x { seen = z }) refl (λ i. record x { seen = same i })

    hears : (a : Attempt) → attempt_at s u.attempt ≡ Some a → a.id ≡ u.attempt → bytes_eq a.token u.token ≡ true → (r : Result ℕ LeaseFault) → renewed a (lease_of s a).limit now ≡ r → Twice runs s (heard a r)
    hears a found its token (Err fault) is =
        rests runs s (heard a (Err fault))
        (ap (λ o. update_job (option_map (lease_of s) o) (record u { report = Report.Running }) now) found
        ∙ (cond-true (bytes_eq a.token u.token) (heard a (renewed a (lease_of s a).limit now)) (refused M5) token ∙ ap (heard a) is)) refl
    hears a found its token (Ok z) is =
        let limit = (lease_of s a).limit in
        let x : Attempt = record a { seen = z } in
        let t = with_attempt x in
        let then : runs t ≡ heard x (renewed x limit now)
        = ap (λ o. update_job (option_map (lease_of t) o) (record u { report = Report.Running }) now) (found_put u.attempt x s.attempts rise its)
        ∙ cond-true (bytes_eq x.token u.token) (heard x (renewed x limit now)) (refused M5) token in
        ap (λ (p : Plan). applied p.1 t) then ∙ stands x limit a.seen (renewed x limit now) (while_ok a.state (is_over a limit now) (max a.seen now) z is).1 refl

    runs_twice : (o : Option Attempt) → attempt_at s u.attempt ≡ o → Twice runs s (update_job (option_map (lease_of s) o) (record u { report = Report.Running }) now)
    runs_twice None found = rests runs s (refused M5) (ap (λ o. update_job (option_map (lease_of s) o) (record u { report = Report.Running }) now) found) refl
    runs_twice (Some a) found =
        let its = eqb-true a.id u.attempt (has_find (λ (b : Attempt). b.id == u.attempt) a s.attempts found).1 in
        let asked = ap (λ o. update_job (option_map (lease_of s) o) (record u { report = Report.Running }) now) found in
        let limit = (lease_of s a).limit in
        cond_both (bytes_eq a.token u.token) (heard a (renewed a limit now)) (refused M5) (Twice runs s)
        (λ token. hears a found its token (renewed a limit now) refl)
        (λ other. rests runs s (refused M5) (asked ∙ cond-false (bytes_eq a.token u.token) (heard a (renewed a limit now)) (refused M5) other) refl)

-- ---- a runner says how an attempt ended

-- the state that a final report names, which is the same end as itself
record IsFinal (r : Report) : Type 0 where
  state : AttemptState
  self : is_same_end state state ≡ true
  plan : (l : Lease) (now : ℕ) → reported l r now ≡ ended l.attempt (finished l.attempt l.limit now state)

final_of : (r : Report) → is_final r ≡ true → IsFinal r
final_of Report.Running e = absurd (false≢true e)
final_of (Report.Success exit) e = record { state = Succeeded exit; self = same_exit_self exit; plan = λ l now. refl }
final_of (Report.Failed cause exit) e = record { state = Failed cause exit; self = same_exit_self exit; plan = λ l now. refl }

-- an attempt of the state has ended so that the same report gets this reply again, and changes nothing
pub record IsSettled (s : State) (u : JobUpdate) (reply : Reply) : Type 0 where
  pub attempt : Attempt
  pub has : Has attempt s.attempts
  pub number : attempt.id ≡ u.attempt
  pub token : bytes_eq attempt.token u.token ≡ true
  pub over : is_live attempt ≡ false
  pub again : (l : Lease) (now : ℕ) → l.attempt ≡ attempt → reported l u.report now ≡ (reply, [])

pub settled_again : (s : State) → Rising (λ (a : Attempt). a.id) 0 s.attempts → (u : JobUpdate) (reply : Reply) → IsSettled s u reply → (now : ℕ) → update_job (lease_at s u.attempt) u now ≡ (reply, [])
settled_again s rise u reply is now =
    let a = is.attempt in
    let found : attempt_at s u.attempt ≡ Some a = subst (λ n. find (λ (b : Attempt). b.id == n) s.attempts ≡ Some a) is.number (find_has (λ (b : Attempt). b.id) a 0 s.attempts rise is.has) in
    ap (λ o. update_job (option_map (lease_of s) o) u now) found
    ∙ (cond-true (bytes_eq a.token u.token) (reported (lease_of s a) u.report now) (refused M5) is.token ∙ is.again (lease_of s a) now refl)

-- how an attempt comes to stand
abbrev Finishes : Attempt → AttemptState → AttemptState → Type 0
Finishes a final state = ((state ≡ a.state) × (is_same_end a.state final ≡ true)) ⊎ ((state ≡ final) × (is_live a ≡ true))

finishes : (a : Attempt) (limit now : ℕ) (final state : AttemptState) → finished a limit now final ≡ Ok state → Finishes a final state
finishes a limit now final state =
    cond_both (is_same_end a.state final) (Ok a.state) (while_leased a.state (is_over a limit now) final) (λ r. r ≡ Ok state → Finishes a final state)
    (λ e k. let is : a.state ≡ state = cc in inl (sym is, e))
    (λ _ k. let w = while_ok a.state (is_over a limit now) final state k in inr (w.1, w.0))

abbrev is_fine : HttpStatus → Bool
is_fine Fine = true
is_fine _ = false

-- where the reply isn't 200 nothing changes, and else the attempt is settled
abbrev Settles : State → JobUpdate → Plan → Type 0
Settles s u plan = ((plan.1 ≡ []) × (is_fine plan.0.status ≡ false)) ⊎ IsSettled (applied plan.1 s) u plan.0

module _ (s : State) (rise : Rising (λ (a : Attempt). a.id) 0 s.attempts) (u : JobUpdate) (final : IsFinal u.report) (now : ℕ) where
  -- the report again, of an attempt that has this end
  same_again : (a : Attempt) → is_same_end a.state final.state ≡ true → (l : Lease) (at : ℕ) → l.attempt ≡ a → reported l u.report at ≡ (told (status_of_state a.state), [])
  same_again a same l at is =
      final.plan l at
      ∙ (ap (λ (b : Attempt). ended b (finished b l.limit at final.state)) is
      ∙ (ap (ended a) (cond-true (is_same_end a.state final.state) (Ok a.state) (while_leased a.state (is_over a l.limit at) final.state) same)
      ∙ ap (λ cs. (told (status_of_state a.state), cs)) (cond-false (is_live a) (Put (Record.Attempt a) ∷ []) [] (same_ended a.state final.state same))))

  settled_by : (a : Attempt) → Has a s.attempts → a.id ≡ u.attempt → bytes_eq a.token u.token ≡ true → is_same_end a.state final.state ≡ true → IsSettled s u (told (status_of_state a.state))
  settled_by a has its token same = search (rules, same_ended, same_again)

  ends : (a : Attempt) → Has a s.attempts → a.id ≡ u.attempt → bytes_eq a.token u.token ≡ true → (r : Result AttemptState LeaseFault) → ((state : AttemptState) → r ≡ Ok state → Finishes a final.state state)
      → Settles s u (ended a r)
  ends a has its token (Err (NotLive state)) how = inl (refl, refl)
  ends a has its token (Err LeaseOver) how = inl (refl, refl)
  ends a has its token (Ok state) how =
      let x : Attempt = record a { state = state } in
      let Q : List RowChange → Type 0 = λ cs. IsSettled (applied cs s) u (told (status_of_state state)) in
      ⊎_elim
      (λ k. inr (subst Q (sym (cond-false (is_live a) (Put (Record.Attempt x) ∷ []) [] (same_ended a.state final.state k.1)))
      (subst (λ w. IsSettled s u (told (status_of_state w))) (sym k.0) (settled_by a has its token k.1))))
      (λ k. inr (subst Q (sym (cond-true (is_live a) (Put (Record.Attempt x) ∷ []) [] k.1)) (
      let same : is_same_end state final.state ≡ true = subst (λ w. is_same_end w final.state ≡ true) (sym k.0) final.self in
      record {
        attempt = x;
        has = placed_here attempt_cmp x (others attempt_cmp x s.attempts);
        number = its;
        token = token;
        over = same_ended state final.state same;
        again = same_again x same;
      })))
      (how state refl)

  reports : (o : Option Attempt) → attempt_at s u.attempt ≡ o → Settles s u (update_job (option_map (lease_of s) o) u now)
  reports None found = inl (refl, refl)
  reports (Some a) found =
      let has = has_find (λ (b : Attempt). b.id == u.attempt) a s.attempts found in
      let limit = (lease_of s a).limit in
      cond_both (bytes_eq a.token u.token) (reported (lease_of s a) u.report now) (refused M5) (Settles s u)
      (λ token. subst (Settles s u) (sym (final.plan (lease_of s a) now))
      (ends a has.0 (eqb-true a.id u.attempt has.1) token (finished a limit now final.state) (λ state. finishes a limit now final.state state)))
      (λ _. inl (refl, refl))

  ended_twice : Rising (λ (a : Attempt). a.id) 0 (applied (update_job (lease_at s u.attempt) u now).1 s).attempts → Twice (λ t. update_job (lease_at t u.attempt) u now) s (update_job (lease_at s u.attempt) u now)
  ended_twice still_rises =
      let plan = update_job (lease_at s u.attempt) u now in
      let t = applied plan.1 s in
      ⊎_elim
      (λ k. rests (λ t. update_job (lease_at t u.attempt) u now) s plan refl k.0)
      (λ k. ap (λ (p : Plan). applied p.1 t) (settled_again t still_rises u plan.0 k now))
      (reports (attempt_at s u.attempt) refl)

-- a word of a runner that is said twice at one moment
updates_twice : (s : State) → Rising (λ (a : Attempt). a.id) 0 s.attempts → (u : JobUpdate) (now : ℕ) (r : Report) → Rising (λ (a : Attempt). a.id) 0 (applied (update_job (lease_at s u.attempt) (record u { report = r }) now).1 s).attempts
    → Twice (λ t. update_job (lease_at t u.attempt) (record u { report = r }) now) s (update_job (lease_at s u.attempt) (record u { report = r }) now)
updates_twice s rise u now Report.Running still = runs_twice s rise u now (attempt_at s u.attempt) refl
updates_twice s rise u now (Report.Success exit) still = ended_twice s rise (record u { report = Report.Success exit }) (final_of (Report.Success exit) refl) now still
updates_twice s rise u now (Report.Failed cause exit) still = ended_twice s rise (record u { report = Report.Failed cause exit }) (final_of (Report.Failed cause exit) refl) now still

-- ---- a runner sends a piece of a trace

no_bytes : (bytes : List ℕ) → length bytes ≡ 0 → bytes ≡ []
no_bytes [] e = refl
no_bytes (b ∷ bytes) e = absurd (omega arith)

module _ (s : State) (rise : Rising (λ (a : Attempt). a.id) 0 s.attempts) (part : TracePart) (now : ℕ) where
  abbrev appends : State → Plan
  appends t = append_trace (lease_at t part.attempt) (length (trace_of t part.attempt)) part now

  -- the piece goes behind the trace of x, whose runner is heard of
  abbrev with_piece : Attempt → State
  with_piece x = record s { traces = with_bytes (record { attempt = x.id; bytes = part.bytes }) s.traces; attempts = put attempt_cmp x s.attempts }

  abbrev limit_of : Attempt → ℕ
  limit_of a = (lease_of s a).limit

  -- where it fits again it has no bytes
  grown_same : (x : Attempt) (seen size : ℕ) → x.id ≡ part.attempt → x.seen ≡ max seen now → part.bytes ≡ [] → applied (grown x part.bytes now size).1 (with_piece x) ≡ with_piece x
  grown_same x seen size its was none =
      let new : Trace = record { attempt = x.id; bytes = part.bytes } in
      let traces = with_bytes new s.traces in
      let before = trace_in x.id s.traces in
      let same_bytes : trace_in x.id traces ++ part.bytes ≡ before ++ part.bytes
      = ap (λ l. trace_in x.id traces ++ l) none ∙ (append-nil (trace_in x.id traces) ∙ its_trace new x.id s.traces refl) in
      let same_seen : max x.seen now ≡ x.seen = ap (λ n. max n now) was ∙ (max_again seen now ∙ sym was) in
      let first : Trace = record { attempt = x.id; bytes = before ++ part.bytes } in
      let again : Trace = record { attempt = x.id; bytes = trace_in x.id traces ++ part.bytes } in
      let same_traces : put trace_cmp again (put trace_cmp first s.traces) ≡ put trace_cmp first s.traces
      = put_again (λ (t : Trace). t.attempt) first again refl s.traces ∙ ap (λ l. put trace_cmp (record { attempt = x.id; bytes = l }) s.traces) same_bytes in
      let heard_again : Attempt = record x { seen = max x.seen now } in
      let same_attempts : put attempt_cmp heard_again (put attempt_cmp x s.attempts) ≡ put attempt_cmp x s.attempts
      = put_again (λ (a : Attempt). a.id) x heard_again refl s.attempts ∙ ap (λ n. put attempt_cmp (record x { seen = n }) s.attempts) same_seen in
      λ i. record s { traces = same_traces i; attempts = same_attempts i }

  sent_again : (x : Attempt) (seen old : ℕ) → x.id ≡ part.attempt → x.seen ≡ max seen now → part.from ≡ old → length (trace_of (with_piece x) part.attempt) ≡ old + length part.bytes
      → (r : Result ℕ PieceFault) → ((z : ℕ) → r ≡ Ok z → Fits (length (trace_of (with_piece x) part.attempt)) part.from (length part.bytes) z) → applied (appended x part.bytes now r).1 (with_piece x) ≡ with_piece x
  sent_again x seen old its was from long (Err fault) fit = refl
  sent_again x seen old its was from long (Ok z) fit =
      let begins : part.from ≡ length (trace_of (with_piece x) part.attempt) = (fit z refl).begins in
      grown_same x seen z its was (no_bytes part.bytes (omega arith))

  piece_twice : (a : Attempt) → attempt_at s part.attempt ≡ Some a → a.id ≡ part.attempt → bytes_eq a.token part.token ≡ true → (r : Result ℕ PieceFault)
      → accepted a (limit_of a) now (length (trace_of s part.attempt)) part.from (length part.bytes) ≡ r → Twice appends s (appended a part.bytes now r)
  piece_twice a found its token (Err fault) is =
      let size = length (trace_of s part.attempt) in
      let asked = ap (λ o. append_trace (option_map (lease_of s) o) size part now) found in
      rests appends s (appended a part.bytes now (Err fault))
      (asked ∙ (cond-true (bytes_eq a.token part.token) (appended a part.bytes now (accepted a (limit_of a) now size part.from (length part.bytes))) (refused M5) token ∙ ap (appended a part.bytes now) is)) refl
  piece_twice a found its token (Ok z) is =
      let size = length (trace_of s part.attempt) in
      let x : Attempt = record a { seen = max a.seen now } in
      let t = with_piece x in
      let then_size = length (trace_of t part.attempt) in
      let r = accepted x (limit_of a) now then_size part.from (length part.bytes) in
      let then : appends t ≡ appended x part.bytes now r
      = ap (λ o. append_trace (option_map (lease_of t) o) then_size part now) (found_put part.attempt x s.attempts rise its)
      ∙ cond-true (bytes_eq x.token part.token) (appended x part.bytes now r) (refused M5) token in
      let long : then_size ≡ size + length part.bytes = ap length (its_trace (record { attempt = a.id; bytes = part.bytes }) part.attempt s.traces its) ∙ length-append (trace_of s part.attempt) part.bytes in
      let begins = (accepted_fits (renewed a (limit_of a) now) size part.from (length part.bytes) z is).begins in
      ap (λ (p : Plan). applied p.1 t) then ∙ sent_again x a.seen size its refl begins long r (accepted_fits (renewed x (limit_of a) now) then_size part.from (length part.bytes))

  appends_twice : (o : Option Attempt) → attempt_at s part.attempt ≡ o → Twice appends s (append_trace (option_map (lease_of s) o) (length (trace_of s part.attempt)) part now)
  appends_twice None found = rests appends s (refused M5) (ap (λ o. append_trace (option_map (lease_of s) o) (length (trace_of s part.attempt)) part now) found) refl
  appends_twice (Some a) found =
      let size = length (trace_of s part.attempt) in
      let its = eqb-true a.id part.attempt (has_find (λ (b : Attempt). b.id == part.attempt) a s.attempts found).1 in
      let r = accepted a (limit_of a) now size part.from (length part.bytes) in
      cond_both (bytes_eq a.token part.token) (appended a part.bytes now r) (refused M5) (Twice appends s)
      (λ token. piece_twice a found its token r refl)
      (λ other. rests appends s (refused M5) (ap (λ o. append_trace (option_map (lease_of s) o) size part now) found ∙ cond-false (bytes_eq a.token part.token) (appended a part.bytes now r) (refused M5) other) refl)

-- ---- a step that is made twice

both : (s t u : State) (f : State → Plan) (one two : Plan) → one ≡ f s → two ≡ f t → t ≡ applied one.1 s → u ≡ applied two.1 t → Twice f s (f s) → u ≡ t
both s t u f one two is_one is_two to_t to_u same =
    let here : t ≡ applied (f s).1 s = to_t ∙ ap (λ (p : Plan). applied p.1 s) is_one in
    to_u ∙ (ap (λ (p : Plan). applied p.1 t) is_two ∙ subst (λ w. applied (f w).1 w ≡ w) (sym here) same)

-- two steps of the same of a runner at one moment lead to where the first of them does
twice : (s t u : State) (e : Event) (now : ℕ) (first again : Seed) (a b : Answer) → Rising (λ (w : Attempt). w.id) 0 s.attempts → Rising (λ (w : Attempt). w.id) 0 t.attempts → is_of_runner e ≡ true → Step s e now first a t → Step t e now again b u → u ≡ t
twice s t u (Event.Request (UpdateJob update)) now first again (Answer.Reply reply) (Answer.Reply then) rise still is one two =
    let f : State → Plan = λ w. update_job (lease_at w update.attempt) update now in
    both s t u f (reply, one.changes) (then, two.changes) one.happens two.happens one.state two.state (updates_twice s rise update now update.report (subst (λ (w : State). Rising (λ (x : Attempt). x.id) 0 w.attempts) (one.state ∙ ap (λ (p : Plan). applied p.1 s) one.happens) still))
twice s t u (Event.Request (AppendTrace part)) now first again (Answer.Reply reply) (Answer.Reply then) rise still is one two =
    let f : State → Plan = λ w. append_trace (lease_at w part.attempt) (length (trace_of w part.attempt)) part now in
    both s t u f (reply, one.changes) (then, two.changes) one.happens two.happens one.state two.state (appends_twice s rise part now (attempt_at s part.attempt) refl)
twice s t u (Event.Request request) now first again (Answer.Swept swept) b rise still is one two = absurd one.happens
twice s t u (Event.Request request) now first again a (Answer.Swept swept) rise still is one two = absurd two.happens
twice s t u e now first again a b rise still is one two = absurd (false≢true is)

pub twice_reached : (s t u : State) (e : Event) (now : ℕ) (first again : Seed) (a b : Answer) → IsReached s → is_of_runner e ≡ true → Step s e now first a t → Step t e now again b u → u ≡ t
twice_reached s t u e now first again a b is of one two =
    let line : Past = record { before = s; event = e; now = now; seed = first; answer = a } in
    twice s t u e now first again a b (reached is.0 s is.1).grants.rise (reached (line ∷ is.0) t (is.1, one)).grants.rise of one two

-- ---- over a history

just_sent : (h : List Past) (s : State) → Leads h s → (t : State) (e : Event) (now : ℕ) (seed : Seed) (a : Answer) → Step s e now seed a t → WasJustSent h s e now → t ≡ s
just_sent [] s l t e now seed a step was = absurd was
just_sent (q ∷ h) s l t e now seed a step was =
    ⊎_elim
    (λ is.
    let one : Step q.before e now q.seed q.answer s = subst (λ n. Step q.before e n q.seed q.answer s) is.at_once (subst (λ w. Step q.before w q.now q.seed q.answer s) is.same l.1) in
    twice q.before s t e now q.seed seed q.answer a (reached h q.before l.0).grants.rise (reached (q ∷ h) s l).grants.rise is.of_runner one step)
    (λ w. just_sent h s (subst (Leads h) w.0 l.0) t e now seed a step w.1)
    was

each_twice : (h : List Past) (s : State) → Leads h s → OfEachLine TwiceIsOnce h s
each_twice [] s l = tt
each_twice (p ∷ h) s l = (just_sent h p.before l.0 s p.event p.now p.seed p.answer l.1, each_twice h p.before l.0)

-- a line by which a final state was answered 200 leaves the attempt settled
taken : (first : Past) (t : State) → Rising (λ (a : Attempt). a.id) 0 first.before.attempts → Step first.before first.event first.now first.seed first.answer t → (end : IsTakenEnd first) → IsSettled t end.update end.reply
taken first t rise step end =
    let s = first.before in
    let u = end.update in
    let says : Happens s step.before (Event.Request (UpdateJob u)) first.now first.seed (Answer.Reply end.reply) step.changes
    = subst (λ a. Happens s step.before (Event.Request (UpdateJob u)) first.now first.seed a step.changes) end.answered
    (subst (λ e. Happens s step.before e first.now first.seed first.answer step.changes) end.sent step.happens) in
    let plan : Settles s u (end.reply, step.changes) = subst (Settles s u) (sym says) (reports s rise u (final_of u.report end.final) first.now (attempt_at s u.attempt) refl) in
    ⊎_elim
    (λ k. absurd (both_ways (is_fine end.reply.status) k.1 (ap is_fine end.fine)))
    (λ k. subst (λ w. IsSettled w u end.reply) (sym step.state) k)
    plan

-- the attempt was settled in some state of the history
settled_at : (h : List Past) (s : State) → Leads h s → (first : Past) → Has first h → (end : IsTakenEnd first)
    → IsSettled s end.update end.reply ⊎ ((q : Past) × Has q h × IsSettled q.before end.update end.reply)
settled_at [] s l first k end = absurd k
settled_at (p ∷ h) s l first k end =
    ⊎_elim
    (λ e. inl (taken first s
    (subst (λ (w : Past). Rising (λ (a : Attempt). a.id) 0 w.before.attempts) (sym e) (reached h p.before l.0).grants.rise)
    (subst (λ (w : Past). Step w.before w.event w.now w.seed w.answer s) (sym e) l.1) end))
    (λ m. ⊎_elim (λ i. inr (p, inl refl, i)) (λ w. inr (w.0, inr w.1, w.2)) (settled_at h p.before l.0 first m end))
    k

-- so it is still, or it went with its pipeline
stands_still : (h : List Past) (s : State) → Leads h s → (first : Past) → Has first h → (end : IsTakenEnd first)
    → IsSettled s end.update end.reply ⊎ ((a : Attempt) × (a.id ≡ end.update.attempt) × HasGone h s a)
stands_still h s l first k end =
    ⊎_elim
    (λ i. inl i)
    (λ w. let i = w.2 in
    ⊎_elim
    (λ m. inl (record { attempt = i.attempt; has = m; number = i.number; token = i.token; over = i.over; again = i.again }))
    (λ g. inr (i.attempt, i.number, g))
    ((reached h s l).ends w.0 w.1 i.attempt i.has i.over))
    (settled_at h s l first k end)

-- a word of a runner that is answered so
says_so : (s t : State) (u : JobUpdate) (now : ℕ) (seed : Seed) (a : Answer) → Step s (Event.Request (UpdateJob u)) now seed a t → (r : Reply) → update_job (lease_at s u.attempt) u now ≡ (r, []) → (t ≡ s) × (a ≡ Answer.Reply r)
says_so s t u now seed (Answer.Reply reply) step r is =
    let plan : (reply, step.changes) ≡ (r, []) = step.happens ∙ is in
    (step.state ∙ ap (λ (p : Plan). applied p.1 s) plan, ap (λ (p : Plan). Answer.Reply p.0) plan)
says_so s t u now seed (Answer.Swept swept) step r is = absurd step.happens

ends_again : (h : List Past) (p : Past) (s : State) → Leads h p.before → Step p.before p.event p.now p.seed p.answer s → (first : Past) → Has first h → (end : IsTakenEnd first) → p.event ≡ first.event
    → (s ≡ p.before) × IsAnsweredAgain h first p end.update.attempt
ends_again h p s l step first k end same =
    let r = p.before in
    let u = end.update in
    let its : Step r (Event.Request (UpdateJob u)) p.now p.seed p.answer s = subst (λ e. Step r e p.now p.seed p.answer s) (same ∙ end.sent) step in
    ⊎_elim
    (λ i.
    let said = says_so r s u p.now p.seed p.answer its end.reply (settled_again r (reached h r l).grants.rise u end.reply i p.now) in
    (said.0, while_there (contains_named (λ (a : Attempt). a.id) u.attempt r.attempts (i.attempt, (i.has, i.number))) (said.1 ∙ sym end.answered)))
    (λ w.
    let missing : (b : Attempt) → Has b r.attempts → b.id ≡ u.attempt → ⊥ = λ b m e. w.2.1.1 b m (e ∙ sym w.1) in
    let said = says_so r s u p.now p.seed p.answer its (refusal M5) (ap (λ o. update_job (option_map (lease_of r) o) u p.now)
    (find_none (λ (b : Attempt). b.id == u.attempt) r.attempts (λ b m. ne_eqb b.id u.attempt (missing b m)))) in
    (said.0, once_pruned w.0 w.1 w.2.0 (λ c. let n = named_contains (λ (a : Attempt). a.id) u.attempt r.attempts c in missing n.0 n.1.0 n.1.1) said.1))
    (stands_still h r l first k end)

each_end : (h : List Past) (s : State) → Leads h s → OfEachLine EndsOnce h s
each_end [] s l = tt
each_end (p ∷ h) s l = (
  All-from_has (λ first. (end : IsTakenEnd first) → p.event ≡ first.event → (s ≡ p.before) × IsAnsweredAgain h first p end.update.attempt) h (λ first k. ends_again h p s l.0 l.1 first k),
  each_end h p.before l.0,
)

pub repeats : (h : List Past) (s : State) → Leads h s → RepeatsChangeNothing h s
repeats h s l = record { twice_is_once = each_twice h s l; ends_once = each_end h s l }
