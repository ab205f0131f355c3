-- What a sweep does, and a request to prune, in a state whose records stand in the order of their numbers.
use Rattle.ci_machine_laws.proofs.Prelude.{◌≡◌, ◌<◌, ◌≤◌, ℕ, true, false, ◌&&◌, not, nat_lt, List, Option, Some, None, refl, sym, ap, subst, ◌∙◌, inl, inr, ⊎_elim, ltb-true}
use Rattle.ci_machine_laws.proofs.Prelude.{lt-ltb, and_parts, both_ways, cases_Bool, not_true, Rising, has_find, least_find, All-from_has, contains_from_has, Bool}
use Rattle.ci_machine_laws.proofs.Prelude.{map, filter, find, option_map, rising_filter, filter_has, has_filter, find-map, has_map}
use Rattle.ci_machine.proofs.Found.{found_none}
use Rattle.ci_machine_steps.specs.Prelude.{BoardRow, Pipeline, RowChange, PruneOne, Event, Seed, Answer, State, AreBoard, is_open_in, Plan, is_prunable, prunable_in, prune}
use Rattle.ci_machine_steps.specs.Prelude.{Happens, jobs_in, IsLeastPrunable, NoneIsPrunable, IsPrunedBy, PipelineWithStatus, Attempt, Lease, Swept, is_live, cause_of, is_over}
use Rattle.ci_machine_steps.specs.Prelude.{first_due, sweep, is_redundant, lease_of, leases, live_attempts, with_status, was_tried, redundant_in, cancellable_in, is_due}
use Rattle.ci_machine_steps.specs.Prelude.{NoneIsDue, is_redundant_in, IsLeastRedundant, NoneIsRedundant, SweepsLeast, IsSweptBy}

-- no lease is over
none_due : (s : State) (now : ℕ) → first_due (leases s) now ≡ None → NoneIsDue s now
none_due s now found =
    let over = λ (w : Lease). is_over w.attempt w.limit now in
    All-from_has (λ (a : Attempt). is_due s now a ≡ false) s.attempts (λ a k.
    let rest = (lease_of s a).limit in
    ⊎_elim
    (λ e. ap (λ t. t && is_over a rest now) e ∙ found_none over (lease_of s a) (leases s) found (has_map (lease_of s) a (live_attempts s) (filter_has is_live a s.attempts k e)))
    (λ e. ap (λ t. t && is_over a rest now) e)
    (cases_Bool (is_live a)))

-- the redundant pipeline of least number, or none
module _ (s : State) (board : List BoardRow) (are : AreBoard s board) where
  abbrev test : PipelineWithStatus → Bool
  test = is_redundant (map (with_status s board) s.pipelines) (filter (was_tried s) s.jobs)

  least_redundant : Rising (λ (p : Pipeline). p.id) 0 s.pipelines → (o : Option PipelineWithStatus) → find test (map (with_status s board) s.pipelines) ≡ o → (p : Pipeline) → option_map (λ (q : PipelineWithStatus). q.pipeline) o ≡ Some p → IsLeastRedundant s p.id
  least_redundant r None found p e = absurd (cc)
  least_redundant r (Some q) found p e =
      let at = find-map (with_status s board) test q s.pipelines found in
      let first = has_find (λ (w : Pipeline). test (with_status s board w)) at.0 s.pipelines at.1.1 in
      let same : q.pipeline ≡ p = cc in
      let number : at.0.id ≡ p.id = ap (λ (w : PipelineWithStatus). w.pipeline.id) at.1.0 ∙ ap (λ (w : Pipeline). w.id) same in
      record {
        board = board;
        are_board = are;
        pipeline = at.0;
        is_pipeline = contains_from_has at.0 s.pipelines first.0;
        number = number;
        redundant = first.1;
        least = All-from_has (λ (w : Pipeline). is_redundant_in s board w ≡ true → p.id ≤ w.id) s.pipelines (λ w k t.
            subst (λ n. n ≤ w.id) number (least_find (λ (v : Pipeline). v.id) (λ (v : Pipeline). test (with_status s board v)) at.0 w 0 s.pipelines r at.1.1 k t));
      }

  none_redundant : (o : Option PipelineWithStatus) → find test (map (with_status s board) s.pipelines) ≡ o → option_map (λ (q : PipelineWithStatus). q.pipeline) o ≡ None → NoneIsRedundant s
  none_redundant (Some q) found e = absurd (cc)
  none_redundant None found e = record {
    board = board;
    are_board = are;
    none = All-from_has (λ (w : Pipeline). is_redundant_in s board w ≡ false) s.pipelines (λ w k. found_none test (with_status s board w) (map (with_status s board) s.pipelines) found (has_map (with_status s board) w s.pipelines k));
  }

swept_least : (s : State) (board : List BoardRow) (now : ℕ) → AreBoard s board → Rising (λ (p : Pipeline). p.id) 0 s.pipelines → Rising (λ (a : Attempt). a.id) 0 s.attempts → (o : Option Lease) → first_due (leases s) now ≡ o
    → (redundant : Option Pipeline) → redundant_in s board ≡ redundant → SweepsLeast s now (sweep o redundant s.attempts (cancellable_in s board redundant)).0
swept_least s board now are pr r None found None none = (none_due s now found, none_redundant s board are _ refl none)
swept_least s board now are pr r None found (Some p) is = (none_due s now found, least_redundant s board are pr _ refl p is)
swept_least s board now are pr r (Some l) found redundant is =
    let test : Attempt → Bool = λ b. is_over b (lease_of s b).limit now in
    let at = find-map (lease_of s) (λ (w : Lease). is_over w.attempt w.limit now) l (live_attempts s) found in
    let a = at.0 in
    let number : a.id ≡ l.attempt.id = ap (λ (w : Lease). w.attempt.id) at.1.0 in
    let live = has_find test a (live_attempts s) at.1.1 in
    let has = has_filter is_live a s.attempts live.0 in
    record {
      attempt = a;
      is_attempt = contains_from_has a s.attempts has.0;
      number = number;
      due = ap (λ t. t && test a) has.1 ∙ live.1;
      least = All-from_has (λ (b : Attempt). is_due s now b ≡ true → l.attempt.id ≤ b.id) s.attempts (λ b k d.
          let parts = and_parts (is_live b) (test b) d in
          subst (λ n. n ≤ b.id) number
          (least_find (λ (c : Attempt). c.id) test a b 0 (live_attempts s) (rising_filter (λ (c : Attempt). c.id) is_live 0 s.attempts r) at.1.1 (filter_has is_live b s.attempts k parts.0) parts.1));
      why = ap cause_of (sym at.1.0);
    }

pub swept_by : (s : State) (board : List BoardRow) (e : Event) (now : ℕ) (seed : Seed) (a : Answer) (changes : List RowChange) → AreBoard s board → Rising (λ (w : Pipeline). w.id) 0 s.pipelines → Rising (λ (w : Attempt). w.id) 0 s.attempts → Happens s board e now seed a changes → IsSweptBy s now e a
swept_by s board (Event.Request request) now seed a changes are pr r is = tt
swept_by s board Event.Sweep now seed (Answer.Swept swept) changes are pr r is =
    let P : Swept × List RowChange → Type 0 = λ f. SweepsLeast s now f.0 in
    subst P (sym is) (swept_least s board now are pr r (first_due (leases s) now) refl (redundant_in s board) refl)
swept_by s board Event.Sweep now seed (Answer.Reply reply) changes are pr r is = absurd is

-- ---- a request to prune

module _ (s : State) (board : List BoardRow) (before : ℕ) (are : AreBoard s board) where
  -- a finished pipeline that was made before the moment passes
  passes : (p : Pipeline) → p.created < before → is_open_in s board p ≡ false → is_prunable s board before p ≡ true
  passes p old finished = ap (λ t. t && not (is_open_in s board p)) (lt-ltb p.created before old) ∙ ap not finished

  least_prunable : Rising (λ (p : Pipeline). p.id) 0 s.pipelines → (p : Pipeline) → prunable_in s board before ≡ Some p → IsLeastPrunable s before p.id
  least_prunable rise p found =
      let first = has_find (is_prunable s board before) p s.pipelines found in
      let parts = and_parts (nat_lt p.created before) (not (is_open_in s board p)) first.1 in
      record {
        board = board;
        are_board = are;
        pipeline = p;
        is_pipeline = contains_from_has p s.pipelines first.0;
        number = refl;
        old = ltb-true p.created before parts.0;
        finished = not_true (is_open_in s board p) parts.1;
        least = All-from_has (λ (other : Pipeline). other.created < before → is_open_in s board other ≡ false → p.id ≤ other.id) s.pipelines (λ other k old finished.
            least_find (λ (q : Pipeline). q.id) (is_prunable s board before) p other 0 s.pipelines rise found k (passes other old finished));
      }

  none_prunable : prunable_in s board before ≡ None → NoneIsPrunable s before
  none_prunable found = record {
    board = board;
    are_board = are;
    none = All-from_has (λ (p : Pipeline). p.created < before → is_open_in s board p ≡ true) s.pipelines (λ p k old. ⊎_elim
        (λ e. e)
        (λ e. absurd (both_ways (is_prunable s board before p) (found_none (is_prunable s board before) p s.pipelines found k) (passes p old e)))
        (cases_Bool (is_open_in s board p)));
  }

  abbrev Fits : Plan → Type 0
  Fits plan = IsPrunedBy s (Event.Request (PruneOne before)) (Answer.Reply plan.0)

  fits : Rising (λ (p : Pipeline). p.id) 0 s.pipelines → (found : Option Pipeline) → prunable_in s board before ≡ found → Fits (prune found (jobs_in s found) s.attempts)
  fits rise None found = inr (refl, none_prunable found)
  fits rise (Some p) found = inl (p.id, refl, least_prunable rise p found)

pub pruned_by : (s : State) (board : List BoardRow) (e : Event) (now : ℕ) (seed : Seed) (a : Answer) (changes : List RowChange) → AreBoard s board → Rising (λ (p : Pipeline). p.id) 0 s.pipelines
    → Happens s board e now seed a changes → IsPrunedBy s e a
pruned_by s board (Event.Request (PruneOne before)) now seed (Answer.Reply reply) changes are rise is =
    subst (Fits s board before are) (sym is) (fits s board before are rise (prunable_in s board before) refl)
pruned_by s board (Event.Request (PruneOne before)) now seed (Answer.Swept swept) changes are rise is = absurd is
pruned_by s board e now seed a changes are rise is = tt
