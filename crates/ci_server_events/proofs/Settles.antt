-- Which attempts the plans of events move, and how what changes beside them settles them.
use Rattle.std.proofs.Common.{◌≡◌, ℕ, Bool, true, false, max, ◌==◌, List, [], ◌∷◌, find, Some, None, Result, Ok, Err, Contains, refl, sym, ap, subst, ◌∙◌, inl, inr, ⊎_elim}
use Rattle.std.proofs.Common.{eqb-true, All, IfSome, Option}
use Rattle.std.specs.List.{AllByRecursion}
use Rattle.std.specs.Str.{bytes_eq}
use Rattle.std.proofs.lemmas.Bool.{cond_both}
use Rattle.std.proofs.lemmas.List.Elements.{All-contains, All-contains_itself, All-filter, filter_passes}
use Rattle.ci_machine_steps.specs.Prelude.{AttemptState, Live, is_live_state, Status, Attempt, Job, Need, Pipeline, BoardRow, Lease, LeaseFault, IndexChange}
use Rattle.ci_machine_steps.specs.Prelude.{Record, RowChange, Put, Report, JobUpdate, M5, status_of_jobs, AreIndexes, Kept, put_rows, written, is_live, is_over, while_leased}
use Rattle.ci_machine_steps.specs.Prelude.{renewed, first_due, cause_of, Plan, refused, update_job, reported, heard, ended, IsSound, State, applied, AreBoard, lease_of, leases}
use Rattle.ci_machine_steps.specs.Prelude.{live_attempts, pipeline_at, with_status, ends, is_within, needs_within, attempts_within, rows_within, jobs_of}
use Rattle.ci_machine.specs.Prelude.{Failed}
use Rattle.ci_server_lookups.specs.Prelude.{Settled, HasLive, LeavesStatuses, ended_state, IsSettled, AreRecords, of_pipeline, AreOf, IsKept}
use Rattle.ci_server_lookups.specs.declared.records.Records.{Records}
use Rattle.ci_server_events.specs.declared.planned.Beside.{Beside}
use Rattle.ci_server_events.specs.Planning.{Settles, MovesOne, attempt_ended}
use Rattle.ci_server_events.proofs.Found.{found_is_there, found_in_map}

-- the pipeline that is found at a number has it
pub number_found : (s : State) (n : ℕ) (p : Pipeline) → pipeline_at s n ≡ Some p → p.id ≡ n
number_found s n p there = eqb-true p.id n (found_is_there (λ (q : Pipeline). q.id == n) p s.pipelines there).1

-- what was looked up, as it is lent
pub of_slices : {s : State} {board : List BoardRow} {p : ℕ} {jobs js : List Job} {needs ws : List Need} {attempts bs : List Attempt} {rows rs : List BoardRow}
    → jobs ≡ js → needs ≡ ws → attempts ≡ bs → rows ≡ rs → AreRecords s board p js ws bs rs → AreRecords s board p jobs needs attempts rows
of_slices same_jobs same_needs same_attempts same_rows are = record {
  first = are.first;
  last = are.last;
  inside = subst (All (λ (j : Job). is_within are.first are.last j.id ≡ true)) (sym same_jobs) are.inside;
  are_jobs = same_jobs ∙ are.are_jobs;
  are_needs = same_needs ∙ are.are_needs;
  are_attempts = same_attempts ∙ are.are_attempts;
  are_rows = same_rows ∙ are.are_rows;
}

-- so are the records of a pipeline's jobs, between the first of them and the last one
pub are_found : (k : Kept) {n : ℕ} {range : Option (ℕ × ℕ)} {first last : ℕ} {jobs js : List Job} {needs : List Need} {attempts : List Attempt} {rows : List BoardRow} → IsSound k.state
    → range ≡ Some (first, last) → IfSome range (λ q. (s : State) (pipeline : ℕ) → IsSound s → jobs ≡ jobs_of s pipeline → All (λ j. is_within q.0 q.1 j.id ≡ true) jobs) → jobs ≡ jobs_of k.state n → js ≡ jobs_of k.state n
    → needs ≡ needs_within first last k.state.needs → attempts ≡ attempts_within first last k.state.attempts → rows ≡ rows_within first last k.board → AreRecords k.state k.board n js needs attempts rows
are_found k {n = n} {first = first} {last = last} {jobs = jobs} sound is within its are_jobs are_needs are_attempts are_rows = record {
  first = first;
  last = last;
  inside = subst (All (λ (j : Job). is_within first last j.id ≡ true)) (its ∙ sym are_jobs)
      (subst (λ z. IfSome z (λ q. (s : State) (pipeline : ℕ) → IsSound s → jobs ≡ jobs_of s pipeline → All (λ j. is_within q.0 q.1 j.id ≡ true) jobs)) is within k.state n sound its);
  are_jobs = are_jobs;
  are_needs = are_needs;
  are_attempts = are_attempts;
  are_rows = are_rows;
}

-- ---- what settles changes

-- by what stands in the rows and indexes
pub settles_by : (k : Kept) (changes cs : List RowChange) (beside : Beside) (rows : List BoardRow) (indexes : List IndexChange) → changes ≡ cs → beside.rows.items ≡ rows → beside.indexes.items ≡ indexes
    → AreBoard (applied cs k.state) (put_rows rows k.board) → AreIndexes (written cs rows indexes k) → Settles k changes beside
settles_by k changes cs beside rows indexes same same_rows same_indexes board are = record {
  board = subst (λ (l : List RowChange). AreBoard (applied l k.state) (put_rows beside.rows.items k.board)) (sym same)
      (subst (λ (l : List BoardRow). AreBoard (applied cs k.state) (put_rows l k.board)) (sym same_rows) board);
  indexes = subst (λ (l : List RowChange). AreIndexes (written l beside.rows.items beside.indexes.items k)) (sym same)
      (subst (λ (l : List BoardRow). AreIndexes (written cs l beside.indexes.items k)) (sym same_rows)
      (subst (λ (l : List IndexChange). AreIndexes (written cs rows l k)) (sym same_indexes) are));
}

-- ---- plans that move one attempt

-- what is accepted of an attempt is of a live one
live_state : {A : Type 0} (state : AttemptState) (over : Bool) (x y : A) → while_leased state over x ≡ Ok y → state ≡ Live
live_state Live over x y e = refl
live_state _ over x y e = absurd (cc)

heard_moves : (s : State) (a : Attempt) (limit now : ℕ) (r : Result ℕ LeaseFault) → Contains s.attempts a → renewed a limit now ≡ r → MovesOne s (heard a r).1
heard_moves s a limit now (Err fault) there e = inl refl
heard_moves s a limit now (Ok seen) there e =
    let live : a.state ≡ Live = live_state a.state (is_over a limit now) (max a.seen now) seen e in
    inr (record a { seen = seen }, (a, there, refl, refl, ap is_live_state live), refl)

ended_moves : (s : State) (a : Attempt) (r : Result AttemptState LeaseFault) → Contains s.attempts a → MovesOne s (ended a r).1
ended_moves s a (Err fault) there = inl refl
ended_moves s a (Ok state) there =
    cond_both (is_live a) (Put (Record.Attempt (record a { state = state })) ∷ []) [] (λ (cs : List RowChange). MovesOne s cs)
    (λ live. inr (record a { state = state }, (a, there, refl, refl, live), refl))
    (λ _. inl refl)

reported_moves : (s : State) (l : Lease) (said : Report) (now : ℕ) → Contains s.attempts l.attempt → MovesOne s (reported l said now).1
reported_moves s l Report.Running now there = heard_moves s l.attempt l.limit now _ there refl
reported_moves s l (Report.Success exit) now there = ended_moves s l.attempt _ there
reported_moves s l (Report.Failed cause exit) now there = ended_moves s l.attempt _ there

pub report_moves : (s : State) (l : Lease) (update : JobUpdate) (now : ℕ) → Contains s.attempts l.attempt → MovesOne s (update_job (Some l) update now).1
report_moves s l update now there =
    cond_both (bytes_eq l.attempt.token update.token) (reported l update.report now) (refused M5) (λ (p : Plan). MovesOne s p.1)
    (λ _. reported_moves s l update.report now there)
    (λ _. inl refl)

-- the lease that is due is of a live attempt
pub due_is_live : (s : State) (now : ℕ) (l : Lease) → first_due (leases s) now ≡ Some l → HasLive s l.attempt
due_is_live s now l e =
    let found = found_in_map (lease_of s) (λ (w : Lease). is_over w.attempt w.limit now) (live_attempts s) l e in
    let its : found.0 ≡ l.attempt = ap (λ (w : Lease). w.attempt) found.2 in
    let there : Contains s.attempts found.0 = All-contains (Contains s.attempts) (live_attempts s) found.0 (All-filter is_live (Contains s.attempts) s.attempts (All-contains_itself s.attempts)) found.1 in
    let live : is_live found.0 ≡ true = All-contains (λ (a : Attempt). is_live a ≡ true) (live_attempts s) found.0 (filter_passes is_live s.attempts) found.1 in
    (found.0, there, ap (λ (a : Attempt). a.id) its, ap (λ (a : Attempt). a.job) its, live)

-- a sweep moves the attempt whose lease is over
pub end_of_lease_moves : (s : State) (l : Lease) → HasLive s l.attempt → MovesOne s (ends l).1
end_of_lease_moves s l live = inr (record l.attempt { state = Failed (cause_of l) None }, live, refl)

-- ---- the end of an attempt

-- where the changes move one attempt and end none, nothing changes that a status depends on
pub still_moves : (s : State) (changes : List RowChange) → MovesOne s changes → attempt_ended changes ≡ None → AllByRecursion (LeavesStatuses s) changes
still_moves s changes moves none =
    ⊎_elim
    (λ e. subst (AllByRecursion (LeavesStatuses s)) (sym e) tt)
    (λ m. subst (AllByRecursion (LeavesStatuses s)) (sym m.2)
    (cond_both (is_live m.0) None (Some m.0) (λ o. o ≡ None → AllByRecursion (LeavesStatuses s) (Put (Record.Attempt m.0) ∷ []))
    (λ live _. ((m.1.0, m.1.1, m.1.2, m.1.3, both_live m.1.0.state m.0.state m.1.4 live), tt))
    (λ _ e. absurd (cc))
    (subst (λ (cs : List RowChange). attempt_ended cs ≡ None) m.2 none)))
    moves
  where
    both_live : (a b : AttemptState) → is_live_state a ≡ true → is_live_state b ≡ true → a ≡ b
    both_live Live Live e f = refl
    both_live Live _ e f = absurd (cc)
    both_live _ b e f = absurd (cc)

-- where they end one, they put it alone
pub end_moves : (s : State) (changes : List RowChange) (after : Attempt) → MovesOne s changes → attempt_ended changes ≡ Some after
    → HasLive s after × (is_live after ≡ false) × (changes ≡ Put (Record.Attempt after) ∷ [])
end_moves s changes after moves some =
    ⊎_elim
    (λ e. absurd (let bad : attempt_ended [] ≡ Some after = subst (λ (cs : List RowChange). attempt_ended cs ≡ Some after) e some in cc))
    (λ m.
    let same : (m.0 ≡ after) × (is_live m.0 ≡ false) = cond_both (is_live m.0) None (Some m.0) (λ o. o ≡ Some after → (m.0 ≡ after) × (is_live m.0 ≡ false)) (λ _ e. absurd (cc)) (λ over e. (cc, over))
    (subst (λ (cs : List RowChange). attempt_ended cs ≡ Some after) m.2 some) in
    (subst (HasLive s) same.0 m.1, subst (λ (a : Attempt). is_live a ≡ false) same.0 same.1, m.2 ∙ ap (λ (a : Attempt). Put (Record.Attempt a) ∷ []) same.0))
    moves

abbrev pub EndIsIndexed : Type 0
EndIsIndexed = (k : Kept) (p : Pipeline) (job : Job) (jobs : List Job) (needs : List Need) (attempts : List Attempt) (rows : List BoardRow) (ended : Attempt) (settled : Settled) (before after : Status)
    → IsSound k.state → AreBoard k.state k.board → AreIndexes k → Contains k.state.pipelines p → AreRecords k.state k.board p.id jobs needs attempts rows
    → Contains jobs job → ended.job ≡ job.id → HasLive k.state ended → is_live ended ≡ false → IsSettled k.state (ended_state k.state ended) k.board p.id settled
    → before ≡ (with_status k.state k.board p).status → after ≡ status_of_jobs jobs settled.facts.items settled.rows.items
    → AreIndexes (written (Put (Record.Attempt ended) ∷ []) settled.changed.items (of_pipeline p (job ∷ []) attempts before after) k)

-- what was worked out of the records of its pipeline settles the end of an attempt
pub end_settles : EndIsIndexed → (k : Kept) → IsKept k → (p : Pipeline) (r : Records) (x : Attempt) (job : Job) (v : Settled) (before after : Status) (indexes : List IndexChange) (beside : Beside)
    → pipeline_at k.state p.id ≡ Some p → AreOf k p.id r → HasLive k.state x → is_live x ≡ false → find (λ j. j.id == x.job) r.jobs.items ≡ Some job → IsSettled k.state (ended_state k.state x) k.board p.id v
    → before ≡ (with_status k.state k.board p).status → after ≡ status_of_jobs r.jobs.items v.facts.items v.rows.items
    → indexes ≡ of_pipeline p (job ∷ []) r.attempts.items before after → beside.rows.items ≡ v.changed.items → beside.indexes.items ≡ indexes
    → Settles k (Put (Record.Attempt x) ∷ []) beside
end_settles law k kept p r x job v before after indexes beside there records live over found settled was is are same_rows same_indexes =
    let its = found_is_there (λ (j : Job). j.id == x.job) job r.jobs.items found in
    let at = found_is_there (λ (q : Pipeline). q.id == p.id) p k.state.pipelines there in
    settles_by k (Put (Record.Attempt x) ∷ []) (Put (Record.Attempt x) ∷ []) beside v.changed.items (of_pipeline p (job ∷ []) r.attempts.items before after) refl same_rows (same_indexes ∙ are) settled.board
    (law k p job r.jobs.items r.needs.items r.attempts.items r.rows.items x v before after kept.sound kept.are_board kept.are_indexes at.0 records
    its.0 (sym (eqb-true job.id x.job its.1)) live over settled was is)
