-- A user acts on jobs: what is looked up of their pipeline gives the plan.
use Rattle.std.proofs.Common.{◌≡◌, ℕ, ◌+◌, ◌<◌, Bool, true, false, ◌==◌, List, [], ◌∷◌, ◌++◌, length, map, filter, find, take, All, Contains, if◌then◌else◌, Option, Some, None}
use Rattle.std.proofs.Common.{Result, Ok, Err, slice_index_or, refl, sym, ap, subst, ◌∙◌, ⊎_elim, arith, eq-eqb, eqb-true}
use Rattle.std.proofs.Math.Seq.{take-length}
use Rattle.std.proofs.lemmas.List.{get_or_default, map_more}
use Rattle.std.proofs.lemmas.List.Elements.{All-filter, All-contains_itself}
use Rattle.std.proofs.lemmas.Bool.{cond_both, cond-true, eqb-false}
use Rattle.std.specs.List.{AllByRecursion}
use Rattle.ci_machine_steps.specs.Prelude.{Row, Status, no_row, Job, Need, Attempt, Pipeline, BoardRow, Claim, GroupMode, WaitingJob, RowChange, Put, Record, IndexChange, Project}
use Rattle.ci_machine_steps.specs.Prelude.{JobQuery, PipelineQuery, Code, M2, M3, M12, Reply, Swept, State, applied, changed, Kept, put_rows, indexed_all, written, IsSound}
use Rattle.ci_machine_steps.specs.Prelude.{AreIndexes, is_free, Groups, held_claim, waiting_claim, is_first, claims_ahead, claims_on, holders, AreHolders, waiting, groups_with}
use Rattle.ci_machine_steps.specs.Prelude.{claims_in, status_of_jobs, jobs_of, facts_of, rows_of, status_for, AreBoard, Plan, refused, asked_project, job_shown, pipeline_shown}
use Rattle.ci_machine_steps.specs.Prelude.{job_within, asked_job, asked_pipeline, plain_options, project_with, pipeline_at, job_at, pipeline_of, project_or_none, queued}
use Rattle.ci_machine_steps.specs.Prelude.{with_status, found_job, found_pipeline, sweep, ActsOn, ShowsJobAfter, ShowsPipelineAfter, play, retry, cancel, cancelled_attempt}
use Rattle.ci_machine_steps.specs.Prelude.{cancellable_jobs, CancelsSome}
use Rattle.ci_board.specs.Prelude.{row_at}
use Rattle.ci_machine.proofs.Keyed.{Has, All-from_has, filter_has, has_from_contains, contains_from_has, has_from_all, find_has}
use Rattle.ci_machine_steps.proofs.Sound.{sound}
use Rattle.ci_server_lookups.specs.Prelude.{Act, Play, Retry, Cancel, Outcome, is_permitted, marked, ended_leases, act_changes, is_acted_on, acted_jobs, acted_state, shows_job_by}
use Rattle.ci_server_lookups.specs.Prelude.{shows_pipeline_by, IsOutcome, AreRecords, of_pipeline, unleased, AreOf, IsWhole, HoldAlike, FreeAlike, still_held, IsKept}
use Rattle.ci_server_lookups.specs.declared.records.Records.{Records}
use Rattle.ci_server_lookups.specs.declared.records.Whole.{Whole}
use Rattle.ci_server_lookups.proofs.Changes.{state_stays}
use Rattle.ci_server_lookups.proofs.Claiming.{with_alike}
use Rattle.ci_server_events.specs.declared.planned.Beside.{Beside}
use Rattle.ci_server_events.specs.declared.planned.Planned.{Planned}
use Rattle.ci_server_events.specs.Acting.{refusal_of, ActsAs, changes_by, IsDone}
use Rattle.ci_server_events.specs.Planning.{PlansFor, Settles}
use Rattle.ci_server_events.proofs.Found.{found_is_there}
use Rattle.ci_server_events.proofs.Held.{HoldsNone, still_alike, acts_hold_none}
use Rattle.ci_server_events.proofs.Leaving.{IsPlanned, plans_so}
use Rattle.ci_server_events.proofs.Settles.{settles_by, number_found}
use Rattle.ci_server_events.proofs.Showing.{job_alike, pipeline_alike}

-- ---- the laws, as they stand

abbrev OneIsAsked : Type 0
OneIsAsked = (act : Act) (s : State) (board : List BoardRow) (job : Job) → IsSound s → Contains s.jobs job
    → acted_jobs act (Some job.id) s board job.pipeline ≡ (if is_permitted act (status_for board job.id) then job ∷ [] else [])

abbrev AllAreAsked : Type 0
AllAreAsked = (s : State) (board : List BoardRow) (pipeline : ℕ) → acted_jobs Cancel None s board pipeline ≡ cancellable_jobs s board pipeline

abbrev JobIsShown : Type 0
JobIsShown = (act : Act) (s : State) (board : List BoardRow) (job : Job) (o : Outcome) → IsSound s → Contains s.jobs job → is_permitted act (status_for board job.id) ≡ true → IsOutcome act (Some job.id) s board job.pipeline o
    → (i : ℕ) × ((o.places.items ≡ i ∷ []) × ShowsJobAfter s job (act_changes act s (job ∷ [])) (shows_job_by s (put_rows o.changed.items board) (act_changes act s (job ∷ [])) job (row_at o.rows.items i).status))

abbrev PipelineIsShown : Type 0
PipelineIsShown = (act : Act) (s : State) (board : List BoardRow) (p : Pipeline) (o : Outcome) → IsSound s → IsOutcome act None s board p.id o
    → ShowsPipelineAfter s p (act_changes act s (acted_jobs act None s board p.id)) (shows_pipeline_by s (put_rows o.changed.items board) (act_changes act s (acted_jobs act None s board p.id)) p (jobs_of s p.id) o.facts.items o.rows.items)

abbrev ActsLeaveLines : Type 0
ActsLeaveLines = (act : Act) (only : Option ℕ) (s : State) (board : List BoardRow) (pipeline : ℕ) (o : Outcome) → IsSound s → IsOutcome act only s board pipeline o
    → claims_in (acted_state act only s board pipeline) (put_rows o.changed.items board) pipeline ≡ claims_on (groups_with (acted_state act only s board pipeline) (waiting s board)) pipeline

abbrev PlayIs : Type 0
PlayIs = (s : State) (job : Job) → act_changes Play s (job ∷ []) ≡ play job

abbrev RetryIs : Type 0
RetryIs = (s : State) (board : List BoardRow) (pipeline : ℕ) (jobs : List Job) (needs : List Need) (attempts : List Attempt) (rows : List BoardRow) (job : Job)
    → AreRecords s board pipeline jobs needs attempts rows → Contains jobs job → act_changes Retry s (job ∷ []) ≡ retry (filter (λ a. a.job == job.id) attempts) job

abbrev CancelsAre : Type 0
CancelsAre = (s : State) (jobs : List Job) → act_changes Cancel s jobs ≡ cancel s.attempts jobs

abbrev CancelIs : Type 0
CancelIs = (s : State) (board : List BoardRow) (pipeline : ℕ) (jobs : List Job) (needs : List Need) (attempts : List Attempt) (rows : List BoardRow) (chosen : List Job)
    → AreRecords s board pipeline jobs needs attempts rows → All (Contains jobs) chosen → act_changes Cancel s chosen ≡ cancel attempts chosen

abbrev ActsAreIndexed : Type 0
ActsAreIndexed = (act : Act) (only : Option ℕ) (k : Kept) (p : Pipeline) (jobs : List Job) (needs : List Need) (attempts : List Attempt) (rows : List BoardRow) (o : Outcome) (before after : Status)
    → IsSound k.state → AreBoard k.state k.board → AreIndexes k → Contains k.state.pipelines p → AreRecords k.state k.board p.id jobs needs attempts rows
    → IsOutcome act only k.state k.board p.id o → before ≡ (with_status k.state k.board p).status → after ≡ status_of_jobs jobs o.facts.items o.rows.items
    → let acted = acted_jobs act only k.state k.board p.id in
    AreIndexes (written (act_changes act k.state acted) o.changed.items (of_pipeline p (unleased act acted) attempts before after) k)

-- ---- one job

-- a job of the pipeline is among those that were looked up
among : (k : Kept) (job : Job) (r : Records) → AreOf k job.pipeline r → Contains k.state.jobs job → Contains r.jobs.items job
among k job r are has =
    contains_from_has job r.jobs.items
    (subst (λ (l : List Job). Has job l) (sym are.are_jobs) (filter_has (λ (j : Job). j.pipeline == job.pipeline) job k.state.jobs (has_from_contains job k.state.jobs has) (eq-eqb job.pipeline job.pipeline refl)))

-- the changes by what was looked up are those of the act
pub changes_are : PlayIs → RetryIs → CancelIs → (act : Act) (k : Kept) (job : Job) (r : Records) → AreOf k job.pipeline r → Contains k.state.jobs job
    → changes_by act r.attempts.items job ≡ act_changes act k.state (job ∷ [])
changes_are plays retries cancels Play k job r are has = sym (plays k.state job)
changes_are plays retries cancels Retry k job r are has = sym (retries k.state k.board job.pipeline r.jobs.items r.needs.items r.attempts.items r.rows.items job are (among k job r are has))
changes_are plays retries cancels Cancel k job r are has =
    sym (cancels k.state k.board job.pipeline r.jobs.items r.needs.items r.attempts.items r.rows.items (job ∷ []) are
    (All-from_has (Contains r.jobs.items) (job ∷ []) (λ j h. ⊎_elim (λ e. subst (Contains r.jobs.items) (sym e) (among k job r are has)) (λ none. absurd none) h)))

-- ---- what is done

chosen_are : (act : Act) (only : Option ℕ) (k : Kept) (n : ℕ) (w : Whole) (o : Outcome) (chosen : List Job) → IsWhole k n w → IsOutcome act only k.state k.board n o
    → ((other : Job) → chosen ≡ map (λ place. slice_index_or w.records.jobs.items place other) o.places.items) → chosen ≡ acted_jobs act only k.state k.board n
chosen_are act only k n w o chosen whole outcome are =
    are no_job ∙ (ap (λ (js : List Job). map (λ place. slice_index_or js place no_job) o.places.items) whole.records.are_jobs ∙ outcome.jobs no_job)
  where
    no_job : Job
    no_job = record { id = 0; pipeline = 0; position = 0; name = []; stage = []; options = plain_options []; played = false; cancelled = false; set_aside = 0 }

-- what marks jobs, and ends attempts, leaves pipelines and modes
both_left : (F : Job → Job) (G : Attempt → Attempt) (js : List Job) (attempts : List Attempt) (s : State) → let t = applied (map (λ j. Put (Record.Job (F j))) js ++ map (λ a. Put (Record.Attempt (G a))) attempts) s in
    (t.pipelines ≡ s.pipelines) × (t.modes ≡ s.modes)
both_left F G [] [] s = (refl, refl)
both_left F G [] (a ∷ rest) s = both_left F G [] rest (changed (Put (Record.Attempt (G a))) s)
both_left F G (j ∷ js) attempts s = both_left F G js attempts (changed (Put (Record.Job (F j))) s)

-- so does an act
act_leaves : (act : Act) (s : State) (js : List Job) → let t = applied (act_changes act s js) s in (t.pipelines ≡ s.pipelines) × (t.modes ≡ s.modes)
act_leaves act s js = both_left (marked act s) cancelled_attempt js (ended_leases act s.attempts js) s

-- and by the same modes the same waiting jobs go first
same_ahead : (s t : State) (ws : List WaitingJob) (n : ℕ) → t.modes ≡ s.modes → claims_ahead (groups_with s ws) n ≡ claims_ahead (groups_with t ws) n
same_ahead s t ws n same = ap (λ (modes : List GroupMode). map waiting_claim (filter (is_first modes n) ws)) (sym same)

-- what was worked out of what was looked up
pub done_is : ActsAreIndexed → ActsLeaveLines → (act : Act) (only : Option ℕ) (k : Kept) (n : ℕ) (w : Whole) (o : Outcome) (chosen : List Job) (before after : Status) (indexes : List IndexChange) (claims : List Claim)
    → IsKept k → IsWhole k n w → IsOutcome act only k.state k.board n o → ((other : Job) → chosen ≡ map (λ place. slice_index_or w.records.jobs.items place other) o.places.items)
    → before ≡ status_of_jobs (jobs_of k.state n) (facts_of k.state n) (rows_of k.state k.board n) → after ≡ status_of_jobs w.records.jobs.items o.facts.items o.rows.items
    → indexes ≡ of_pipeline w.pipeline (unleased act chosen) w.records.attempts.items before after → claims ≡ map held_claim (still_held indexes w.held.items) ++ w.ahead.items
    → IsDone act only k n w o indexes claims
done_is law lines act only k n w o chosen before after indexes claims kept whole outcome are was is indexes_are claims_are =
    record {
      outcome = outcome;
      are_indexes = right;
      alike = subst (λ (cs : List Claim). FreeAlike claims cs p.project w.records.jobs.items) (sym (lines act only k.state k.board n o kept.sound outcome)) its_claims;
    }
  where
    p : Pipeline
    p = w.pipeline

    acted : List Job
    acted = acted_jobs act only k.state k.board n

    cs : List RowChange
    cs = act_changes act k.state acted

    put : Kept
    put = record k { state = applied cs k.state; board = put_rows o.changed.items k.board }

    of_acted : indexes ≡ of_pipeline p (unleased act acted) w.records.attempts.items before after
    of_acted = indexes_are ∙ ap (λ (js : List Job). of_pipeline p (unleased act js) w.records.attempts.items before after) (chosen_are act only k n w o chosen whole outcome are)

    by_law : AreIndexes (written cs o.changed.items (of_pipeline p (unleased act acted) w.records.attempts.items before after) k)
    by_law =
        let there = found_is_there (λ (q : Pipeline). q.id == n) p k.state.pipelines whole.there in
        let e : p.id ≡ n = number_found k.state n w.pipeline whole.there in
        subst (λ (i : ℕ). AreIndexes (written (act_changes act k.state (acted_jobs act only k.state k.board i)) o.changed.items (of_pipeline p (unleased act (acted_jobs act only k.state k.board i)) w.records.attempts.items before after) k)) e
        (law act only k p w.records.jobs.items w.records.needs.items w.records.attempts.items w.records.rows.items o before after kept.sound kept.are_board kept.are_indexes there.0
        (subst (λ (i : ℕ). AreOf k i w.records) (sym e) whole.records)
        (subst (λ (i : ℕ). IsOutcome act only k.state k.board i o) (sym e) outcome)
        (was ∙ ap (λ (i : ℕ). status_of_jobs (jobs_of k.state i) (facts_of k.state i) (rows_of k.state k.board i)) (sym e))
        is)

    right : AreIndexes (written cs o.changed.items indexes k)
    right = subst (λ (l : List IndexChange). AreIndexes (written cs o.changed.items l k)) (sym of_acted) by_law

    -- how the groups stand then, where the jobs wait that waited before
    later : Groups
    later = groups_with (applied cs k.state) (waiting k.state k.board)

    its_holders : HoldAlike (still_held indexes w.held.items) (holders (applied cs k.state)) p.project w.records.jobs.items
    its_holders =
        still_alike k.state (applied cs k.state) put indexes
        (subst (λ (l : List IndexChange). AllByRecursion HoldsNone l) (sym of_acted) (acts_hold_none p (unleased act acted) w.records.attempts.items before after))
        kept.are_indexes.held (subst (λ (t : State). AreHolders t (indexed_all indexes put).holders) (state_stays indexes put) right.held) p.project w.held.items w.records.jobs.items whole.held

    -- others go first as before
    its_ahead : FreeAlike w.ahead.items (claims_ahead later n) p.project w.records.jobs.items
    its_ahead =
        subst (λ (l : List Claim). FreeAlike w.ahead.items l p.project w.records.jobs.items)
        (same_ahead k.state (applied cs k.state) (waiting k.state k.board) n (act_leaves act k.state acted).1) whole.ahead

    its_claims : FreeAlike claims (claims_on later n) p.project w.records.jobs.items
    its_claims =
        subst (λ (l : List Claim). FreeAlike l (claims_on later n) p.project w.records.jobs.items) (sym claims_are)
        (with_alike later n p.project w.records.jobs.items (still_held indexes w.held.items) w.ahead.items its_holders its_ahead)

-- it settles its changes
done_settles : (act : Act) (only : Option ℕ) (k : Kept) (n : ℕ) (w : Whole) (o : Outcome) (indexes : List IndexChange) (claims : List Claim) → IsDone act only k n w o indexes claims
    → (changes : List RowChange) (beside : Beside) → changes ≡ act_changes act k.state (acted_jobs act only k.state k.board n) → beside.rows ≡ o.changed → beside.indexes.items ≡ indexes
    → Settles k changes beside
done_settles act only k n w o indexes claims done changes beside same same_rows same_indexes =
    settles_by k changes (act_changes act k.state (acted_jobs act only k.state k.board n)) beside o.changed.items indexes same (ap (λ v. v.items) same_rows) same_indexes done.outcome.board done.are_indexes

-- it is done to the job where there is a place at which it is done
is_done : (b : Bool) (places : List ℕ) (f : ℕ → Job) (job : Job) → map f places ≡ (if b then job ∷ [] else []) → 0 < length places → b ≡ true
is_done true places f job e l = refl
is_done false [] f job e l = absurd (omega (arith, l))
is_done false (i ∷ is) f job e l = absurd (cc)

not_done : (b : Bool) (places : List ℕ) (f : ℕ → Job) (job : Job) → map f places ≡ (if b then job ∷ [] else []) → length places ≡ 0 → b ≡ false
not_done true [] f job e l = absurd (cc)
not_done true (i ∷ is) f job e l = absurd (omega (arith, l))
not_done false places f job e l = refl

-- the job is of the same project after it
same_project : (act : Act) (s : State) (js : List Job) (job : Job) (p : Pipeline) → pipeline_at s job.pipeline ≡ Some p → p.project ≡ (queued (applied (act_changes act s js) s) job).project
same_project act s js job p there =
    ap project_or_none (sym there)
    ∙ ap (λ (ps : List Pipeline). project_or_none (find (λ q. q.id == job.pipeline) ps)) (sym (act_leaves act s js).0)

module _ (k : Kept) (kept : IsKept k) (act : Act) (job : Job) (has : Contains k.state.jobs job) (w : Whole) (whole : IsWhole k job.pipeline w) (o : Outcome) (indexes : List IndexChange) (claims : List Claim)
    (done : IsDone act (Some job.id) k job.pipeline w o indexes claims) (asked : OneIsAsked) where
  abbrev its_changes : List RowChange
  its_changes = act_changes act k.state (job ∷ [])

  abbrev later : State
  later = applied its_changes k.state

  abbrev later_board : List BoardRow
  later_board = put_rows o.changed.items k.board

  -- for which groups its pipeline's jobs must wait then
  abbrev later_claims : List Claim
  later_claims = claims_in later later_board job.pipeline

  abbrev does : Job → List RowChange
  does j = act_changes act k.state (j ∷ [])

  abbrev permits : Bool
  permits = is_permitted act (status_for k.board job.id)

  -- by these claims, as by all then, the job's group is free or isn't
  abbrev IsAlike : Job → Type 0
  IsAlike j = is_free claims w.pipeline.project j.options.resource_group ≡ is_free later_claims w.pipeline.project j.options.resource_group

  one : acted_jobs act (Some job.id) k.state k.board job.pipeline ≡ (if permits then job ∷ [] else [])
  one = asked act k.state k.board job kept.sound has

  -- it is shown as by all claims
  shown_then : acted_jobs act (Some job.id) k.state k.board job.pipeline ≡ job ∷ [] → (status : Status) → job_shown claims w.pipeline.project job status ≡ job_shown later_claims (queued later job).project job status
  shown_then alone status =
      let alike : FreeAlike claims later_claims w.pipeline.project w.records.jobs.items
      = subst (λ (js : List Job). FreeAlike claims (claims_in (applied (act_changes act k.state js) k.state) later_board job.pipeline) w.pipeline.project w.records.jobs.items) alone done.alike in
      let its : IsAlike job = has_from_all IsAlike job w.records.jobs.items alike (has_from_contains job w.records.jobs.items (among k job w.records whole.records has)) in
      job_alike claims later_claims w.pipeline.project job status (All-from_has IsAlike (job ∷ []) (λ j h. ⊎_elim (λ e. subst IsAlike (sym e) its) (λ none. absurd none) h))
      ∙ ap (λ n. job_shown later_claims n job status) (same_project act k.state (job ∷ []) job w.pipeline whole.there)

  -- the job was asked for, and its status permits it
  pub job_planned : JobIsShown → 0 < length o.places.items → (plan : Plan) → plan ≡ ((job_shown claims w.pipeline.project job (row_at o.rows.items (slice_index_or o.places.items 0 0)).status).0, its_changes)
      → {p : Planned Reply} {b : Beside} → IsPlanned plan b p → b.rows ≡ o.changed → b.indexes.items ≡ indexes → PlansFor k (ActsAs act k.state k.board (Ok job) (p.answer, p.changes)) p
  job_planned shown some plan plan_is {b = b} planned same_rows same_indexes =
      let yes : permits ≡ true = is_done permits o.places.items (λ i. slice_index_or (jobs_of k.state job.pipeline) i job) job (done.outcome.jobs job ∙ one) some in
      let alone : acted_jobs act (Some job.id) k.state k.board job.pipeline ≡ job ∷ [] = one ∙ cond-true permits (job ∷ []) [] yes in
      let v = shown act k.state k.board job o kept.sound has yes done.outcome in
      let first : slice_index_or o.places.items 0 0 ≡ v.0 = ap (λ (l : List ℕ). slice_index_or l 0 0) v.1.0 in
      let is : plan ≡ shows_job_by k.state later_board its_changes job (row_at o.rows.items v.0).status
      = plan_is
      ∙ (ap (λ i. ((job_shown claims w.pipeline.project job (row_at o.rows.items i).status).0, its_changes)) first
      ∙ ap (λ (q : Plan). (q.0, its_changes)) (shown_then alone (row_at o.rows.items v.0).status)) in
      let made : ActsAs act k.state k.board (Ok job) plan =
      subst (λ b. ActsOn k.state does (if b then Ok job else Err (refusal_of act)) plan) (sym yes) (subst (ShowsJobAfter k.state job its_changes) (sym is) v.1.1) in
      plans_so k (ActsAs act k.state k.board (Ok job)) planned made
      (done_settles act (Some job.id) k job.pipeline w o indexes claims done plan.1 b (ap (λ (q : Plan). q.1) plan_is ∙ ap (act_changes act k.state) (sym alone)) same_rows same_indexes)

  -- its status doesn't permit it
  pub job_refused : length o.places.items ≡ 0 → (plan : Plan) → plan ≡ refused (refusal_of act) → ActsAs act k.state k.board (Ok job) plan
  job_refused none plan plan_is =
      let no : permits ≡ false = not_done permits o.places.items (λ i. slice_index_or (jobs_of k.state job.pipeline) i job) job (done.outcome.jobs job ∙ one) none in
      subst (λ b. ActsOn k.state does (if b then Ok job else Err (refusal_of act)) plan) (sym no) plan_is

-- ---- a pipeline

-- where there are such jobs they are cancelled
some_cancelled : (s : State) (p : Pipeline) (jobs : List Job) (plan : Plan) → 0 < length jobs → ShowsPipelineAfter s p (cancel s.attempts jobs) plan → CancelsSome s p jobs plan
some_cancelled s p [] plan l shows = absurd (omega (arith, l))
some_cancelled s p (j ∷ js) plan l shows = shows

none_cancelled : (s : State) (p : Pipeline) (jobs : List Job) (plan : Plan) → length jobs ≡ 0 → plan ≡ refused M12 → CancelsSome s p jobs plan
none_cancelled s p [] plan l is = is
none_cancelled s p (j ∷ js) plan l is = absurd (omega (arith, l))

module _ (k : Kept) (kept : IsKept k) (n : ℕ) (w : Whole) (whole : IsWhole k n w) (o : Outcome) (indexes : List IndexChange) (claims : List Claim) (done : IsDone Cancel None k n w o indexes claims)
    (chosen : List Job) (are_chosen : (other : Job) → chosen ≡ map (λ i. slice_index_or w.records.jobs.items i other) o.places.items) (all : AllAreAsked) where
  abbrev cancellable : List Job
  cancellable = cancellable_jobs k.state k.board n

  abbrev acted : List Job
  acted = acted_jobs Cancel None k.state k.board n

  -- the rows after it
  abbrev later_rows : List BoardRow
  later_rows = put_rows o.changed.items k.board

  chosen_acted : chosen ≡ acted
  chosen_acted = chosen_are Cancel None k n w o chosen whole done.outcome are_chosen

  chosen_is : chosen ≡ cancellable
  chosen_is = chosen_acted ∙ all k.state k.board n

  all_among : All (Contains w.records.jobs.items) chosen
  all_among =
      subst (All (Contains w.records.jobs.items)) (sym chosen_acted)
      (subst (λ (js : List Job). All (Contains js) acted) (sym whole.records.are_jobs)
      (All-filter (is_acted_on Cancel None k.board) (Contains (jobs_of k.state n)) (jobs_of k.state n) (All-contains_itself (jobs_of k.state n))))

  -- what was looked up gives the changes of the act
  looked_up : CancelIs → cancel w.records.attempts.items chosen ≡ act_changes Cancel k.state acted
  looked_up cancels =
      sym (cancels k.state k.board n w.records.jobs.items w.records.needs.items w.records.attempts.items w.records.rows.items chosen whole.records all_among) ∙ ap (act_changes Cancel k.state) chosen_acted

  -- which are those of the machine
  are_cancelled : CancelsAre → act_changes Cancel k.state acted ≡ cancel k.state.attempts cancellable
  are_cancelled cancels_are = cancels_are k.state acted ∙ ap (cancel k.state.attempts) (all k.state k.board n)

  settles_so : CancelIs → (changes : List RowChange) (beside : Beside) → changes ≡ cancel w.records.attempts.items chosen → beside.rows ≡ o.changed → beside.indexes.items ≡ indexes → Settles k changes beside
  settles_so cancels changes beside same same_rows same_indexes =
      done_settles Cancel None k n w o indexes claims done changes beside (same ∙ looked_up cancels) same_rows same_indexes

  -- some of its jobs can be cancelled
  pub pipeline_planned : PipelineIsShown → CancelsAre → CancelIs → w.pipeline.id ≡ n → 0 < length chosen → (plan : Plan)
      → plan ≡ ((pipeline_shown w.pipeline claims w.records.jobs.items o.facts.items o.rows.items).0, cancel w.records.attempts.items chosen)
      → {y : Planned Reply} {b : Beside} → IsPlanned plan b y → b.rows ≡ o.changed → b.indexes.items ≡ indexes → PlansFor k (CancelsSome k.state w.pipeline cancellable (y.answer, y.changes)) y
  pipeline_planned shown cancels_are cancels number some plan plan_is {b = b} planned same_rows same_indexes =
      let s = k.state in
      let p = w.pipeline in
      let both : act_changes Cancel s acted ≡ cancel s.attempts cancellable = are_cancelled cancels_are in
      let by_law : ShowsPipelineAfter s p (act_changes Cancel s acted) (shows_pipeline_by s later_rows (act_changes Cancel s acted) p (jobs_of s n) o.facts.items o.rows.items)
      = subst (λ (m : ℕ). ShowsPipelineAfter s p (act_changes Cancel s (acted_jobs Cancel None s k.board m)) (shows_pipeline_by s later_rows (act_changes Cancel s (acted_jobs Cancel None s k.board m)) p (jobs_of s m) o.facts.items o.rows.items)) number
      (shown Cancel s k.board p o kept.sound (subst (λ (m : ℕ). IsOutcome Cancel None s k.board m o) (sym number) done.outcome)) in
      let later : ℕ → List Claim = λ m. claims_in (applied (act_changes Cancel s acted) s) later_rows m in
      let told : (pipeline_shown p claims w.records.jobs.items o.facts.items o.rows.items).0 ≡ (pipeline_shown p (later p.id) (jobs_of s n) o.facts.items o.rows.items).0
      = ap (λ (q : Plan). q.0) (pipeline_alike claims (later n) p w.records.jobs.items done.alike o.facts.items o.rows.items
      ∙ (λ i. pipeline_shown p (later (sym number i)) (whole.records.are_jobs i) o.facts.items o.rows.items)) in
      let is : plan ≡ shows_pipeline_by s later_rows (act_changes Cancel s acted) p (jobs_of s n) o.facts.items o.rows.items
      = plan_is ∙ (λ i. (told i, looked_up cancels i)) in
      let shows : ShowsPipelineAfter s p (cancel s.attempts cancellable) plan
      = subst (λ (cs : List RowChange). ShowsPipelineAfter s p cs plan) both (subst (ShowsPipelineAfter s p (act_changes Cancel s acted)) (sym is) by_law) in
      let made : CancelsSome s p cancellable plan
      = some_cancelled s p cancellable plan (subst (λ (js : List Job). 0 < length js) chosen_is some) shows in
      plans_so k (CancelsSome s p cancellable) planned made (settles_so cancels plan.1 b (ap (λ (q : Plan). q.1) plan_is) same_rows same_indexes)

  -- none can be
  pub pipeline_refused : length chosen ≡ 0 → (plan : Plan) → plan ≡ refused M12 → CancelsSome k.state w.pipeline cancellable plan
  pipeline_refused none plan is = none_cancelled k.state w.pipeline cancellable plan (sym (ap length chosen_is) ∙ none) is

  -- a sweep cancels those that can be
  pub redundant_planned : CancelsAre → CancelIs → (p : Pipeline) (plan : Swept × List RowChange) → plan ≡ sweep None (Some p) w.records.attempts.items chosen
      → {y : Planned Swept} {b : Beside} → IsPlanned plan b y → b.rows ≡ o.changed → b.indexes.items ≡ indexes → PlansFor k ((y.answer, y.changes) ≡ sweep None (Some p) k.state.attempts cancellable) y
  redundant_planned cancels_are cancels p plan plan_is {b = b} planned same_rows same_indexes =
      plans_so k (λ (q : Swept × List RowChange). q ≡ sweep None (Some p) k.state.attempts cancellable) planned
      (plan_is ∙ ap (λ (cs : List RowChange). ((sweep None (Some p) [] []).0, cs)) (looked_up cancels ∙ are_cancelled cancels_are))
      (settles_so cancels plan.1 b (ap (λ (q : Swept × List RowChange). q.1) plan_is) same_rows same_indexes)

-- ---- what is found

module _ (s : State) (query : JobQuery) where
  within : (o : Option Job) (pipeline : Option Pipeline) (n : ℕ) (job : Job) → job_within o pipeline n ≡ Ok job → o ≡ Some job
  within None pipeline n job e = absurd (cc)
  within (Some j) None n job e = absurd (cc)
  within (Some j) (Some p) n job e = cond_both (p.project == n) (Ok j) (Err M3) (λ (r : Result Job Code). r ≡ Ok job → Some j ≡ Some job) (λ _ f. cc) (λ _ f. absurd (cc)) e

  of_project : (project : Option Project) (o : Option Job) (pipeline : Option Pipeline) (job : Job) → asked_job project o pipeline query ≡ Ok job → o ≡ Some job
  of_project None o pipeline job e = absurd (cc)
  of_project (Some p) o pipeline job e =
      cond_both (p.id == query.project) (job_within o pipeline p.id) (Err M2) (λ (r : Result Job Code). r ≡ Ok job → o ≡ Some job) (λ _ f. within o pipeline p.id job f) (λ _ f. absurd (cc)) e

  -- the job that was found is the one with the number
  pub found_at : (job : Job) → found_job s query ≡ Ok job → job_at s query.job ≡ Some job
  found_at job e = of_project (project_with s query.token) (job_at s query.job) (pipeline_of s (job_at s query.job)) job e

  -- it is one of the state's
  pub found_has : (job : Job) → found_job s query ≡ Ok job → Contains s.jobs job
  found_has job e = (found_is_there (λ (j : Job). j.id == query.job) job s.jobs (found_at job e)).0

-- the pipeline that was asked for is the one that was found
asked_for : (r : Result Project Code) (o : Option Pipeline) (p : Pipeline) → asked_pipeline r o ≡ Ok p → o ≡ Some p
asked_for (Err code) o p e = absurd (cc)
asked_for (Ok project) None p e = absurd (cc)
asked_for (Ok project) (Some q) p e = cond_both (q.project == project.id) (Ok q) (Err M3) (λ (r : Result Pipeline Code). r ≡ Ok p → Some q ≡ Some p) (λ _ f. cc) (λ _ f. absurd (cc)) e

-- it is one of the state's
pub pipeline_has : (s : State) (query : PipelineQuery) (p : Pipeline) → found_pipeline s query ≡ Ok p → Contains s.pipelines p
pipeline_has s query p e =
    (found_is_there (λ (q : Pipeline). q.id == query.pipeline) p s.pipelines (asked_for (asked_project (project_with s query.token) query.project) (pipeline_at s query.pipeline) p e)).0

-- the pipeline that is one of the state's is found at its number
pub pipeline_there : (s : State) (p : Pipeline) → IsSound s → Contains s.pipelines p → pipeline_at s p.id ≡ Some p
pipeline_there s p is has = find_has (λ (q : Pipeline). q.id) p 0 s.pipelines (sound s is).pipelines (has_from_contains p s.pipelines has)

-- ---- jobs at places

-- a job that is cloned is the same
same_job : (x y : Job) → (y.id ≡ x.id) × ((y.pipeline ≡ x.pipeline) × ((y.position ≡ x.position) × ((y.name ≡ x.name) × ((y.stage ≡ x.stage)
    × ((y.options ≡ x.options) × ((y.played ≡ x.played) × ((y.cancelled ≡ x.cancelled) × (y.set_aside ≡ x.set_aside)))))))) → y ≡ x
same_job x y h = λ i. record {
  id = h.0 i;
  pipeline = h.1.0 i;
  position = h.1.1.0 i;
  name = h.1.1.1.0 i;
  stage = h.1.1.1.1.0 i;
  options = h.1.1.1.1.1.0 i;
  played = h.1.1.1.1.1.1.0 i;
  cancelled = h.1.1.1.1.1.1.1.0 i;
  set_aside = h.1.1.1.1.1.1.1.1 i;
}

-- the clone of the next one is pushed
pub job_pushed : (jobs : List Job) (places : List ℕ) (n : ℕ) (found job : Job) (chosen pushed : List Job) (other : Job) → n < length places → slice_index_or places n 0 < length jobs
    → found ≡ slice_index_or jobs (slice_index_or places n 0) found
    → (job.id ≡ found.id) × ((job.pipeline ≡ found.pipeline) × ((job.position ≡ found.position) × ((job.name ≡ found.name) × ((job.stage ≡ found.stage)
    × ((job.options ≡ found.options) × ((job.played ≡ found.played) × ((job.cancelled ≡ found.cancelled) × (job.set_aside ≡ found.set_aside))))))))
    → chosen ≡ map (λ i. slice_index_or jobs i other) (take n places) → pushed ≡ chosen ++ job ∷ [] → pushed ≡ map (λ i. slice_index_or jobs i other) (take (n + 1) places)
job_pushed jobs places n found job chosen pushed other l inside is cloned before push =
    push
    ∙ ((λ i. before i ++ (same_job found job cloned ∙ (is ∙ get_or_default jobs (slice_index_or places n 0) found other inside)) i ∷ [])
    ∙ sym (map_more (λ i. slice_index_or jobs i other) places n 0 l))

pub all_pushed : (jobs : List Job) (places : List ℕ) (n : ℕ) (chosen : List Job) (other : Job) → n ≡ length places → chosen ≡ map (λ i. slice_index_or jobs i other) (take n places)
    → chosen ≡ map (λ i. slice_index_or jobs i other) places
all_pushed jobs places n chosen other l before = before ∙ ap (map (λ i. slice_index_or jobs i other)) (ap (λ m. take m places) l ∙ take-length places)

-- ---- lists by their lengths

pub not_empty : (n long : ℕ) (b : Bool) → b ≡ (n == 0) → b ≡ false → n ≡ long → 0 < long
not_empty n long b is full same = let d : n ≡ 0 → ⊥ = eqb-false n 0 (sym is ∙ full) in omega (arith, same, d)

pub is_empty : (n long : ℕ) (b : Bool) → b ≡ (n == 0) → b ≡ true → n ≡ long → long ≡ 0
is_empty n long b is bare same = sym same ∙ eqb-true n 0 (sym is ∙ bare)

-- the status at the first place
pub status_at : (o : Outcome) (count place : ℕ) (row : Row) → 0 < length o.places.items → All (λ i. i < count) o.places.items → length o.rows.items ≡ count
    → place ≡ slice_index_or o.places.items 0 place → row ≡ slice_index_or o.rows.items place row → row ≡ row_at o.rows.items (slice_index_or o.places.items 0 0)
status_at o count place row some all long at is =
    let first : place ≡ slice_index_or o.places.items 0 0 = at ∙ get_or_default o.places.items 0 place 0 some in
    let low : slice_index_or o.places.items 0 place < count = all 0 place some in
    let inside : place < length o.rows.items = subst (λ n. n < length o.rows.items) (sym at) (subst (λ n. slice_index_or o.places.items 0 place < n) (sym long) low) in
    is ∙ (get_or_default o.rows.items place row no_row inside ∙ ap (row_at o.rows.items) first)
