-- What holds of each state that an event leads to, by what the step changes: so a refusal changes nothing, and the machine answers neither M16
-- nor M17.
use Rattle.ci_machine_laws.proofs.Prelude.{rules, ◌≡◌, ℕ, ◌==◌, Bool, List, [], length, not, nat_lt, true, false, Option, None, Some, option_map, Result, Ok, Err, ◌∷◌, refl, sym}
use Rattle.ci_machine_laws.proofs.Prelude.{ap, subst, ⊎_elim, eqb-true, bytes_eq, cond_both, and_parts, false≢true, MAX_TAGS, Has, has_filter, has_find, find-map, ◌&&◌}
use Rattle.ci_machine_laws.proofs.Prelude.{if◌then◌else◌, Failed, Rising, put_all, created_state, after_creation, pruned_state}
use Rattle.ci_machine_steps.specs.Prelude.{RunnerPause, BoardRow, Project, Pipeline, Job, Attempt, AttemptState, Lease, LeaseFault, NotLive, LeaseOver, PieceFault, Unleased}
use Rattle.ci_machine_steps.specs.Prelude.{WrongOffset, TraceFull, Runner, QueuedJob, JobVariable, Row, Variable, Claim, GroupMode, NewRunner, NewMode, NewPipeline, Event}
use Rattle.ci_machine_steps.specs.Prelude.{Request, AddProject, AddRunner, PauseRunner, SetFile, SetVariable, DeleteVariable, SetMode, ShowMode, CreatePipeline, ShowPipeline}
use Rattle.ci_machine_steps.specs.Prelude.{AskJob, UpdateJob, AppendTrace, ShowJob, ShowTrace, Read, Play, CancelJob, CancelPipeline, RetryJob, PruneOne, Report, JobUpdate}
use Rattle.ci_machine_steps.specs.Prelude.{TracePart, Seed, Code, M2, M3, M4, M5, M10, M11, M12, M15, M16, M17, Detail, K, Json, Answer, Swept, RowChange, Put, Record, is_name}
use Rattle.ci_machine_steps.specs.Prelude.{State, applied, jobs_of, attempts_of, facts_of, rows_of, status_for, MAX_NUMBER, Plan, refused, faulted, fine, made_project}
use Rattle.ci_machine_steps.specs.Prelude.{add_project, made_runner, are_names, lacks_project, add_runner, runner_paused, pause_runner, mode_told, Layout, IsLaidOut}
use Rattle.ci_machine_steps.specs.Prelude.{lacks_numbers, creation, pipeline_created, nothing_to_run, granted, ask_job, unleased, heard, ended, reported, update_job}
use Rattle.ci_machine_steps.specs.Prelude.{not_accepted, grown, appended, append_trace, pipeline_shown, job_shown, trace_shown, shown, traced, is_playable, play, is_retryable}
use Rattle.ci_machine_steps.specs.Prelude.{retry, is_cancellable, cancellable_jobs, cancel, sweep, prunable_in, pruned_reply, pipeline_goes, prune, accepted, first_due, may_run}
use Rattle.ci_machine_steps.specs.Prelude.{resource_free, is_eligible, chosen, order_of, groups_in, claims_in, Does, Happens, Step, project_with, project_named, runner_at}
use Rattle.ci_machine_steps.specs.Prelude.{redundant_in, cancellable_in, project_variables, variable_at, pipeline_at, runner_with, attempt_at, pipeline_of, job_at}
use Rattle.ci_machine_steps.specs.Prelude.{pipeline_or_none, found_pipeline, last_attempt, trace_of, trace_if_any, lease_of, leases, is_pending, pending_jobs, queued, queue}
use Rattle.ci_machine_steps.specs.Prelude.{offer, offered_variables, jobs_in, IsRefusal, Stepped, outcome_of, is_live, renewed, size_after, put, job_cmp, attempt_cmp, is_over}
use Rattle.ci_machine_steps.specs.Prelude.{cause_of, without_pipeline, live_attempts, Reply, is_grant, is_created, accepted_bytes, is_accepted, outcome_by}
use Rattle.ci_machine_laws.proofs.Acts.{IsAct, plays, retries, cancels, cancellable_within, after_act}
use Rattle.ci_machine_laws.proofs.Ends.{renewed_live, leased_live}
use Rattle.ci_machine_laws.proofs.EachPlan.{IsMachineCode, of_asked, is_asked, given_in, pipeline_by, asked, sets, puts, removes, sets_mode, tells_mode, creates, shows, acts_on}
use Rattle.ci_machine_laws.proofs.EachPlan.{cancels_by, of_read}

-- the event grants nothing, and accepts no bytes, with this answer, which says that there was a step
abbrev pub IsQuiet : Event → Answer → Type 0
IsQuiet e a = (is_grant e a ≡ false) × ((n : ℕ) → accepted_bytes n e a ≡ []) × (outcome_of a ≡ Stepped)

-- nor is it refused
abbrev pub IsDone : Event → Answer → Type 0
IsDone e a = (is_grant e a ≡ false) × ((n : ℕ) → accepted_bytes n e a ≡ []) × (outcome_of a ≡ Stepped) × (IsRefusal a → ⊥)

quiet_by : (request : Request) (reply : Reply) → is_created reply.status ≡ false → is_accepted reply.status ≡ false → outcome_by reply.code ≡ Stepped → IsQuiet (Event.Request request) (Answer.Reply reply)
quiet_by (AskJob token) reply created accepted stepped = (created, λ n. refl, stepped)
quiet_by (AppendTrace part) reply created accepted stepped = (refl, λ n. ap (λ b. if b && (part.attempt == n) then part.bytes else []) accepted, stepped)
quiet_by request reply created accepted stepped = (refl, λ n. refl, stepped)

-- the event leads to a state with other projects, runners, variables or process modes
pub data IsAside (s : State) (e : Event) : State → Type 0 where
  project_made : (name : List ℕ) (seed : Seed) → IsAside s e (applied (made_project s.next.project name seed).1 s)
  runner_made : (new : NewRunner) (seed : Seed) → IsAside s e (applied (made_runner s.next.runner new seed).1 s)
  runner_stands : (runner : Runner) (paused : Bool) → Has runner s.runners → IsAside s e (applied (runner_paused runner paused).1 s)
  file_stands : (project : Project) (text : Option (List ℕ)) → Has project s.projects → IsAside s e (applied (Put (Record.Project (record project { file = text })) ∷ []) s)
  variables_are : (vs : List Variable) → IsAside s e (record s { variables = vs })
  modes_are : (new : NewMode) → e ≡ Event.Request (SetMode new) → (ms : List GroupMode) → IsAside s e (record s { modes = ms })

-- a fact of each answer to an event and the state behind it, from a state whose jobs have these rows; without a pipeline it is this state
pub record EachStep (s : State) (board : List BoardRow) (e : Event) (left : Pipeline → State) (Q : Answer → State → Type 0) : Type 0 where
  pub stays : (a : Answer) → IsQuiet e a → Q a s
  pub aside : (a : Answer) → IsDone e a → (t : State) → IsAside s e t
      → Q a (record s { projects = t.projects; runners = t.runners; variables = t.variables; modes = t.modes; next = record s.next { project = t.next.project; runner = t.next.runner } })
  pub pipeline : (new : NewPipeline) (now : ℕ) → e ≡ Event.Request (CreatePipeline new) → (project : Project) (text : List ℕ) (laid : Layout) (claims : List Claim) (rows : List Row)
      → of_asked s new.token new.project ≡ Ok project → Has project s.projects → project.id ≡ new.project → project.file ≡ Some text
      → IsLaidOut text (given_in s new) (Ok laid) → lacks_numbers s.next.pipeline s.next.job (length laid.plan.jobs) ≡ false
      → let made = creation s.next.pipeline s.next.job new (given_in s new) now laid in Q (Answer.Reply (pipeline_created s.next.job made claims rows).0) (created_state s.next.job made s)
  pub granted : (token : List ℕ) → e ≡ Event.Request (AskJob token) → (runner : Runner) (job : Job) (q : QueuedJob) (variables : List JobVariable) (now : ℕ) (seed : Seed)
      → runner_with s token ≡ Some runner → chosen (queue s board) (groups_in s board) runner ≡ Some q → Has runner s.runners → Has job s.jobs → is_pending board job ≡ true → queued s job ≡ q → resource_free (groups_in s board) q ≡ true
      → let does = granted runner q variables s.next.attempt now seed in Q (Answer.Reply does.0) (applied does.1 s)
  -- a live attempt stands otherwise
  pub alters : (a : Answer) → IsDone e a → (old : Attempt) (seen : ℕ) (state : AttemptState) → Has old s.attempts → is_live old ≡ true → Q a (record s { attempts = put attempt_cmp (record old { seen = seen; state = state }) s.attempts })
  pub grown : (part : TracePart) → e ≡ Event.Request (AppendTrace part) → (old : Attempt) (now size : ℕ) → Has old s.attempts → old.id ≡ part.attempt → is_live old ≡ true
      → let does = grown old part.bytes now size in Q (Answer.Reply does.0) (applied does.1 s)
  pub acted : (a : Answer) → IsDone e a → (changes : List RowChange) (act : IsAct s changes) → Q a (record s { jobs = put_all job_cmp act.jobs s.jobs; attempts = put_all attempt_cmp act.attempts s.attempts })
  pub pruned : (p : Pipeline) (before : ℕ) → e ≡ Event.Request (PruneOne before) → prunable_in s board before ≡ Some p → Q (Answer.Reply (pruned_reply p.id)) (left p)

-- where the state's records stand by their numbers
abbrev pub EachNext : State → List BoardRow → Event → (Answer → State → Type 0) → Type 0
EachNext s board e Q = EachStep s board e (λ p. without_pipeline s p.id) Q

-- the state that the changes of a prune lead to
abbrev gone : State → Pipeline → State
gone s p = applied (pipeline_goes p (jobs_of s p.id) s.attempts) s

module _ (s : State) (board : List BoardRow) (Q : Answer → State → Type 0) where
  abbrev P : Plan → Type 0
  P plan = Q (Answer.Reply plan.0) (applied plan.1 s)

  abbrev Next : Request → Type 0
  Next request = EachStep s board (Event.Request request) (gone s) Q

  -- ---- what changes nothing

  steady : (request : Request) → Next request → (reply : Reply) → is_created reply.status ≡ false → is_accepted reply.status ≡ false → outcome_by reply.code ≡ Stepped → P (reply, [])
  steady request next reply created accepted stepped = next.stays (Answer.Reply reply) (quiet_by request reply created accepted stepped)

  refuses : (request : Request) → Next request → (c : Code) → IsMachineCode c → P (refused c)
  refuses request next M16 m = absurd m
  refuses request next M17 m = absurd m
  refuses request next c m = steady request next (refused c).0 refl refl refl

  faults : (request : Request) → Next request → (d : Detail) → P (faulted d)
  faults request next d = steady request next (faulted d).0 refl refl refl

  turns_away : (request : Request) → Next request → (fault : LeaseFault) → P (unleased fault, [])
  turns_away request next (NotLive state) = steady request next (unleased (NotLive state)) refl refl refl
  turns_away request next LeaseOver = steady request next (unleased LeaseOver) refl refl refl

  misplaces : (request : Request) → Next request → (fault : PieceFault) → P (not_accepted fault, [])
  misplaces request next (Unleased fault) = turns_away request next fault
  misplaces request next (WrongOffset size) = steady request next (not_accepted (WrongOffset size)) refl refl refl
  misplaces request next TraceFull = steady request next (not_accepted TraceFull) refl refl refl

  -- ---- what is done

  done : (request : Request) (reply : Reply) → is_created reply.status ≡ false → is_accepted reply.status ≡ false → outcome_by reply.code ≡ Stepped → (IsRefusal (Answer.Reply reply) → ⊥) → IsDone (Event.Request request) (Answer.Reply reply)
  done request reply created accepted stepped unrefused = let q = quiet_by request reply created accepted stepped in (q.0, q.1, q.2, unrefused)

  acts_by : (request : Request) → Next request → (text : List ℕ) (changes : List RowChange) → IsAct s changes → P (fine (Json text), changes)
  acts_by request next text changes act = subst (Q _) (sym (after_act s changes act)) (next.acted _ (done request (fine (Json text)) refl refl refl false≢true) changes act)

  projects : (name : List ℕ) → Next (AddProject name) → (seed : Seed) → P (add_project s.next.project name seed)
  projects name next seed =
      cond_both (not (is_name name)) (faulted (Detail.Code (K 16))) _ P (λ _. faults _ next (Detail.Code (K 16))) (λ _.
      cond_both (nat_lt MAX_NUMBER s.next.project) (refused M15) (made_project s.next.project name seed) P (λ _. refuses _ next M15 tt) (λ _. next.aside _ (refl, λ n. refl, refl, false≢true) _ (project_made name seed)))

  runners : (found : Option Project) (new : NewRunner) → Next (AddRunner new) → (seed : Seed) → P (add_runner s.next.runner found new seed)
  runners found new next seed =
      cond_both (nat_lt MAX_TAGS (length new.tags)) (faulted (Detail.Code (K 11))) _ P (λ _. faults _ next (Detail.Code (K 11))) (λ _.
      cond_both (not (are_names new)) (faulted (Detail.Code (K 16))) _ P (λ _. faults _ next (Detail.Code (K 16))) (λ _.
      cond_both (lacks_project new.project found) (refused M2) _ P (λ _. refuses _ next M2 tt) (λ _.
      cond_both (nat_lt MAX_NUMBER s.next.runner) (refused M15) (made_runner s.next.runner new seed) P (λ _. refuses _ next M15 tt) (λ _. next.aside _ (refl, λ n. refl, refl, false≢true) _ (runner_made new seed)))))

  pauses : (pause : RunnerPause) → Next (PauseRunner pause) → (found : Option Runner) → runner_at s pause.runner ≡ found → P (pause_runner found pause.paused)
  pauses pause next None is = refuses _ next M3 tt
  pauses pause next (Some r) is = next.aside _ (refl, λ n. refl, refl, false≢true) _ (runner_stands r pause.paused (has_find (λ (w : Runner). w.id == pause.runner) r s.runners is).0)

  offers : (token : List ℕ) → Next (AskJob token) → (now : ℕ) (seed : Seed) (runner : Runner) → runner_with s token ≡ Some runner → (q : Option QueuedJob) → chosen (queue s board) (groups_in s board) runner ≡ q → (variables : List JobVariable)
      → P (ask_job (Some runner) q variables s.next.attempt now seed)
  offers token next now seed runner found None offered variables = steady _ next nothing_to_run.0 refl refl refl
  offers token next now seed runner found (Some q) offered variables =
      let at = find-map (queued s) (is_eligible runner (groups_in s board)) q (pending_jobs s board) offered in
      let first = has_find (λ (j : Job). is_eligible runner (groups_in s board) (queued s j)) at.0 (pending_jobs s board) at.1.1 in
      let is_job = has_filter (is_pending board) at.0 s.jobs first.0 in
      let both = and_parts (may_run runner (queued s at.0).project at.0.options.tags) (resource_free (groups_in s board) (queued s at.0)) first.1 in
      cond_both (nat_lt MAX_NUMBER s.next.attempt) (refused M15) (granted runner q variables s.next.attempt now seed) P (λ _. refuses _ next M15 tt)
      (λ _. next.granted token refl runner at.0 q variables now seed found offered
      (has_find (λ (r : Runner). bytes_eq r.token token) runner s.runners found).0 is_job.0 is_job.1 at.1.0 (subst (λ (w : QueuedJob). resource_free (groups_in s board) w ≡ true) at.1.0 both.1))

  asks : (token : List ℕ) → Next (AskJob token) → (now : ℕ) (seed : Seed) (found : Option Runner) → runner_with s token ≡ found
      → P (ask_job found (offer s board found) (offered_variables s (offer s board found)) s.next.attempt now seed)
  asks token next now seed None found = refuses _ next M4 tt
  asks token next now seed (Some runner) found = offers token next now seed runner found (chosen (queue s board) (groups_in s board) runner) refl _

  module _ (update : JobUpdate) (next : Next (UpdateJob update)) where
    hears : (a : Attempt) → Has a s.attempts → (seen : Result ℕ LeaseFault) → ((z : ℕ) → seen ≡ Ok z → is_live a ≡ true) → P (heard a seen)
    hears a has (Ok seen) live = next.alters _ (refl, λ n. refl, refl, false≢true) a seen a.state has (live seen refl)
    hears a has (Err fault) live = turns_away _ next fault

    ends : (a : Attempt) → Has a s.attempts → (state : Result AttemptState LeaseFault) → P (ended a state)
    ends a has (Ok state) =
        let reply = (ended a (Ok state)).0 in
        cond_both (is_live a) (Put (Record.Attempt (record a { state = state })) ∷ []) [] (λ cs. Q (Answer.Reply reply) (applied cs s))
        (λ live. next.alters _ (refl, λ n. refl, refl, false≢true) a a.seen state has live)
        (λ _. steady _ next reply refl refl refl)
    ends a has (Err fault) = turns_away _ next fault

    reports : (l : Lease) → Has l.attempt s.attempts → (r : Report) (now : ℕ) → P (reported l r now)
    reports l has Report.Running now = hears l.attempt has _ (renewed_live l.attempt l.limit now)
    reports l has (Report.Success exit) now = ends l.attempt has _
    reports l has (Report.Failed cause exit) now = ends l.attempt has _

    updates : (now : ℕ) (a : Option Attempt) → attempt_at s update.attempt ≡ a → P (update_job (option_map (lease_of s) a) update now)
    updates now None found = refuses _ next M5 tt
    updates now (Some a) found =
        let has = has_find (λ (b : Attempt). b.id == update.attempt) a s.attempts found in
        cond_both (bytes_eq a.token update.token) (reported (lease_of s a) update.report now) (refused M5) P (λ _. reports (lease_of s a) has.0 update.report now) (λ _. refuses _ next M5 tt)

  module _ (part : TracePart) (next : Next (AppendTrace part)) where
    grows : (a : Attempt) → Has a s.attempts → a.id ≡ part.attempt → (now : ℕ) (size : Result ℕ PieceFault) → ((z : ℕ) → size ≡ Ok z → is_live a ≡ true) → P (appended a part.bytes now size)
    grows a has its now (Ok size) live = next.grown part refl a now size has its (live size refl)
    grows a has its now (Err fault) live = misplaces _ next fault

    appends : (now : ℕ) (a : Option Attempt) → attempt_at s part.attempt ≡ a → P (append_trace (option_map (lease_of s) a) (length (trace_of s part.attempt)) part now)
    appends now None found = refuses _ next M5 tt
    appends now (Some a) found =
        let l = lease_of s a in
        let has = has_find (λ (b : Attempt). b.id == part.attempt) a s.attempts found in
        let size = length (trace_of s part.attempt) in
        cond_both (bytes_eq a.token part.token) _ (refused M5) P
        (λ _. grows a has.0 (eqb-true a.id part.attempt has.1) now (accepted a l.limit now size part.from (length part.bytes))
        (leased_live a l.limit now (renewed a l.limit now) refl (size_after size part.from (length part.bytes))))
        (λ _. refuses _ next M5 tt)

  prunes : (before : ℕ) → Next (PruneOne before) → (found : Option Pipeline) → prunable_in s board before ≡ found → P (prune found (jobs_in s found) s.attempts)
  prunes before next None found = steady _ next nothing_to_run.0 refl refl refl
  prunes before next (Some p) found = next.pruned p before refl found

  does : (request : Request) → Next request → (now : ℕ) (seed : Seed) (plan : Plan) → Does s board request now seed plan → P plan
  does (AddProject name) next now seed plan is = subst P (sym is) (projects name next seed)
  does (AddRunner new) next now seed plan is = subst P (sym is) (runners (project_named s new.project) new next seed)
  does (PauseRunner pause) next now seed plan is = subst P (sym is) (pauses pause next (runner_at s pause.runner) refl)
  does (SetFile new) next now seed plan is =
      sets s P (refuses _ next) (faults _ next) new.project new.text plan
      (λ project c has. next.aside _ (refl, λ n. refl, refl, false≢true) _ (file_stands project (Some new.text) has)) (of_asked s new.token new.project) (is_asked s new.token new.project) is
  does (SetVariable new) next now seed plan is =
      subst P (sym is) (puts s P (refuses _ next) (faults _ next) new.project (project_variables s new.project) new
      (λ project. next.aside _ (refl, λ n. refl, refl, false≢true) _ (variables_are _)) (of_asked s new.token new.project) (is_asked s new.token new.project))
  does (DeleteVariable query) next now seed plan is =
      subst P (sym is) (removes s P (refuses _ next) (faults _ next) query.project
      (λ v. next.aside _ (refl, λ n. refl, refl, false≢true) _ (variables_are _)) (variable_at s query.project query.key) (of_asked s query.token query.project) (is_asked s query.token query.project))
  does (SetMode new) next now seed plan is =
      subst P (sym is) (sets_mode s P (refuses _ next) (faults _ next) new.project new
      (λ m. next.aside _ (refl, λ n. refl, refl, false≢true) _ (modes_are new refl _)) (λ n name. next.aside _ (refl, λ n. refl, refl, false≢true) _ (modes_are new refl _))
      (of_asked s new.token new.project) (is_asked s new.token new.project))
  does (ShowMode query) next now seed plan is =
      let order = order_of s.modes query.project query.group in
      subst P (sym is) (tells_mode s P (refuses _ next) (faults _ next) query.project query.group order
      (steady _ next (mode_told query.group order) refl refl refl) (of_asked s query.token query.project) (is_asked s query.token query.project))
  does (CreatePipeline new) next now seed plan is =
      creates s P (refuses _ next) (faults _ next) new now plan (λ project text laid claims rows asked has named file lays fits.
      subst (Q _) (sym (after_creation s.next.job (creation s.next.pipeline s.next.job new (given_in s new) now laid) s))
      (next.pipeline new now refl project text laid claims rows asked has named file lays fits))
      (of_asked s new.token new.project) refl (is_asked s new.token new.project) is
  does (ShowPipeline query) next now seed plan is =
      let n = query.pipeline in
      let claims = claims_in s board n in
      subst P (sym is) (shows s P (refuses _ next) (faults _ next) claims (jobs_of s n) (facts_of s n) (rows_of s board n)
      (λ p. steady _ next (pipeline_shown p claims (jobs_of s n) (facts_of s n) (rows_of s board n)).0 refl refl refl) (found_pipeline s query)
      (pipeline_by s query.project (pipeline_at s n) (of_asked s query.token query.project) (is_asked s query.token query.project)))
  does (AskJob token) next now seed plan is = subst P (sym is) (asks token next now seed (runner_with s token) refl)
  does (UpdateJob update) next now seed plan is = subst P (sym is) (updates update next now (attempt_at s update.attempt) refl)
  does (AppendTrace part) next now seed plan is = subst P (sym is) (appends part next now (attempt_at s part.attempt) refl)
  does (ShowJob query) next now seed plan is =
      let job = job_at s query.job in
      let status = status_for board query.job in
      let claims = claims_in s board (pipeline_or_none job) in
      subst P (sym is) (asked (λ r. P (shown claims query.project r status)) (project_with s query.token) job (pipeline_of s job) query
      (λ j _. steady _ next (job_shown claims query.project j status).0 refl refl refl) (refuses _ next))
  does (ShowTrace query) next now seed plan is =
      let job = job_at s query.job in
      let trace = trace_if_any s (last_attempt s query.job) in
      subst P (sym is) (asked (λ r. P (traced r trace)) (project_with s query.token) job (pipeline_of s job) query (λ _ _. steady _ next (trace_shown trace).0 refl refl refl) (refuses _ next))
  does (Read query) next now seed plan is = subst P (sym is) (of_read P (refuses _ next) (λ body. steady _ next (fine body) refl refl refl) s board query)
  does (Play query) next now seed plan is = acts_on s board P (refuses _ next) (acts_by _ next) play (plays s) is_playable M10 tt query plan is
  does (CancelJob query) next now seed plan is =
      acts_on s board P (refuses _ next) (acts_by _ next) (λ j. cancel s.attempts (j ∷ []))
      (λ j has. cancels s (j ∷ []) (λ w k. ⊎_elim (λ e. subst (λ (v : Job). Has v s.jobs) (sym e) has) (λ m. absurd m) k)) is_cancellable M12 tt query plan is
  does (RetryJob query) next now seed plan is = acts_on s board P (refuses _ next) (acts_by _ next) (λ j. retry (attempts_of s j.id) j) (retries s) is_retryable M11 tt query plan is
  does (CancelPipeline query) next now seed plan is =
      cancels_by s board P (refuses _ next) (acts_by _ next) plan
      (found_pipeline s query) (pipeline_by s query.project (pipeline_at s query.pipeline) (of_asked s query.token query.project) (is_asked s query.token query.project)) is
  does (PruneOne before) next now seed plan is = subst P (sym is) (prunes before next (prunable_in s board before) refl)

  swept : (now : ℕ) → EachStep s board Event.Sweep (gone s) Q → (o : Option Lease) → first_due (leases s) now ≡ o → (redundant : Option Pipeline)
      → let does = sweep o redundant s.attempts (cancellable_in s board redundant) in Q (Answer.Swept does.0) (applied does.1 s)
  swept now next None found None = next.stays _ (refl, λ n. refl, refl)
  swept now next None found (Some p) =
      let act = cancels s (cancellable_jobs s board p.id) (cancellable_within s board p.id) in
      subst (Q _) (sym (after_act s (cancel s.attempts (cancellable_jobs s board p.id)) act)) (next.acted _ (refl, λ n. refl, refl, λ r. r) _ act)
  swept now next (Some l) found redundant =
      let at = find-map (lease_of s) (λ (w : Lease). is_over w.attempt w.limit now) l (live_attempts s) found in
      let due = has_find (λ (b : Attempt). is_over b (lease_of s b).limit now) at.0 (live_attempts s) at.1.1 in
      let is : at.0 ≡ l.attempt = ap (λ (w : Lease). w.attempt) at.1.0 in
      let has = subst (λ (b : Attempt). Has b s.attempts × (is_live b ≡ true)) is (has_filter is_live at.0 s.attempts due.0) in
      next.alters _ (refl, λ n. refl, refl, λ r. r) l.attempt l.attempt.seen (Failed (cause_of l) None) has.0 has.1

  step_is : (e : Event) (now : ℕ) (seed : Seed) (a : Answer) (changes : List RowChange) → EachStep s board e (gone s) Q → Happens s board e now seed a changes → Q a (applied changes s)
  step_is (Event.Request request) now seed (Answer.Reply reply) changes next is = does request next now seed (reply, changes) is
  step_is Event.Sweep now seed (Answer.Swept out) changes next is =
      let F : Swept × List RowChange → Type 0 = λ f. Q (Answer.Swept f.0) (applied f.1 s) in
      subst F (sym is) (swept now next (first_due (leases s) now) refl (redundant_in s board))
  step_is e now seed a changes next is = absurd is

-- the answer to an event and the state behind it are one of these
pub next_is : (s : State) (board : List BoardRow) → Rising (λ (j : Job). j.id) 0 s.jobs → Rising (λ (a : Attempt). a.id) 0 s.attempts → (Q : Answer → State → Type 0) (e : Event) (now : ℕ) (seed : Seed) (a : Answer) (changes : List RowChange)
    → EachNext s board e Q → Happens s board e now seed a changes → Q a (applied changes s)
next_is s board jobs_rise rise Q e now seed a changes next is =
    step_is s board Q e now seed a changes (subst (λ (left : Pipeline → State). EachStep s board e left Q) (λ i p. sym (pruned_state s p.id jobs_rise rise p refl) i) next) is

-- ---- refusals

-- a refusal leaves the state, and the answer says neither M16 nor M17
abbrev IsSafe : State → Answer → State → Type 0
IsSafe s a t = (IsRefusal a → t ≡ s) × (outcome_of a ≡ Stepped)

all_safe : (s : State) (board : List BoardRow) (e : Event) → EachStep s board e (gone s) (IsSafe s)
all_safe s board e = search (rules, false≢true)

safe : (s t : State) (e : Event) (now : ℕ) (seed : Seed) (a : Answer) → Step s e now seed a t → IsSafe s a t
safe s t e now seed a step = subst (IsSafe s a) (sym step.state) (step_is s step.before (IsSafe s) e now seed a step.changes (all_safe s step.before e) step.happens)

pub unchanged : (s t : State) (e : Event) (now : ℕ) (seed : Seed) (a : Answer) → Step s e now seed a t → IsRefusal a → t ≡ s
unchanged s t e now seed a step = (safe s t e now seed a step).0

pub answered : (s t : State) (e : Event) (now : ℕ) (seed : Seed) (a : Answer) → Step s e now seed a t → outcome_of a ≡ Stepped
answered s t e now seed a step = (safe s t e now seed a step).1
