-- What holds of the plan of each request, by what is asked for and whether it is there.
use Rattle.ci_machine_laws.proofs.Prelude.{ap, ◌∙◌, ◌≡◌, ℕ, ◌==◌, Bool, List, [], length, not, nat_lt, true, false, Option, None, Some, Result, Ok, Err, ◌∷◌, refl, sym, subst}
use Rattle.ci_machine_laws.proofs.Prelude.{eqb-true, bytes_eq, cond_both, Config, MAX_VARIABLES, Given, Has, has_find}
use Rattle.ci_machine_steps.specs.Prelude.{Read, Event, Answer, Seed, Step, Reply, Status, BoardRow, Project, Pipeline, Job, Attempt, is_variable_name, Facts, Row, Variable}
use Rattle.ci_machine_steps.specs.Prelude.{Claim, GroupMode, GroupOrder, NewVariable, NewMode, NewPipeline, JobQuery, Subject, ReadQuery, Code, M1, M2, M3, M4, M5, M10, M11, M12}
use Rattle.ci_machine_steps.specs.Prelude.{M13, M14, M15, Detail, K, Body, Json, RowChange, Put, Remove, Record, Key, is_name, State, applied, jobs_of, facts_of, rows_of}
use Rattle.ci_machine_steps.specs.Prelude.{status_for, printed_status, job_data, pipeline_data, Plan, refused, faulted, fine, asked_project, file_set, set_file, SetsFile}
use Rattle.ci_machine_steps.specs.Prelude.{count_with, variable_set, set_variable, variable_gone, delete_variable, mode_told, mode_change, set_mode, show_mode, have_names}
use Rattle.ci_machine_steps.specs.Prelude.{file_or_none, may_create, given_by, Layout, IsLaidOut, lacks_numbers, creation, creation_changes, pipeline_created, MakesUnless, Makes}
use Rattle.ci_machine_steps.specs.Prelude.{Creates, asked_pipeline, pipeline_within, pipeline_shown, show_pipeline, job_within, asked_job, jobs_read, attempts_read}
use Rattle.ci_machine_steps.specs.Prelude.{attempt_within, attempt_of, trace_read, read_of, read, permitted, ActsOn, cancellable_jobs, cancel, CancelsSome, CancelsPipeline}
use Rattle.ci_machine_steps.specs.Prelude.{claims_in, project_with, project_variables, pipeline_at, attempt_at, pipeline_of, job_at, found_job, queued}
use Rattle.serde_json.specs.Written.{compact_text}
use Rattle.ci_machine_steps.specs.Reads.{told}
use Rattle.ci_machine_laws.proofs.Acts.{IsAct, cancels, cancellable_within}

-- the codes with which the machine refuses
abbrev pub IsMachineCode : Code → Type 0
IsMachineCode M1 = Unit {0}
IsMachineCode M2 = Unit {0}
IsMachineCode M3 = Unit {0}
IsMachineCode M4 = Unit {0}
IsMachineCode M5 = Unit {0}
IsMachineCode M10 = Unit {0}
IsMachineCode M11 = Unit {0}
IsMachineCode M12 = Unit {0}
IsMachineCode M13 = Unit {0}
IsMachineCode M14 = Unit {0}
IsMachineCode M15 = Unit {0}
IsMachineCode _ = ⊥

-- ---- a project that is asked for, its file, its variables and its pipelines

-- a project that was asked for is there and has the number; and else the request is refused
abbrev pub Asked : State → ℕ → Result Project Code → Type 0
Asked s named (Ok project) = Has project s.projects × (project.id ≡ named)
Asked s named (Err code) = IsMachineCode code

asked_is : (s : State) (token : List ℕ) (named : ℕ) (o : Option Project) → project_with s token ≡ o → Asked s named (asked_project o named)
asked_is s token named None found = tt
asked_is s token named (Some project) found =
    cond_both (project.id == named) (Ok project) (Err M2) (Asked s named)
    (λ e. ((has_find (λ (p : Project). bytes_eq p.token token) project s.projects found).0, eqb-true project.id named e))
    (λ _. tt)

-- the project that was asked for
abbrev pub of_asked : State → List ℕ → ℕ → Result Project Code
of_asked s token named = asked_project (project_with s token) named

pub is_asked : (s : State) (token : List ℕ) (named : ℕ) → Asked s named (of_asked s token named)
is_asked s token named = asked_is s token named (project_with s token) refl

-- a pipeline that was asked for, or a code that refuses the request
abbrev pub IsPipeline : Result Pipeline Code → Type 0
IsPipeline (Ok p) = Unit {0}
IsPipeline (Err code) = IsMachineCode code

pipeline_in : (found : Option Pipeline) (project : ℕ) → IsPipeline (pipeline_within found project)
pipeline_in None project = tt
pipeline_in (Some p) project = cond_both (p.project == project) (Ok p) (Err M3) IsPipeline (λ _. tt) (λ _. tt)

pub pipeline_by : (s : State) (named : ℕ) (found : Option Pipeline) (r : Result Project Code) → Asked s named r → IsPipeline (asked_pipeline r found)
pipeline_by s named found (Err code) asked = asked
pipeline_by s named found (Ok project) asked = pipeline_in found project.id

abbrev pub given_in : State → NewPipeline → Given
given_in s new = given_by new (project_variables s new.project)

-- a fact of each plan by which a pipeline is made
abbrev pub OfCreation : State → (Plan → Type 0) → NewPipeline → ℕ → Type 0
OfCreation s P new now =
    (project : Project) (text : List ℕ) (laid : Layout) (claims : List Claim) (rows : List Row) → of_asked s new.token new.project ≡ Ok project → Has project s.projects → project.id ≡ new.project → project.file ≡ Some text
    → IsLaidOut text (given_in s new) (Ok laid) → lacks_numbers s.next.pipeline s.next.job (length laid.plan.jobs) ≡ false
    → P (pipeline_created s.next.job (creation s.next.pipeline s.next.job new (given_in s new) now laid) claims rows)

module _ (s : State) (P : Plan → Type 0) (of_code : (c : Code) → IsMachineCode c → P (refused c)) (of_fault : (d : Detail) → P (faulted d)) where
  file_said : (project : Project) (text : List ℕ) → ((c : Config) → P (file_set project text c)) → (said : Result Config Detail) → P (set_file project text said)
  file_said project text h (Ok c) = h c
  file_said project text h (Err d) = of_fault d

  pub sets : (named : ℕ) (text : List ℕ) (plan : Plan) → ((project : Project) (c : Config) → Has project s.projects → P (file_set project text c)) → (r : Result Project Code) → Asked s named r → SetsFile r text plan → P plan
  sets named text plan h (Err code) asked is = subst P (sym is) (of_code code asked)
  sets named text plan h (Ok project) asked is = subst P (sym is.2) (file_said project text (λ c. h project c asked.0) is.0)

  pub puts : (named : ℕ) (vs : List Variable) (new : NewVariable) → ((project : Project) → P (variable_set project new)) → (r : Result Project Code) → Asked s named r → P (set_variable r vs new)
  puts named vs new h (Err code) asked = of_code code asked
  puts named vs new h (Ok project) asked =
      cond_both (nat_lt MAX_VARIABLES (count_with new.key vs)) (faulted (Detail.Code (K 11))) _ P (λ _. of_fault (Detail.Code (K 11))) (λ _.
      cond_both (not (is_variable_name new.key)) (faulted (Detail.Code (K 12))) (variable_set project new) P (λ _. of_fault (Detail.Code (K 12))) (λ _. h project))

  pub removes : (named : ℕ) → ((v : Variable) → P (variable_gone v)) → (found : Option Variable) (r : Result Project Code) → Asked s named r → P (delete_variable r found)
  removes named h found (Err code) asked = of_code code asked
  removes named h None (Ok project) asked = of_code M3 tt
  removes named h (Some v) (Ok project) asked = h v

  -- ---- the process mode of a resource group

  orders : (project : ℕ) (group : List ℕ) → ((m : GroupMode) → P (mode_told m.group (Some m.order), Put (Record.Mode m) ∷ [])) → ((n : ℕ) (name : List ℕ) → P (mode_told name None, Remove (Key.Mode n name) ∷ []))
      → (order : Option GroupOrder) → P (mode_told group order, mode_change project group order ∷ [])
  orders project group h gone None = gone project group
  orders project group h gone (Some order) = h (record { project = project; group = group; order = order })

  pub sets_mode : (named : ℕ) (new : NewMode) → ((m : GroupMode) → P (mode_told m.group (Some m.order), Put (Record.Mode m) ∷ [])) → ((n : ℕ) (name : List ℕ) → P (mode_told name None, Remove (Key.Mode n name) ∷ []))
      → (r : Result Project Code) → Asked s named r → P (set_mode r new)
  sets_mode named new h gone (Err code) asked = of_code code asked
  sets_mode named new h gone (Ok project) asked = orders project.id new.group h gone new.order

  pub tells_mode : (named : ℕ) (group : List ℕ) (order : Option GroupOrder) → P (mode_told group order, []) → (r : Result Project Code) → Asked s named r → P (show_mode r order group)
  tells_mode named group order h (Err code) asked = of_code code asked
  tells_mode named group order h (Ok project) asked = h

  -- ---- a pipeline is to be made

  unless : (new : NewPipeline) (now : ℕ) (plan : Plan) (laid : Layout) → let lacking = lacks_numbers s.next.pipeline s.next.job (length laid.plan.jobs) in let made = creation s.next.pipeline s.next.job new (given_in s new) now laid in
      (lacking ≡ false → (claims : List Claim) (rows : List Row) → P (pipeline_created s.next.job made claims rows)) → (lacks : Bool) → lacking ≡ lacks → MakesUnless lacks s s.next.job made plan → P plan
  unless new now plan laid h true e is = subst P (sym is) (of_code M15 tt)
  unless new now plan laid h false e is =
      let t = applied (creation_changes s.next.job (creation s.next.pipeline s.next.job new (given_in s new) now laid)) s in
      subst P (sym is.2) (h e (claims_in t is.0 s.next.pipeline) (rows_of t is.0 s.next.pipeline))

  makes : (new : NewPipeline) (now : ℕ) (plan : Plan) → OfCreation s P new now → (project : Project) → of_asked s new.token new.project ≡ Ok project → Asked s new.project (Ok project)
      → (text : List ℕ) → project.file ≡ Some text → (laid : Result Layout Detail) → IsLaidOut text (given_in s new) laid → Makes s new (given_in s new) now laid plan → P plan
  makes new now plan h project is_project asked text file (Err fault) lays is = subst P (sym is) (of_fault fault)
  makes new now plan h project is_project asked text file (Ok laid) lays is =
      unless new now plan laid (λ fits claims rows. h project text laid claims rows is_project asked.0 asked.1 file lays fits) (lacks_numbers s.next.pipeline s.next.job (length laid.plan.jobs)) refl is

  reads : (new : NewPipeline) (now : ℕ) (plan : Plan) → OfCreation s P new now → (project : Project) → of_asked s new.token new.project ≡ Ok project → Asked s new.project (Ok project)
      → (file : Option (List ℕ)) → project.file ≡ file → Creates s new (given_in s new) now (file_or_none file) plan → P plan
  reads new now plan h project is_project asked None file is = subst P (sym is) (of_code M13 tt)
  reads new now plan h project is_project asked (Some text) file is = makes new now plan h project is_project asked text file is.0 is.1 is.2

  pub creates : (new : NewPipeline) (now : ℕ) (plan : Plan) → OfCreation s P new now → (r : Result Project Code) → of_asked s new.token new.project ≡ r → Asked s new.project r
      → Creates s new (given_in s new) now (may_create r new) plan → P plan
  creates new now plan h (Err code) is asked made = subst P (sym made) (of_code code asked)
  creates new now plan h (Ok project) is asked made =
      let C : Result (List ℕ) Plan → Type 0 = λ t. Creates s new (given_in s new) now t plan → P plan in
      cond_both (not (is_name new.git_ref)) (Err (faulted (Detail.Code (K 16)))) _ C (λ _ k. subst P (sym k) (of_fault (Detail.Code (K 16)))) (λ _.
      cond_both (nat_lt MAX_VARIABLES (length new.variables)) (Err (faulted (Detail.Code (K 11)))) _ C (λ _ k. subst P (sym k) (of_fault (Detail.Code (K 11)))) (λ _.
      cond_both (not (have_names new.variables)) (Err (faulted (Detail.Code (K 12)))) (file_or_none project.file) C (λ _ k. subst P (sym k) (of_fault (Detail.Code (K 12))))
      (λ _. reads new now plan h project is asked project.file refl))) made

  -- ---- a pipeline is shown

  pub shows : (claims : List Claim) (jobs : List Job) (facts : List Facts) (rows : List Row) → ((p : Pipeline) → P (pipeline_shown p claims jobs facts rows)) → (r : Result Pipeline Code) → IsPipeline r → P (show_pipeline r claims jobs facts rows)
  shows claims jobs facts rows h (Err code) found = of_code code found
  shows claims jobs facts rows h (Ok p) found = h p

-- ---- what a user does to jobs

-- a job that was asked for is there, and else the request is refused
abbrev Found : State → Result Job Code → Type 0
Found s (Ok job) = Has job s.jobs
Found s (Err code) = IsMachineCode code

-- the query names this job, of a pipeline of the project that has its token
pub record IsAsked (project : Option Project) (found : Option Job) (pipeline : Option Pipeline) (query : JobQuery) (job : Job) : Type 0 where
  pub owner : Project
  pub its : Pipeline
  pub is_owner : project ≡ Some owner
  pub is_found : found ≡ Some job
  pub is_pipeline : pipeline ≡ Some its
  pub named : (owner.id == query.project) ≡ true
  pub within : (its.project == owner.id) ≡ true

-- a query names a job, or is refused
within : (Q : Result Job Code → Type 0) (job : Option Job) (pipeline : Option Pipeline) (project : ℕ)
    → ((j : Job) (p : Pipeline) → job ≡ Some j → pipeline ≡ Some p → (p.project == project) ≡ true → Q (Ok j)) → ((c : Code) → IsMachineCode c → Q (Err c)) → Q (job_within job pipeline project)
within Q None pipeline project fine refused = refused M3 tt
within Q (Some job) None project fine refused = refused M3 tt
within Q (Some job) (Some pipeline) project fine refused = cond_both (pipeline.project == project) (Ok job) (Err M3) Q (fine job pipeline refl refl) (λ _. refused M3 tt)

pub asked : (Q : Result Job Code → Type 0) (project : Option Project) (found : Option Job) (pipeline : Option Pipeline) (query : JobQuery)
    → ((j : Job) → IsAsked project found pipeline query j → Q (Ok j)) → ((c : Code) → IsMachineCode c → Q (Err c)) → Q (asked_job project found pipeline query)
asked Q None found pipeline query fine refused = refused M1 tt
asked Q (Some owner) found pipeline query fine refused =
    cond_both (owner.id == query.project) (job_within found pipeline owner.id) (Err M2) Q
    (λ named. within Q found pipeline owner.id (λ j p is is_its inside. fine j (record { owner = owner; its = p; is_owner = refl; is_found = is; is_pipeline = is_its; named = named; within = inside })) refused)
    (λ _. refused M2 tt)

job_at_has : (s : State) (n : ℕ) (j : Job) → job_at s n ≡ Some j → Has j s.jobs
job_at_has s n j e = (has_find (λ (w : Job). w.id == n) j s.jobs e).0

found_by : (s : State) (query : JobQuery) (project : Option Project) → Found s (asked_job project (job_at s query.job) (pipeline_of s (job_at s query.job)) query)
found_by s query project = asked (Found s) project (job_at s query.job) (pipeline_of s (job_at s query.job)) query (λ j w. job_at_has s query.job j w.is_found) (λ c m. m)

module _ (s : State) (board : List BoardRow) (P : Plan → Type 0) (of_code : (c : Code) → IsMachineCode c → P (refused c))
    (of_act : (text : List ℕ) (changes : List RowChange) → IsAct s changes → P (fine (Json text), changes)) where
  permits : (test : Status → Bool) (code : Code) → IsMachineCode code → (r : Result Job Code) → Found s r → Found s (permitted board test code r)
  permits test code m (Err refusal) found = found
  permits test code m (Ok job) found = cond_both (test (status_for board job.id)) (Ok job) (Err code) (Found s) (λ _. found) (λ _. m)

  acts : (act : Job → List RowChange) → ((j : Job) → Has j s.jobs → IsAct s (act j)) → (plan : Plan) (r : Result Job Code) → Found s r → ActsOn s act r plan → P plan
  acts act are plan (Err code) found is = subst P (sym is) (of_code code found)
  acts act are plan (Ok job) found is =
      let t = applied (act job) s in
      subst P (sym is.2) (of_act (compact_text (job_data (printed_status (claims_in t is.0 job.pipeline) (queued t job).project job (status_for is.0 job.id)) job)) (act job) (are job found))

  pub acts_on : (act : Job → List RowChange) → ((j : Job) → Has j s.jobs → IsAct s (act j)) → (test : Status → Bool) (code : Code) → IsMachineCode code → (query : JobQuery) (plan : Plan)
      → ActsOn s act (permitted board test code (found_job s query)) plan → P plan
  acts_on act are test code m query plan is =
      acts act are plan (permitted board test code (found_job s query)) (permits test code m (found_job s query) (found_by s query (project_with s query.token))) is

  cancels_some : (plan : Plan) (p : Pipeline) (jobs : List Job) → ((j : Job) → Has j jobs → Has j s.jobs) → CancelsSome s p jobs plan → P plan
  cancels_some plan p [] within is = subst P (sym is) (of_code M12 tt)
  cancels_some plan p (j ∷ js) within is =
      let changes = cancel s.attempts (j ∷ js) in
      let t = applied changes s in
      subst P (sym is.2) (of_act (compact_text (pipeline_data p (claims_in t is.0 p.id) (jobs_of t p.id) (facts_of t p.id) (rows_of t is.0 p.id))) changes (cancels s (j ∷ js) within))

  pub cancels_by : (plan : Plan) (r : Result Pipeline Code) → IsPipeline r → CancelsPipeline s board r plan → P plan
  cancels_by plan (Err code) found is = subst P (sym is) (of_code code found)
  cancels_by plan (Ok p) found is =
      cancels_some plan p (cancellable_jobs s board p.id) (cancellable_within s board p.id) is

-- ---- what is read of a project

-- something was read, or a code refuses the request
abbrev IsTold : Result Body Code → Type 0
IsTold (Ok body) = Unit {0}
IsTold (Err code) = IsMachineCode code

jobs_told : (s : State) (board : List BoardRow) (project : ℕ) (r : Result Pipeline Code) → IsPipeline r → IsTold (jobs_read s board project r)
jobs_told s board project (Err code) found = found
jobs_told s board project (Ok p) found = tt

attempts_told : (s : State) (r : Result Job Code) → Found s r → IsTold (attempts_read s r)
attempts_told s (Err code) found = found
attempts_told s (Ok j) found = tt

one_told : (s : State) (job : ℕ) (a : Option Attempt) → IsTold (trace_read s (attempt_within a job))
one_told s job None = tt
one_told s job (Some a) = cond_both (a.job == job) (Ok a) (Err M3) (λ r. IsTold (trace_read s r)) (λ _. tt) (λ _. tt)

trace_told : (s : State) (attempt : ℕ) (r : Result Job Code) → Found s r → IsTold (trace_read s (attempt_of s r attempt))
trace_told s attempt (Err code) found = found
trace_told s attempt (Ok j) found = one_told s j.id (attempt_at s attempt)

job_in : (s : State) (n project : ℕ) → Found s (job_within (job_at s n) (pipeline_of s (job_at s n)) project)
job_in s n project = within (Found s) (job_at s n) (pipeline_of s (job_at s n)) project (λ j p is _ _. job_at_has s n j is) (λ c m. m)

is_told : (s : State) (board : List BoardRow) (named : ℕ) (r : Result Project Code) → Asked s named r → (what : Subject) → IsTold (read_of s board r what)
is_told s board named (Err code) asked what = asked
is_told s board named (Ok p) asked (Subject.Jobs n) = jobs_told s board p.id (pipeline_within (pipeline_at s n) p.id) (pipeline_in (pipeline_at s n) p.id)
is_told s board named (Ok p) asked (Subject.Attempts n) = attempts_told s (job_within (job_at s n) (pipeline_of s (job_at s n)) p.id) (job_in s n p.id)
is_told s board named (Ok p) asked (Subject.Trace n attempt) = trace_told s attempt (job_within (job_at s n) (pipeline_of s (job_at s n)) p.id) (job_in s n p.id)
is_told s board named (Ok p) asked _ = tt

module _ (P : Plan → Type 0) (of_code : (c : Code) → IsMachineCode c → P (refused c)) (h : (body : Body) → P (fine body, [])) where
  tells : (r : Result Body Code) → IsTold r → P (told r)
  tells (Ok body) is = h body
  tells (Err code) is = of_code code is

  -- a project is read, or what it has: the body is told, and nothing changes
  pub of_read : (s : State) (board : List BoardRow) (query : ReadQuery) → P (read s board (of_asked s query.token query.project) query.subject)
  of_read s board query =
      let r = of_asked s query.token query.project in
      tells (read_of s board r query.subject) (is_told s board query.project r (is_asked s query.token query.project) query.subject)

-- where a project is read, or what it has, and this isn't refused, what is told is that of the project
pub read_told : (s t : State) (query : ReadQuery) (what : Subject) (now : ℕ) (seed : Seed) (reply : Reply) → query.subject ≡ what → (step : Step s (Event.Request (Read query)) now seed (Answer.Reply reply) t) → reply.code ≡ None
    → (Tells : ℕ → Reply → Type 0) → ((p : Project) → Tells p.id (read s step.before (Ok p) what).0) → Tells query.project reply
read_told s t query what now seed reply is step none Tells h =
    let P : Plan → Type 0 = λ plan. plan.0.code ≡ None → Tells query.project plan.0 in
    subst P (sym (step.happens ∙ ap (λ w. read s step.before (of_asked s query.token query.project) w) is)) (tells_so (of_asked s query.token query.project) (is_asked s query.token query.project)) none
  where
    tells_so : (r : Result Project Code) → Asked s query.project r → (read s step.before r what).0.code ≡ None → Tells query.project (read s step.before r what).0
    tells_so (Err code) found none = absurd (cc)
    tells_so (Ok p) found none = subst (λ n. Tells n (read s step.before (Ok p) what).0) found.1 (h p)
