-- A life with one operation more.
use Rattle.std.proofs.Common.{ℕ, true, false, map, filter, if◌then◌else◌, flat_map, Option, Some, None, codes, option_and_then, Result, Ok, Err, IfErr, IsErrAnd, ◌≡◌, ◌⊎◌, inl}
use Rattle.std.proofs.Common.{inr, List, [], ◌∷◌, refl, sym, ap, subst, ◌∙◌, arith}
use Rattle.std.specs.Str.Lines.{lines}
use Rattle.std.specs.Fmt.{digits}
use Rattle.hex.proofs.OnLiterals.{hex_on_literals}
use Rattle.sqlite.specs.Held.{Held}
use Rattle.ci_memory.specs.declared.remembering.Remembering.{Remembering}
use Rattle.sqlite.specs.Steps.{over_memory}
use Rattle.sqlite.proofs.Callers.{memory_is_clean}
use Rattle.sqlite_trees.specs.declared.memory.MemStore.{MemStore}
use Rattle.ci_machine_steps.specs.Prelude.{Live, Status, Pending, is_status, no_row, Detail, set_file, IsRead, configures, misconfigures, lacks_tree, Layout, IsLaidOut, misread}
use Rattle.ci_machine_steps.specs.Prelude.{unplanned, pipeline_created, BoardRow, Job, Request, AddProject, AddRunner, SetFile, CreatePipeline, AskJob, Event, Answer, M16, M17}
use Rattle.ci_machine_steps.specs.Prelude.{Reply, refusal, Plan, token_of, ask_job, State, empty, applied, row_for, rows_of, AreBoard, runner_with, queued, offered_variables}
use Rattle.ci_machine_steps.specs.Prelude.{chosen, Claim, waiting_claim, is_first, waits_as, groups_with, claims_in, IsReached}
use Rattle.ci_config.specs.Prelude.{Code, Value, null, Entry, Line}
use Rattle.ci_yaml.specs.Prelude.{Ending, Parses, HasTree, IsFault, IsDocument, finished, Reader, read_lines, beginning}
use Rattle.ci_graph_layout.specs.Prelude.{X2, expression_of, Config, built, Fault, LacksPatterns, HasNoPattern, meaning, Means, Plans, faulty, cyclic}
use Rattle.ci_machine.specs.Prelude.{IsWalk, HasCycle}
use Rattle.ci_graph_layout.specs.Fault as layout
use Rattle.ci_graph_layout.specs.declared.fault.GraphCode.{GraphCode}
use Rattle.ci_machine_steps.specs.Pipelines as pipelines
use Rattle.ci_machine_laws.specs.Examples.{seed, token, pipeline, new_runner, with_project, with_runner, project_added, runner_added, laid_by, job}
use Rattle.ci_server.specs.Prelude.{HoldsIn, LeavesIn, Handled, answered, no_memory, look_failed, commit_failed, Handles, Creates, Opens, Operation, opened}
use Rattle.ci_server_witness.specs.declared.life.Stop.{Stop}
use Rattle.ci_server_witness.specs.Life.{file_text, new_file, owner, configured, file_added, with_file, given, made, pipeline_made, with_pipeline, granted, with_attempt, at_1000, planned, InMemory, IsOpenAt, IsPlanned, IsCause, IsLeased}

-- ---- the server is made

pub created_at : (conn : Held MemStore) (new : InMemory) → Creates over_memory conn new → IsOpenAt [] empty new
created_at conn new made = record {
  came = (conn, made);
  honest = memory_is_clean new.store.store;
  is_open = made.is_open;
  reached = ([], refl);
  holds = made.holds (memory_is_clean new.store.store);
}

-- ---- a request is handled

abbrev reply_in : Answer → Reply
reply_in (Answer.Reply reply) = reply
reply_in (Answer.Swept swept) = refusal M16

module _ (ops : List Operation) (s : State) (request : Request) (plan : Plan) (old new : InMemory) (reply : Reply) (was : IsOpenAt ops s old) (is : IsPlanned s request plan)
    (handled : Handles over_memory old (at_1000 request) new (Answer.Reply reply)) where
  abbrev Ended : Type 0
  Ended = Handled (λ (h : Remembering (Held MemStore)) t. HoldsIn over_memory t h) (λ (h : Remembering (Held MemStore)) t u. LeavesIn over_memory t u h) (at_1000 request) s new.store new.closed (Answer.Reply reply)

  ended : Ended
  ended = handled.while_open was.is_open (memory_is_clean new.store.store) s was.reached was.holds

  goes_on : Ended → reply.code ≡ None → IsOpenAt (planned request plan ∷ ops) (applied plan.1 s) new
  goes_on (answered t step held is_open) made =
      let same : (reply, step.changes) ≡ plan = is.only step.before step.are_before (reply, step.changes) step.happens in
      let to : t ≡ applied plan.1 s = step.state ∙ ap (λ (p : Plan). applied p.1 s) same in
      record {
        came = (old, was.came, subst (λ (p : Plan). Handles over_memory old (at_1000 request) new (Answer.Reply p.0)) same handled);
        honest = memory_is_clean new.store.store;
        is_open = is_open;
        reached = subst IsReached to ((record { before = s; event = Event.Request request; now = 1000; seed = seed; answer = Answer.Reply reply }) ∷ was.reached.0, (was.reached.1, step));
        holds = subst (λ (u : State). HoldsIn over_memory u new.store) to held;
      }
  goes_on (no_memory refuses held is_open) made = let same : reply ≡ refusal M16 = ap reply_in refuses in absurd (cc)
  goes_on (look_failed refuses left closed) made = let same : reply ≡ refusal M17 = ap reply_in refuses in absurd (cc)
  goes_on (commit_failed b t step refuses left closed) made = let same : reply ≡ refusal M17 = ap reply_in refuses in absurd (cc)

  stops : Ended → (reply.code ≡ None → ⊥) → (reply ≡ refusal M16) ⊎ (reply ≡ refusal M17)
  stops (answered t step held is_open) unmade =
      let same : (reply, step.changes) ≡ plan = is.only step.before step.are_before (reply, step.changes) step.happens in
      absurd (unmade (ap (λ (p : Plan). p.0.code) same ∙ is.taken))
  stops (no_memory refuses held is_open) unmade = inl (ap reply_in refuses)
  stops (look_failed refuses left closed) unmade = inr (ap reply_in refuses)
  stops (commit_failed b t step refuses left closed) unmade = inr (ap reply_in refuses)

  pub made_at : reply.code ≡ None → IsOpenAt (planned request plan ∷ ops) (applied plan.1 s) new
  made_at = goes_on ended

  pub unmade : (reply.code ≡ None → ⊥) → IsCause (Stop.Refused reply)
  unmade = stops ended

-- the request is the one that was meant
pub asked : {s : State} {request meant : Request} {plan : Plan} → request ≡ meant → IsPlanned s meant plan → IsPlanned s request plan
asked {s = s} {plan = plan} same is = subst (λ r. IsPlanned s r plan) (sym same) is

pub next : {ops : List Operation} {s : State} {request meant : Request} {plan : Plan} {old new : InMemory} → request ≡ meant → IsPlanned s meant plan
    → ((ops : List Operation) (s : State) (plan : Plan) → IsOpenAt ops s old → IsPlanned s request plan → IsOpenAt (planned request plan ∷ ops) (applied plan.1 s) new) → IsOpenAt ops s old
    → IsOpenAt (planned meant plan ∷ ops) (applied plan.1 s) new
next {ops = ops} {s = s} {plan = plan} {new = new} same is made was = subst (λ r. IsOpenAt (planned r plan ∷ ops) (applied plan.1 s) new) same (made ops s plan was (asked same is))

-- an error is handed on as it came
pub handed_on : {A E : Type 0} {Same P : E → Type 0} (r : Result A E) → IsErrAnd r Same → ((e : E) → Same e → P e) → IfErr r P
handed_on (Ok x) is so = tt
handed_on (Err e) is so = so e is

-- ---- the plans of the requests

pub plans_project : IsPlanned empty (AddProject (codes "p")) project_added
plans_project = record { only = λ board are p does. does; taken = refl }

pub plans_runner : IsPlanned with_project (AddRunner new_runner) runner_added
unfolding digits hex_on_literals
plans_runner = record { only = λ board are p does. does; taken = refl }

-- the one job of the pipeline
abbrev first_of : List Job → Job
first_of [] = job
first_of (j ∷ js) = j

abbrev build : Job
build = first_of made.jobs

-- ---- the pipeline is shown

-- its row says that it is pending: it waits for no other, and was never tried
is_waiting : (board : List BoardRow) → AreBoard with_pipeline board → (row_for board 1).status ≡ Pending
unfolding digits hex_on_literals
is_waiting board are =
    (are.each 1).is 0 (omega arith)

-- for which groups its jobs must wait, by the status of its job
abbrev claims_by : Status → List Claim
claims_by status = map waiting_claim (filter (is_first with_pipeline.modes 1) (flat_map (λ (j : Job). waits_as (queued with_pipeline j) status) (build ∷ [])))

-- and what the reply shows of it is no more
shown_so : (board : List BoardRow) → AreBoard with_pipeline board → pipeline_created 1 made (claims_in with_pipeline board 1) (rows_of with_pipeline board 1) ≡ pipeline_made
unfolding digits hex_on_literals
shown_so board are =
    let status : (row_for board 1).status ≡ Pending = is_waiting board are in
    let row : row_for board 1 ≡ record no_row { status = Pending } = (are.each 1).each 0 (omega arith) ∙ ap (λ (s : Status). record no_row { status = s }) status in
    (λ i. pipeline_created 1 made (claims_by (status i)) (row i ∷ []))

-- ---- the file is read

abbrev pub HasOneTree : Type 0
HasOneTree = (bytes : List ℕ) (v w : Value) → HasTree bytes v → HasTree bytes w → v ≡ w

abbrev pub HasNotBoth : Type 0
HasNotBoth = (bytes : List ℕ) (v : Value) (at : ℕ) (code : Code) → HasTree bytes v → IsFault bytes at code → ⊥

abbrev pub ReadsTrees : Type 0
ReadsTrees = (ls : List Line) (r : Reader) (v : Value) → read_lines beginning ls ≡ Ok r → finished r.state ≡ Some v → (es : List Entry) × (end : Ending) × Parses ls es end × IsDocument v es

abbrev pub AnswersOnce : Type 0
AnswersOnce = (v : Value) (r : Result Config Fault) → LacksPatterns v → Means v r → r ≡ meaning built v

-- what its lines are read to, computed
abbrev reader_of : Result Reader Code → Reader
reader_of (Ok r) = r
reader_of (Err code) = beginning

abbrev reader : Reader
reader = reader_of (read_lines beginning (lines file_text))

abbrev value_of : Option Value → Value
value_of (Some v) = v
value_of None = null

abbrev tree : Value
tree = value_of (finished reader.state)

-- no expression stands in its texts, and so none with a pattern
no_expression : (bs : List ℕ) → expression_of bs ≡ Err X2 → HasNoPattern bs
no_expression bs none f e = let bad : Err X2 ≡ Ok f = sym none ∙ e in absurd (cc)

no_patterns : LacksPatterns tree
no_patterns = ((no_expression (codes "build") refl, (no_expression (codes "make") refl, tt)), tt)

-- no walk goes along no pairs
no_walk : (i : ℕ) (ks : List ℕ) (j : ℕ) → IsWalk [] i ks j → ⊥
no_walk i [] j h = absurd (omega (arith, h.1))
no_walk i (k ∷ ks) j h = absurd (omega (arith, h.0.1))

no_cycle : HasCycle [] → ⊥
no_cycle h = no_walk h.0 h.1.0 h.0 h.1.1

module _ (one_tree : HasOneTree) (not_both : HasNotBoth) (reads : ReadsTrees) (once : AnswersOnce) where
  has : HasTree file_text tree
  has = let read = reads (lines file_text) reader tree refl refl in record { size = omega arith; entries = read.0; end = read.1; parses = read.2; document = read.3 }

  -- any tree of it means this, and nothing else
  means_so : (v : Value) (r : Result Config Fault) → HasTree file_text v → Means v r → r ≡ Ok configured
  means_so v r h m = once tree r no_patterns (subst (λ (w : Value). Means w r) (one_tree file_text v tree h has) m)

  read_so : (said : Result Config Detail) → IsRead file_text said → said ≡ Ok configured
  read_so _ (configures v c h m) =
      let same : Ok c ≡ Ok configured = means_so v (Ok c) h m in
      let its : c ≡ configured = cc in
      ap (λ (d : Config). Ok d) its
  read_so _ (misconfigures v fault h m) = let same : Err fault ≡ Ok configured = means_so v (Err fault) h m in absurd (cc)
  read_so _ (lacks_tree line code fault) = absurd (not_both file_text tree line code has fault)

  pub plans_file : IsPlanned with_runner (SetFile new_file) file_added
  unfolding digits hex_on_literals
  plans_file = record {
    only = λ board are p does. does.2 ∙ ap (λ (said : Result Config Detail). set_file owner file_text said) (read_so does.0 does.1);
    taken = refl;
  }

  -- ---- a pipeline is made of it

  abbrev laid_out : Config → layout.Plan → Result Layout Detail
  laid_out c p = Ok (record { config = c; plan = p })

  -- it lays out one job, and no pair
  plan_so : (r : Result layout.Plan GraphCode) → Plans given configured r → r ≡ Ok (laid_by given configured).plan
  plan_so _ (faulty code e) = let bad : None ≡ Some code = e in absurd (cc)
  plan_so _ (cyclic e h) = absurd (no_cycle h)
  plan_so _ (layout.planned e a) = refl

  laid_so : (r : Result Layout Detail) → IsLaidOut file_text given r → r ≡ Ok (laid_by given configured)
  laid_so _ (misread fault is) = let same : Err fault ≡ Ok configured = read_so (Err fault) is in absurd (cc)
  laid_so _ (unplanned c code is plan) =
      let same : Ok c ≡ Ok configured = read_so (Ok c) is in
      let its : c ≡ configured = cc in
      let bad : Err code ≡ Ok (laid_by given configured).plan = plan_so (Err code) (subst (λ (d : Config). Plans given d (Err code)) its plan) in
      absurd (cc)
  laid_so _ (pipelines.planned c p is plan) =
      let same : Ok c ≡ Ok configured = read_so (Ok c) is in
      let its : c ≡ configured = cc in
      let so : Ok p ≡ Ok (laid_by given configured).plan = plan_so (Ok p) (subst (λ (d : Config). Plans given d (Ok p)) its plan) in
      let its_plan : p ≡ (laid_by given configured).plan = cc in
      ap (λ (d : Config). laid_out d p) its ∙ ap (laid_out configured) its_plan

  pub plans_pipeline : IsPlanned with_file (CreatePipeline pipeline) pipeline_made
  unfolding digits hex_on_literals
  plans_pipeline = record {
    only = λ board are p does.
        let makes = subst (λ (r : Result Layout Detail). pipelines.Makes with_file pipeline given 1000 r p) (laid_so does.0 does.1) does.2 in
        makes.2 ∙ shown_so makes.0 makes.1;
    taken = refl;
  }

-- what the runner's request comes to, by the status of the job
abbrev by_status : Status → Plan
by_status status =
    let runner = runner_with with_pipeline token in
    let groups = groups_with with_pipeline (flat_map (λ (j : Job). waits_as (queued with_pipeline j) status) (build ∷ [])) in
    let offered = option_and_then (chosen (map (queued with_pipeline) (if is_status status Pending then build ∷ [] else [])) groups) runner in
    ask_job runner offered (offered_variables with_pipeline offered) with_pipeline.next.attempt 1000 seed

pub plans_grant : IsPlanned with_pipeline (AskJob token) granted
unfolding digits hex_on_literals
plans_grant = record {
  only = λ board are p does. does ∙ ap by_status (is_waiting board are);
  taken = refl;
}

-- ---- the server is opened again

-- over memory a closed server is what a stop leaves of it
pub reopened_at : (ops : List Operation) (s : State) (old new : InMemory) → IsOpenAt ops s old → Opens over_memory old.store.store new → IsOpenAt (opened ∷ ops) s new
reopened_at ops s old new was opens =
    record {
      came = (old, old.store.store, was.came, memory_is_clean old.store.store, record { is_open = refl; left = refl }, opens);
      honest = memory_is_clean new.store.store;
      is_open = opens.is_open;
      reached = was.reached;
      holds = opens.holds (memory_is_clean new.store.store) s was.holds.kept was.holds.is_of (λ db may. inl (was.holds.held.0 db may));
    }

-- ---- the state after the grant, computed

pub leased : IsLeased with_attempt token
unfolding digits hex_on_literals
leased = record {
  runner = record { id = 1; name = codes "r"; token = token; project = None; tags = []; untagged = true; paused = false };
  job = build;
  attempt = record { id = 1; job = 1; runner = 1; token = token_of (codes "j") 1 seed; granted = 1000; seen = 1000; state = Live };
  one_runner = refl;
  one_job = refl;
  one_attempt = refl;
  is_live = refl;
  its_job = refl;
  its_runner = refl;
  its_token = refl;
}
