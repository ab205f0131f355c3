-- The states and the histories of a life that was stopped within a grant.
use Rattle.std.proofs.Common.{true, false, not, Option, Some, None, codes, ◌≡◌, ◌⊎◌, inl, inr, ⊎_elim, List, [], ◌∷◌, IsTrue, refl, sym, ap, subst, ◌∙◌}
use Rattle.std.proofs.lemmas.Bool.{false≢true}
use Rattle.sqlite.specs.Tree.{Trees}
use Rattle.sqlite.specs.Store.{Ghosts}
use Rattle.sqlite.specs.Held.{Held}
use Rattle.ci_memory.specs.declared.remembering.Remembering.{Remembering}
use Rattle.ci_machine_steps.specs.Prelude.{Request, AddProject, AddRunner, SetFile, CreatePipeline, AskJob, Event, Answer, M17, refusal, Outcome, Stepped, outcome_of, outcome_by}
use Rattle.ci_machine_steps.specs.Prelude.{Plan, State, empty, applied, Step, Past, Leads}
use Rattle.ci_machine_laws.specs.Examples.{seed, token, pipeline, new_runner, with_runner, with_project, project_added, runner_added}
use Rattle.ci_store_sqlite.specs.Prelude.{StandsIn, LeavesAny}
use Rattle.ci_server.specs.declared.fail_stop.FailStop.{FailStop}
use Rattle.ci_server.specs.Prelude.{HoldsIn, Call, IsHonest, line, by_outcome, Beginning, was_made, was_found, was_found_shut, earlier_of, begins_shut, Operation, ComesOf}
use Rattle.ci_server.specs.Prelude.{unanswered, IsFileOf, Histories, AreSettled, HasOneHistory}
use Rattle.ci_server_witness.specs.Life.{new_file, file_added, with_file, pipeline_made, with_pipeline, granted, with_attempt, at_1000, planned, before_grant, IsPlanned}
use Rattle.ci_server_witness.specs.Stopped.{until_failure, stopped_life, grant_line, IsStopped, IsSettledAs, not_granted, was_granted, NamesStoppedLife}
use Rattle.ci_server_witness.proofs.LifeLemmas.{HasOneTree, HasNotBoth, ReadsTrees, AnswersOnce, plans_project, plans_runner, plans_file, plans_pipeline, plans_grant}

-- what came before the pipeline was made, the newest first
abbrev one_project : List Operation
one_project = planned (AddProject (codes "p")) project_added ∷ []

abbrev one_runner : List Operation
one_runner = planned (AddRunner new_runner) runner_added ∷ one_project

abbrev one_file : List Operation
one_file = planned (SetFile new_file) file_added ∷ one_runner

-- the call, if there is one, and else the one that asks for the job
abbrev call_or : Option Call → Call
call_or None = at_1000 (AskJob token)
call_or (Some c) = c

-- an answer with a plan's changes is of one plan
of_reply : (s t : State) (request : Request) (plan : Plan) (a : Answer) → IsPlanned s request plan → Step s (Event.Request request) 1000 seed a t → (a ≡ Answer.Reply plan.0) × (t ≡ applied plan.1 s)
of_reply s t request plan (Answer.Reply reply) is step =
    let same : (reply, step.changes) ≡ plan = is.only step.before step.are_before (reply, step.changes) step.happens in
    (ap (λ (p : Plan). Answer.Reply p.0) same, step.state ∙ ap (λ (p : Plan). applied p.1 s) same)
of_reply s t request plan (Answer.Swept swept) is step = absurd step.happens

-- each history from h on that this line leads to
abbrev LeadsTo : List Past → State → Type 0
LeadsTo h s = (t : State) → Leads h t → t ≡ s

-- the request, answered with its plan, leads on
leads_on : (h k : List Past) (s : State) (request : Request) (plan : Plan) → IsPlanned s request plan → LeadsTo h s → (u : State) → k ≡ line u (at_1000 request) (Answer.Reply plan.0) ∷ h
    → LeadsTo k (applied plan.1 s)
leads_on h k s request plan is was u same t leads =
    let now : Leads (line u (at_1000 request) (Answer.Reply plan.0) ∷ h) t = subst (λ (l : List Past). Leads l t) same leads in
    let at : u ≡ s = was u now.0 in
    let step : Step s (Event.Request request) 1000 seed (Answer.Reply plan.0) t = subst (λ (w : State). Step w (Event.Request request) 1000 seed (Answer.Reply plan.0) t) at now.1 in
    (of_reply s t request plan (Answer.Reply plan.0) is step).1

-- the one unanswered call asked for the job
one_unanswered : (began : Beginning) → begins_shut began ≡ false → unanswered began until_failure ≡ Some (at_1000 (AskJob token))
one_unanswered was_made is_open = refl
one_unanswered (was_found earlier) is_open = refl
one_unanswered (was_found_shut earlier) shut = absurd (false≢true (sym shut))

module _ {S : Type 0} (g : Ghosts S) (began : Beginning) (is_new : earlier_of began ≡ []) (is_open : begins_shut began ≡ false) (history : Histories g) (are : AreSettled g history) where
  -- the history of each server that came of the operations leads to this state alone
  abbrev AllLead : List Operation → State → Type 0
  AllLead ops s = (server : FailStop (Remembering (Held S))) (came : ComesOf g began ops server) (honest : IsHonest g server.store) → LeadsTo (history began ops server came honest) s

  begins : AllLead [] empty
  begins server came honest t leads = subst (λ (l : List Past). Leads l t) (are.new began server came honest ∙ is_new) leads

  next_leads : (ops : List Operation) (s : State) (request : Request) (plan : Plan) → IsPlanned s request plan → AllLead ops s → AllLead (planned request plan ∷ ops) (applied plan.1 s)
  next_leads ops s request plan is was server came honest =
      let before = history began ops came.0 came.1 (came.2.was_honest honest) in
      let now = history began (planned request plan ∷ ops) server came honest in
      let a = Answer.Reply plan.0 in
      let goes = are.call began (at_1000 request) a ops server came honest in
      let steps : outcome_of a ≡ Stepped = ap outcome_by is.taken in
      let one : (u : State) × (now ≡ line u (at_1000 request) a ∷ before)
      = subst (λ (o : Outcome). by_outcome o ((u : State) × (now ≡ line u (at_1000 request) a ∷ before)) (now ≡ before) (now ≡ before)) steps goes in
      leads_on before now s request plan is (was came.0 came.1 (came.2.was_honest honest)) one.0 one.1

  module _ (one_tree : HasOneTree) (not_both : HasNotBoth) (reads : ReadsTrees) (once : AnswersOnce) where
    before_leads : AllLead before_grant with_pipeline
    before_leads =
        next_leads one_file with_file (CreatePipeline pipeline) pipeline_made (plans_pipeline one_tree not_both reads once)
        (next_leads one_runner with_runner (SetFile new_file) file_added (plans_file one_tree not_both reads once)
        (next_leads one_project with_project (AddRunner new_runner) runner_added plans_runner
        (next_leads [] empty (AddProject (codes "p")) project_added plans_project begins)))

    -- ---- the failure

    failed_same : (server : FailStop (Remembering (Held S))) (came : ComesOf g began until_failure server) (honest : IsHonest g server.store)
        → history began until_failure server came honest ≡ history began before_grant came.0 came.1 (came.2.was_honest honest)
    failed_same server came honest = are.call began (at_1000 (AskJob token)) (Answer.Reply (refusal M17)) before_grant server came honest

    failed_leads : AllLead until_failure with_pipeline
    failed_leads server came honest = subst (λ h. LeadsTo h with_pipeline) (sym (failed_same server came honest)) (before_leads came.0 came.1 (came.2.was_honest honest))

    -- its line is that of the grant
    is_grant : (h : List Past) → LeadsTo h with_pipeline → (c : Call) (s : State) (a : Answer) (t : State) → unanswered began until_failure ≡ Some c → Leads (line s c a ∷ h) t
        → (line s c a ≡ grant_line) × (t ≡ with_attempt)
    is_grant h was c s a t is leads =
        let its : c ≡ at_1000 (AskJob token) = ap call_or (sym is ∙ one_unanswered began is_open) in
        let at : s ≡ with_pipeline = was s leads.0 in
        let step : Step with_pipeline (Event.Request (AskJob token)) 1000 seed a t
        = subst (λ (w : State). Step w (Event.Request (AskJob token)) 1000 seed a t) at (subst (λ (d : Call). Step s d.0 d.1 d.2 a t) its leads.1) in
        let of = of_reply with_pipeline t (AskJob token) granted a plans_grant step in
        ((λ i. line (at i) (its i) (of.0 i)), of.1)

    stopped_at : (server : FailStop (Remembering (Held S))) → ComesOf g began until_failure server → IsHonest g server.store → IsStopped g server
    stopped_at server came honest =
        let stands = are.stands began until_failure server came honest in
        let leads = failed_leads server came honest in
        let at : stands.state ≡ with_pipeline = leads stands.state stands.leads in
        let of_2 = not (begins_shut began) in
        let new : of_2 ≡ true = ap not is_open in
        let before : (db : Trees) → IsFileOf of_2 stands.state db → IsFileOf true with_pipeline db ⊎ IsFileOf true with_attempt db
        = λ db file. inl (subst (λ s. IsFileOf true s db) at (subst (λ v. IsFileOf v stands.state db) new file)) in
        record {
          is_closed = came.2.closes;
          left = λ db may. ⊎_elim
              (λ one. before db (one db may))
              (λ two. let l = two.is_after in ⊎_elim
              (λ file. before db file)
              (λ file. inr (subst (λ s. IsFileOf true s db) (is_grant _ leads l.call l.before l.answer two.after l.is l.leads).1 (subst (λ v. IsFileOf v two.after db) new file)))
              (two.each db may))
              stands.left;
        }

    -- ---- the opening

    settled_at : (server : FailStop (Remembering (Held S))) (came : ComesOf g began stopped_life server) (honest : IsHonest g server.store)
        → IsSettledAs g (history began before_grant came.2.0 came.2.1 (came.2.2.was_honest came.3)) (history began stopped_life server came honest) server
    settled_at server came honest =
        let stands = are.stands began stopped_life server came honest in
        let holds : HoldsIn g stands.state server.store = stands.held came.5.is_open in
        let same = failed_same came.0 came.2 came.3 in
        let leads = failed_leads came.0 came.2 came.3 in
        ⊎_elim
        (λ e. not_granted (e ∙ same) (subst (λ s. HoldsIn g s server.store) (leads stands.state (subst (λ (h : List Past). Leads h stands.state) e stands.leads)) holds))
        (λ more.
        let one = is_grant _ leads more.0 more.1 more.2 stands.state more.3 (subst (λ (h : List Past). Leads h stands.state) more.4 stands.leads) in
        was_granted (more.4 ∙ (λ i. one.0 i ∷ same i)) (subst (λ s. HoldsIn g s server.store) one.1 holds))
        (are.opening began until_failure server came honest)

-- ---- all of it

pub names : {S : Type 0} (g : Ghosts S) → ((s : S) (db : Trees) → IsTrue (g.view s).is_open → g.recovers s db → db ≡ (g.view s).committed) → HasOneHistory g
    → HasOneTree → HasNotBoth → ReadsTrees → AnswersOnce → (began : Beginning) → earlier_of began ≡ [] → begins_shut began ≡ false → NamesStoppedLife g began
names g settled one one_tree not_both reads once began is_new is_open = record {
  stopped = stopped_at g began is_new is_open one.0 one.1 one_tree not_both reads once;
  settled = λ history are. settled_at g began is_new is_open history are one_tree not_both reads once;
  committed = λ server came honest file.
      let any : LeavesAny g file.kept came.1 = λ db may. inl (subst (StandsIn file.kept) (sym (settled came.1.store db came.4.is_open may)) file.stands) in
      came.5.holds honest with_attempt file.kept file.is_of any;
}
