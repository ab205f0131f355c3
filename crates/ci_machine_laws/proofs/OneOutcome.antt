-- An event has one outcome, but that a pattern of the CI file that it reads may be refused: each plan, and then each step.
use Rattle.ci_machine_laws.proofs.Prelude.{◌≡◌, ◌⊎◌, ℕ, Bool, true, false, not, nat_lt, ◌==◌, List, [], ◌∷◌, length, Option, Some, None, option_and_then, Result, Ok, Err, refl}
use Rattle.ci_machine_laws.proofs.Prelude.{sym, ap, subst, ◌∙◌, inl, inr, ⊎_elim, cond_both, Given, MAX_VARIABLES}
use Rattle.ci_machine_steps.specs.Prelude.{AreBoard, BoardRow, Job, Pipeline, RowChange, Event, Request, SetFile, CreatePipeline, Play, CancelJob, CancelPipeline, RetryJob, Seed}
use Rattle.ci_machine_steps.specs.Prelude.{Answer, Code, M2, M10, M11, M12, Swept, State, applied, jobs_of, attempts_of, facts_of, rows_of, status_for, claims_in, queued, Plan}
use Rattle.ci_machine_steps.specs.Prelude.{faulted, asked_project, set_file, SetsFile, have_names, file_or_none, file_for, may_create, given_by, Layout, lacks_numbers, creation}
use Rattle.ci_machine_steps.specs.Prelude.{creation_changes, pipeline_created, MakesUnless, Makes, Creates, is_name, Project, NewPipeline, Detail, K, permitted, ActsOn}
use Rattle.ci_machine_steps.specs.Prelude.{is_cancellable, cancellable_jobs, cancel, CancelsSome, CancelsPipeline, is_playable, play, is_retryable, retry, job_shown}
use Rattle.ci_machine_steps.specs.Prelude.{pipeline_shown, Does, Happens, Step, found_job, found_pipeline, project_with, project_variables, Past, IsReached}
use Rattle.ci_machine_laws.specs.OneOutcome.{text_read, HoldsPattern, RefusesPattern, OneOutcome}
use Rattle.ci_machine_laws.proofs.OneBoard.{OneAssignment, one_board}
use Rattle.ci_machine_laws.proofs.Readings.{Readings, pattern_refused, read_once, laid_once}

-- the state has one board
abbrev pub BoardOnce : State → Type 0
BoardOnce t = (xs ys : List BoardRow) → AreBoard t xs → AreBoard t ys → xs ≡ ys

-- ---- which file a pipeline is made of

asked_is : (o : Option Project) (named : ℕ) (project : Project) → asked_project o named ≡ Ok project → o ≡ Some project
asked_is None named project e = absurd (cc)
asked_is (Some found) named project e =
    cond_both (found.id == named) (Ok found) (Err M2) (λ (r : Result Project Code). r ≡ Ok project → Some found ≡ Some project)
    (λ _ f. let same : found ≡ project = cc in ap (λ (p : Project). Some p) same)
    (λ _ f. absurd (cc))
    e

has_file : (o : Option (List ℕ)) (text : List ℕ) → file_or_none o ≡ Ok text → o ≡ Some text
has_file None text e = absurd (cc)
has_file (Some own) text e = let same : own ≡ text = cc in ap (λ (t : List ℕ). Some t) same

its_file : (project : Project) (new : NewPipeline) (text : List ℕ) → file_for project new ≡ Ok text → project.file ≡ Some text
its_file project new text e =
    cond_both (not (is_name new.git_ref)) (Err (faulted (Detail.Code (K 16)))) _ (λ (r : Result (List ℕ) Plan). r ≡ Ok text → project.file ≡ Some text) (λ _ f. absurd (cc)) (λ _.
    cond_both (nat_lt MAX_VARIABLES (length new.variables)) (Err (faulted (Detail.Code (K 11)))) _ (λ (r : Result (List ℕ) Plan). r ≡ Ok text → project.file ≡ Some text) (λ _ f. absurd (cc)) (λ _.
    cond_both (not (have_names new.variables)) (Err (faulted (Detail.Code (K 12)))) (file_or_none project.file) (λ (r : Result (List ℕ) Plan). r ≡ Ok text → project.file ≡ Some text) (λ _ f. absurd (cc)) (λ _ f. has_file project.file text f)))
    e

file_asked : (o : Option Project) (named : ℕ) (new : NewPipeline) (text : List ℕ) → (r : Result Project Code) → asked_project o named ≡ r → may_create r new ≡ Ok text → option_and_then (λ (p : Project). p.file) o ≡ Some text
file_asked o named new text (Err code) is e = absurd (cc)
file_asked o named new text (Ok project) is e = ap (option_and_then (λ (p : Project). p.file)) (asked_is o named project is) ∙ its_file project new text e

-- ---- one plan

module _ (known : Readings) (s : State) (f g : Plan) (once : BoardOnce (applied f.1 s)) where
  -- what makes these changes, and shows the state after them by its board, is one plan
  shown_once : (changes : List RowChange) (shown : List BoardRow → Plan) → ((after : List BoardRow) → (shown after).1 ≡ changes) → let Shows = λ (h : Plan). (after : List BoardRow) × AreBoard (applied changes s) after × (h ≡ shown after) in
      Shows f → Shows g → f ≡ g
  shown_once changes shown makes p q =
      let boards : p.0 ≡ q.0 = subst (λ (cs : List RowChange). BoardOnce (applied cs s)) (ap (λ (h : Plan). h.1) p.2 ∙ makes p.0) once p.0 q.0 p.1 q.1 in
      p.2 ∙ (ap shown boards ∙ sym q.2)

  acts_once : (act : Job → List RowChange) (asked : Result Job Code) → ActsOn s act asked f → ActsOn s act asked g → f ≡ g
  acts_once act (Err code) p q = p ∙ sym q
  acts_once act (Ok job) p q =
      let t = applied (act job) s in
      shown_once (act job) (λ after. ((job_shown (claims_in t after job.pipeline) (queued t job).project job (status_for after job.id)).0, act job)) (λ _. refl) p q

  some_once : (p : Pipeline) (jobs : List Job) → CancelsSome s p jobs f → CancelsSome s p jobs g → f ≡ g
  some_once p [] a b = a ∙ sym b
  some_once p (j ∷ js) a b =
      let changes = cancel s.attempts (j ∷ js) in
      let t = applied changes s in
      shown_once changes (λ after. ((pipeline_shown p (claims_in t after p.id) (jobs_of t p.id) (facts_of t p.id) (rows_of t after p.id)).0, changes)) (λ _. refl) a b

  cancels_once : (board : List BoardRow) (asked : Result Pipeline Code) → CancelsPipeline s board asked f → CancelsPipeline s board asked g → f ≡ g
  cancels_once board (Err code) a b = a ∙ sym b
  cancels_once board (Ok p) a b = some_once p (cancellable_jobs s board p.id) a b

  -- a plan is to refuse a pattern of this text
  abbrev PatternIn : List ℕ → Type 0
  PatternIn text = HoldsPattern text × ((f ≡ faulted pattern_refused) ⊎ (g ≡ faulted pattern_refused))

  sets_once : (asked : Result Project Code) (text : List ℕ) → SetsFile asked text f → SetsFile asked text g → (f ≡ g) ⊎ PatternIn text
  sets_once (Err code) text p q = inl (p ∙ sym q)
  sets_once (Ok project) text p q =
      ⊎_elim
      (λ same. inl (p.2 ∙ (ap (set_file project text) same ∙ sym q.2)))
      (λ w. inr (w.0, ⊎_elim (λ a. inl (p.2 ∙ ap (set_file project text) a)) (λ b. inr (q.2 ∙ ap (set_file project text) b)) w.1))
      (read_once known text p.0 q.0 p.1 q.1)

  module _ (new : NewPipeline) (given : Given) (now : ℕ) where
    abbrev MakesBy : Result Layout Detail → Plan → Type 0
    MakesBy laid plan = Makes s new given now laid plan

    unless_once : (laid : Layout) (lacks : Bool) → let made = creation s.next.pipeline s.next.job new given now laid in MakesUnless lacks s s.next.job made f → MakesUnless lacks s s.next.job made g → f ≡ g
    unless_once laid true p q = p ∙ sym q
    unless_once laid false p q =
        let made = creation s.next.pipeline s.next.job new given now laid in
        let changes = creation_changes s.next.job made in
        shown_once changes (λ after. pipeline_created s.next.job made (claims_in (applied changes s) after s.next.pipeline) (rows_of (applied changes s) after s.next.pipeline)) (λ _. refl) p q

    makes_once : (laid : Result Layout Detail) → MakesBy laid f → MakesBy laid g → f ≡ g
    makes_once (Err fault) p q = p ∙ sym q
    makes_once (Ok laid) p q = unless_once laid (lacks_numbers s.next.pipeline s.next.job (length laid.plan.jobs)) p q

    creates_once : (may : Result (List ℕ) Plan) → Creates s new given now may f → Creates s new given now may g
        → (f ≡ g) ⊎ ((text : List ℕ) × (may ≡ Ok text) × PatternIn text)
    creates_once (Err refusal) p q = inl (p ∙ sym q)
    creates_once (Ok text) p q =
        ⊎_elim
        (λ same. inl (makes_once q.0 (subst (λ (laid : Result Layout Detail). MakesBy laid f) same p.2) q.2))
        (λ w. inr (text, refl, (w.0, ⊎_elim (λ a. inl (subst (λ (laid : Result Layout Detail). MakesBy laid f) a p.2)) (λ b. inr (subst (λ (laid : Result Layout Detail). MakesBy laid g) b q.2)) w.1)))
        (laid_once known text given p.0 q.0 p.1 q.1)

  -- ---- of each request

  abbrev Refuses : Request → Plan → Type 0
  Refuses r h = RefusesPattern s (Event.Request r) (Answer.Reply h.0)

  refuses : (r : Request) (text : List ℕ) → text_read s (Event.Request r) ≡ Some text → PatternIn text → Refuses r f ⊎ Refuses r g
  refuses r text read w =
      let one : (h : Plan) → h ≡ faulted pattern_refused → Refuses r h = λ h e. record { text = text; its_text = read; holds = w.0; answered = ap (λ (p : Plan). Answer.Reply p.0) e } in
      ⊎_elim (λ a. inl (one f a)) (λ b. inr (one g b)) w.1

  does_once : (board : List BoardRow) (r : Request) (now : ℕ) (seed : Seed) → Does s board r now seed f → Does s board r now seed g → (f ≡ g) ⊎ (Refuses r f ⊎ Refuses r g)
  does_once board (SetFile new) now seed p q =
      ⊎_elim (λ same. inl same) (λ w. inr (refuses (SetFile new) new.text refl w)) (sets_once (asked_project (project_with s new.token) new.project) new.text p q)
  does_once board (CreatePipeline new) now seed p q =
      let asked = asked_project (project_with s new.token) new.project in
      ⊎_elim (λ same. inl same)
      (λ w. inr (refuses (CreatePipeline new) w.0 (file_asked (project_with s new.token) new.project new w.0 asked refl w.1) w.2))
      (creates_once new (given_by new (project_variables s new.project)) now (may_create asked new) p q)
  does_once board (Play query) now seed p q = inl (acts_once play (permitted board is_playable M10 (found_job s query)) p q)
  does_once board (CancelJob query) now seed p q = inl (acts_once (λ j. cancel s.attempts (j ∷ [])) (permitted board is_cancellable M12 (found_job s query)) p q)
  does_once board (RetryJob query) now seed p q = inl (acts_once (λ j. retry (attempts_of s j.id) j) (permitted board is_retryable M11 (found_job s query)) p q)
  does_once board (CancelPipeline query) now seed p q = inl (cancels_once board (found_pipeline s query) p q)
  does_once board r now seed p q = inl (p ∙ sym q)

-- ---- one step

-- the events' answers and changes are one, or one of the answers is that a pattern is refused
abbrev SameOr : State → Event → Answer → List RowChange → Answer → List RowChange → Type 0
SameOr s e a cs b ds = ((b ≡ a) × (ds ≡ cs)) ⊎ (RefusesPattern s e a ⊎ RefusesPattern s e b)

module _ (known : Readings) (s : State) (board : List BoardRow) where
  happens_once : (e : Event) (now : ℕ) (seed : Seed) (a b : Answer) (cs ds : List RowChange) → BoardOnce (applied cs s) → Happens s board e now seed a cs → Happens s board e now seed b ds → SameOr s e a cs b ds
  happens_once (Event.Request r) now seed (Answer.Reply a) (Answer.Reply b) cs ds once p q =
      ⊎_elim
      (λ same. inl (ap (λ (f : Plan). Answer.Reply f.0) (sym same), ap (λ (f : Plan). f.1) (sym same)))
      (λ w. inr w)
      (does_once known s (a, cs) (b, ds) once board r now seed p q)
  happens_once (Event.Request r) now seed (Answer.Reply a) (Answer.Swept b) cs ds once p q = absurd q
  happens_once (Event.Request r) now seed (Answer.Swept a) b cs ds once p q = absurd p
  happens_once Event.Sweep now seed (Answer.Swept a) (Answer.Swept b) cs ds once p q =
      let same = p ∙ sym q in
      inl (ap (λ (f : Swept × List RowChange). Answer.Swept f.0) (sym same), ap (λ (f : Swept × List RowChange). f.1) (sym same))
  happens_once Event.Sweep now seed (Answer.Swept a) (Answer.Reply b) cs ds once p q = absurd q
  happens_once Event.Sweep now seed (Answer.Reply a) b cs ds once p q = absurd p

pub one_outcome : Readings → OneAssignment → (s t u : State) (e : Event) (now : ℕ) (seed : Seed) (a b : Answer) → IsReached s → Step s e now seed a t → Step s e now seed b u → OneOutcome s e a t b u
one_outcome known law s t u e now seed a b is first second =
    let one = one_board law is.0 s is.1 in
    let line : Past = record { before = s; event = e; now = now; seed = seed; answer = a } in
    let later = one_board law (line ∷ is.0) t (is.1, first) in
    let once : BoardOnce (applied first.changes s) = subst BoardOnce first.state (λ xs ys are them. later.only xs are ∙ sym (later.only ys them)) in
    let boards : second.before ≡ first.before = one.only second.before second.are_before ∙ sym (one.only first.before first.are_before) in
    ⊎_elim
    (λ both. inl (both.0, second.state ∙ (ap (λ (cs : List RowChange). applied cs s) both.1 ∙ sym first.state)))
    (λ w. inr w)
    (happens_once known s first.before e now seed a b first.changes second.changes once first.happens
    (subst (λ (board : List BoardRow). Happens s board e now seed b second.changes) boards second.happens))
