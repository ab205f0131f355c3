-- What a user's act answers is what is answered where the job or the pipeline is asked for next.
use Rattle.ci_machine_laws.proofs.Prelude.{◌≡◌, ℕ, Bool, true, false, not, nat_lt, ◌==◌, List, [], ◌∷◌, length, map, replicate, Option, Some, None, Result, Ok, Err, refl, sym}
use Rattle.ci_machine_laws.proofs.Prelude.{ap, subst, ◌∙◌, ⊎_elim, arith, eq-eqb, eqb-true, cond_both, cond-true, MAX_VARIABLES, Has, Rising, rising_put, find_has, has_find}
use Rattle.ci_machine_laws.proofs.Prelude.{has_map, one_at, created_state, put_all, has_all}
use Rattle.ci_machine_steps.specs.Prelude.{is_name, no_facts, Status, BoardRow, Claim, Job, Pipeline, Project, RowChange, Answer, Code, M2, M3, M10, M11, M12, M13, M14, M15}
use Rattle.ci_machine_steps.specs.Prelude.{Detail, K, Reply, Event, JobQuery, NewPipeline, PipelineQuery, Request, CreatePipeline, ShowPipeline, ShowJob, Play, CancelJob}
use Rattle.ci_machine_steps.specs.Prelude.{CancelPipeline, RetryJob, Seed, State, pipeline_cmp, job_cmp, attempt_cmp, others, applied, jobs_of, attempts_of, facts_of, rows_of}
use Rattle.ci_machine_steps.specs.Prelude.{status_for, AreBoard, claims_in, Plan, faulted, asked_project, have_names, file_or_none, file_for, may_create, Layout, lacks_numbers}
use Rattle.ci_machine_steps.specs.Prelude.{creation, creation_changes, ShowsCreated, MakesUnless, Makes, Creates, permitted, ShowsJobAfter, ShowsPipelineAfter, ActsOn}
use Rattle.ci_machine_steps.specs.Prelude.{is_cancellable, cancellable_jobs, cancel, CancelsSome, CancelsPipeline, is_playable, play, is_retryable, retry, job_within, asked_job}
use Rattle.ci_machine_steps.specs.Prelude.{job_shown, shown, show_job, asked_pipeline, pipeline_shown, show_pipeline, Does, Step, project_with, pipeline_at, pipeline_of}
use Rattle.ci_machine_steps.specs.Prelude.{pipeline_or_none, project_or_none, job_at, queued, found_job, found_pipeline, Past, IsReached, job_for_good}
use Rattle.ci_machine_laws.specs.ShownAgain.{ActsOnJob, asks_for}
use Rattle.ci_machine_laws.proofs.Acts.{IsAct, plays, retries, cancels, cancellable_within, after_act}
use Rattle.ci_machine_laws.proofs.PutAll.{all_at, all_at_id, all_in_place, rising_all}
use Rattle.ci_machine_laws.proofs.EachPlan.{Asked, of_asked, is_asked, given_in, IsAsked, asked}
use Rattle.ci_machine.proofs.Found.{placed_here}
use Rattle.ci_machine_laws.proofs.Linked.{Linked}
use Rattle.ci_machine_laws.proofs.NewPipelines.{its_jobs, its_facts, made_state}
use Rattle.ci_machine_laws.proofs.OneBoard.{OneAssignment, one_board}
use Rattle.ci_machine_laws.proofs.OneOutcome.{BoardOnce}
use Rattle.ci_machine_laws.proofs.Reached.{reached}
use Rattle.ci_machine_laws.proofs.Held as every

abbrev number : Job → ℕ
number j = j.id

-- ---- what is shown of a job depends on what it has for good

good_shown : (claims : List Claim) (project : ℕ) (its : Status) (j : Job) → job_shown claims project (job_for_good j) its ≡ job_shown claims project j its
good_shown claims project Status.Created j = refl
good_shown claims project its j = refl

shown_alike : (claims : List Claim) (project : ℕ) (its : Status) (j k : Job) → job_for_good j ≡ job_for_good k → job_shown claims project j its ≡ job_shown claims project k its
shown_alike claims project its j k same = sym (good_shown claims project its j) ∙ (ap (λ (w : Job). job_shown claims project w its) same ∙ good_shown claims project its k)

-- ---- what is asked for

asked_parts : (project : Option Project) (found : Option Job) (pipeline : Option Pipeline) (query : JobQuery) (job : Job) → asked_job project found pipeline query ≡ Ok job → IsAsked project found pipeline query job
asked_parts project found pipeline query job =
    asked (λ r. r ≡ Ok job → IsAsked project found pipeline query job) project found pipeline query
    (λ j w e. let same : j ≡ job = cc in subst (IsAsked project found pipeline query) same w) (λ c m e. absurd (cc))

asked_so : (p : Project) (q : Pipeline) (j : Job) (query : JobQuery) → (p.id == query.project) ≡ true → (q.project == p.id) ≡ true → asked_job (Some p) (Some j) (Some q) query ≡ Ok j
asked_so p q j query named within = cond-true (p.id == query.project) (job_within (Some j) (Some q) p.id) (Err M2) named ∙ cond-true (q.project == p.id) (Ok j) (Err M3) within

-- ---- the state after an act

module _ (s : State) (changes : List RowChange) (act : IsAct s changes) (rise : Rising (λ (j : Job). j.id) 0 s.jobs) where
  abbrev t : State
  t = applied changes s

  abbrev then : State
  then = record s { jobs = put_all job_cmp act.jobs s.jobs; attempts = put_all attempt_cmp act.attempts s.attempts }

  is : t ≡ then
  is = after_act s changes act

  -- it has the job, with what this has for good
  record IsThere (job : Job) : Type 0 where
    pub now : Job
    pub found : job_at t job.id ≡ Some now
    pub good : job_for_good now ≡ job_for_good job

  there : (job : Job) → Has job s.jobs → IsThere job
  there job has =
      let y = all_at number act.jobs job in
      let id : y.id ≡ job.id = all_at_id number act.jobs job in
      let mapped : put_all job_cmp act.jobs s.jobs ≡ map (all_at number act.jobs) s.jobs
      = all_in_place number act.jobs s.jobs rise (λ r k. let w = act.each_job r k in (w.old, (w.has, sym (ap number w.good)))) in
      let here : Has y then.jobs = subst (Has y) (sym mapped) (has_map (all_at number act.jobs) job s.jobs has) in
      record {
        now = y;
        found = ap (λ (w : State). job_at w job.id) is ∙ subst (λ n. job_at then n ≡ Some y) id (find_has number y 0 then.jobs (rising_all number act.jobs s.jobs rise) here);
        good = ⊎_elim
            (λ m. ap job_for_good (one_at number y job 0 s.jobs rise m has id))
            (λ m. let w = act.each_job y m in w.good ∙ ap job_for_good (one_at number w.old job 0 s.jobs rise w.has has (sym (ap number w.good) ∙ id)))
            (has_all job_cmp act.jobs s.jobs y here);
      }

  -- the job that was asked for is shown there
  asked_again : (query : JobQuery) (job : Job) → found_job s query ≡ Ok job → (board : List BoardRow)
      → show_job (project_with t query.token) (job_at t query.job) (pipeline_of t (job_at t query.job)) (claims_in t board (pipeline_or_none (job_at t query.job))) (status_for board query.job) query
      ≡ job_shown (claims_in t board job.pipeline) (queued t job).project job (status_for board job.id)
  asked_again query job found board =
      let a = asked_parts (project_with s query.token) (job_at s query.job) (pipeline_of s (job_at s query.job)) query job found in
      let at = has_find (λ (j : Job). j.id == query.job) job s.jobs a.is_found in
      let id : job.id ≡ query.job = eqb-true job.id query.job at.1 in
      let it = there job at.0 in
      let y = it.now in
      let its_found : job_at t query.job ≡ Some y = ap (job_at t) (sym id) ∙ it.found in
      let pipeline : y.pipeline ≡ job.pipeline = ap (λ (j : Job). j.pipeline) it.good in
      let was : pipeline_at s job.pipeline ≡ Some a.its = sym (ap (pipeline_of s) a.is_found) ∙ a.is_pipeline in
      let now : pipeline_at t job.pipeline ≡ Some a.its = ap (λ (w : State). pipeline_at w job.pipeline) is ∙ was in
      let owner : project_with t query.token ≡ Some a.owner = ap (λ (w : State). project_with w query.token) is ∙ a.is_owner in
      let project : query.project ≡ (queued t job).project
      = sym (eqb-true a.owner.id query.project a.named) ∙ (sym (eqb-true a.its.project a.owner.id a.within) ∙ ap project_or_none (sym now)) in
      (λ i. show_job (owner i) (its_found i) (pipeline_of t (its_found i)) (claims_in t board (pipeline_or_none (its_found i))) (status_for board query.job) query)
      ∙ ((λ i. shown (claims_in t board (pipeline i)) query.project (asked_job (Some a.owner) (Some y) (pipeline_at t (pipeline i)) query) (status_for board (sym id i)))
      ∙ (ap (λ (o : Option Pipeline). shown (claims_in t board job.pipeline) query.project (asked_job (Some a.owner) (Some y) o query) (status_for board job.id)) now
      ∙ (ap (λ (r : Result Job Code). shown (claims_in t board job.pipeline) query.project r (status_for board job.id)) (asked_so a.owner a.its y query a.named a.within)
      ∙ (shown_alike (claims_in t board job.pipeline) query.project (status_for board job.id) y job it.good
      ∙ ap (λ n. job_shown (claims_in t board job.pipeline) n job (status_for board job.id)) project))))

-- ---- what was answered

-- the act was done, to the job that was asked for
record IsActed (s : State) (query : JobQuery) (act : Job → List RowChange) (f : Plan) : Type 0 where
  pub job : Job
  pub found : found_job s query ≡ Ok job
  pub shows : ShowsJobAfter s job (act job) f

acted : (s : State) (board : List BoardRow) (query : JobQuery) (act : Job → List RowChange) (test : Status → Bool) (code : Code) (f : Plan) (r : Result Job Code) → found_job s query ≡ r
    → ActsOn s act (permitted board test code r) f → f.0.code ≡ None → IsActed s query act f
acted s board query act test code f (Err c) found does none = let bad : Some c ≡ None = sym (ap (λ (g : Plan). g.0.code) does) ∙ none in absurd (cc)
acted s board query act test code f (Ok job) found does none =
    cond_both (test (status_for board job.id)) (Ok job) (Err code) (λ (r : Result Job Code). ActsOn s act r f → IsActed s query act f)
    (λ _ shows. record { job = job; found = found; shows = shows })
    (λ _ is. let bad : Some code ≡ None = sym (ap (λ (g : Plan). g.0.code) is) ∙ none in absurd (cc))
    does

has_found : (s : State) (query : JobQuery) (job : Job) → found_job s query ≡ Ok job → Has job s.jobs
has_found s query job found =
    (has_find (λ (j : Job). j.id == query.job) job s.jobs (asked_parts (project_with s query.token) (job_at s query.job) (pipeline_of s (job_at s query.job)) query job found).is_found).0

module _ (s t : State) (rise : Rising (λ (j : Job). j.id) 0 s.jobs) (once : BoardOnce t) (query : JobQuery) (f g : Plan) (after : t ≡ applied f.1 s) (board : List BoardRow) (are : AreBoard t board) (later : ℕ) (seed : Seed)
    (asks : Does t board (ShowJob query) later seed g) where
  again : (act : Job → List RowChange) → ((j : Job) → Has j s.jobs → IsAct s (act j)) → IsActed s query act f → g.0 ≡ f.0
  again act is_act a =
      let job = a.job in
      let changes : f.1 ≡ act job = ap (λ (p : Plan). p.1) a.shows.2 in
      let u = applied (act job) s in
      let same : t ≡ u = after ∙ ap (λ (cs : List RowChange). applied cs s) changes in
      let boards : board ≡ a.shows.0 = once board a.shows.0 are (subst (λ (w : State). AreBoard w a.shows.0) (sym same) a.shows.1) in
      let asked : Does u board (ShowJob query) later seed g = subst (λ (w : State). Does w board (ShowJob query) later seed g) same asks in
      ap (λ (p : Plan). p.0) (asked ∙ asked_again s (act job) (is_act job (has_found s query job a.found)) rise query job a.found board)
      ∙ (ap (λ (b : List BoardRow). (job_shown (claims_in u b job.pipeline) (queued u job).project job (status_for b job.id)).0) boards
      ∙ sym (ap (λ (p : Plan). p.0) a.shows.2))

  by_request : (request : Request) (before : List BoardRow) (now : ℕ) (chance : Seed) → ActsOnJob query request → Does s before request now chance f → f.0.code ≡ None → g.0 ≡ f.0
  by_request (Play q) before now chance is does none =
      again play (plays s) (acted s before query play is_playable M10 f (found_job s query) refl (subst (λ (x : JobQuery). Does s before (Play x) now chance f) is does) none)
  by_request (CancelJob q) before now chance is does none =
      again (λ j. cancel s.attempts (j ∷ [])) (λ j has. cancels s (j ∷ []) (λ w k. ⊎_elim (λ e. subst (λ (v : Job). Has v s.jobs) (sym e) has) (λ m. absurd m) k))
      (acted s before query (λ j. cancel s.attempts (j ∷ [])) is_cancellable M12 f (found_job s query) refl (subst (λ (x : JobQuery). Does s before (CancelJob x) now chance f) is does) none)
  by_request (RetryJob q) before now chance is does none =
      again (λ j. retry (attempts_of s j.id) j) (retries s)
      (acted s before query (λ j. retry (attempts_of s j.id) j) is_retryable M11 f (found_job s query) refl (subst (λ (x : JobQuery). Does s before (RetryJob x) now chance f) is does) none)
  by_request request before now chance is does none = absurd is

-- ---- a pipeline

-- the pipeline that was asked for is the one that was found
asked_for : (r : Result Project Code) (o : Option Pipeline) (p : Pipeline) → asked_pipeline r o ≡ Ok p → o ≡ Some p
asked_for (Ok project) (Some q) p e = cond_both (q.project == project.id) (Ok q) (Err M3) (λ (r : Result Pipeline Code). r ≡ Ok p → Some q ≡ Some p) (λ _ f. cc) (λ _ f. absurd (cc)) e
asked_for r o p e = absurd (cc)

some_are : (s : State) (p : Pipeline) (jobs : List Job) (f : Plan) → CancelsSome s p jobs f → f.0.code ≡ None → ShowsPipelineAfter s p (cancel s.attempts jobs) f
some_are s p [] f does none = let bad : Some M12 ≡ None = sym (ap (λ (g : Plan). g.0.code) does) ∙ none in absurd (cc)
some_are s p (j ∷ js) f shows none = shows

module _ (s t : State) (rise : Rising (λ (j : Job). j.id) 0 s.jobs) (once : BoardOnce t) (query : PipelineQuery) (f g : Plan) (after : t ≡ applied f.1 s) (board : List BoardRow) (are : AreBoard t board) (later : ℕ) (seed : Seed)
    (asks : Does t board (ShowPipeline query) later seed g) (before : List BoardRow) (none : f.0.code ≡ None) where
  pipeline_shown_again : (r : Result Pipeline Code) → found_pipeline s query ≡ r → CancelsPipeline s before r f → g.0 ≡ f.0
  pipeline_shown_again (Err code) found does = let bad : Some code ≡ None = sym (ap (λ (h : Plan). h.0.code) does) ∙ none in absurd (cc)
  pipeline_shown_again (Ok p) found does =
      let jobs = cancellable_jobs s before p.id in
      let shows : ShowsPipelineAfter s p (cancel s.attempts jobs) f = some_are s p jobs f does none in
      let u = applied (cancel s.attempts jobs) s in
      let same : t ≡ u = after ∙ ap (λ (cs : List RowChange). applied cs s) (ap (λ (h : Plan). h.1) shows.2) in
      let boards : board ≡ shows.0 = once board shows.0 are (subst (λ (w : State). AreBoard w shows.0) (sym same) shows.1) in
      let asked : Does u board (ShowPipeline query) later seed g = subst (λ (w : State). Does w board (ShowPipeline query) later seed g) same asks in
      let id : p.id ≡ query.pipeline
      = eqb-true p.id query.pipeline (has_find (λ (q : Pipeline). q.id == query.pipeline) p s.pipelines (asked_for (asked_project (project_with s query.token) query.project) (pipeline_at s query.pipeline) p found)).1 in
      let found_then : found_pipeline u query ≡ Ok p = ap (λ (w : State). found_pipeline w query) (after_act s (cancel s.attempts jobs) (cancels s jobs (cancellable_within s before p.id))) ∙ found in
      ap (λ (h : Plan). h.0) asked
      ∙ (ap (λ (r : Result Pipeline Code). (show_pipeline r (claims_in u board query.pipeline) (jobs_of u query.pipeline) (facts_of u query.pipeline) (rows_of u board query.pipeline)).0) found_then
      ∙ ((λ i. (pipeline_shown p (claims_in u (boards i) (sym id i)) (jobs_of u (sym id i)) (facts_of u (sym id i)) (rows_of u (boards i) (sym id i))).0)
      ∙ sym (ap (λ (h : Plan). h.0) shows.2)))

-- ---- a pipeline that was made

-- it was made of what was laid out, for the project that was asked for
record IsCreated (s : State) (new : NewPipeline) (now : ℕ) (f : Plan) : Type 0 where
  pub project : Project
  pub found : of_asked s new.token new.project ≡ Ok project
  pub laid : Layout
  pub shows : ShowsCreated s s.next.job (creation s.next.pipeline s.next.job new (given_in s new) now laid) f

-- what refuses it has a code
abbrev IsCoded : Result (List ℕ) Plan → Type 0
IsCoded (Ok text) = Unit {0}
IsCoded (Err plan) = plan.0.code ≡ None → ⊥

coded_file : (o : Option (List ℕ)) → IsCoded (file_or_none o)
coded_file None = λ e. let bad : Some M13 ≡ None = e in absurd (cc)
coded_file (Some text) = tt

coded : (d : Detail) → (faulted d).0.code ≡ None → ⊥
coded d e = let bad : Some M14 ≡ None = e in absurd (cc)

coded_for : (project : Project) (new : NewPipeline) → IsCoded (file_for project new)
coded_for project new =
    cond_both (not (is_name new.git_ref)) (Err (faulted (Detail.Code (K 16)))) _ IsCoded (λ _. coded (Detail.Code (K 16))) (λ _.
    cond_both (nat_lt MAX_VARIABLES (length new.variables)) (Err (faulted (Detail.Code (K 11)))) _ IsCoded (λ _. coded (Detail.Code (K 11))) (λ _.
    cond_both (not (have_names new.variables)) (Err (faulted (Detail.Code (K 12)))) (file_or_none project.file) IsCoded (λ _. coded (Detail.Code (K 12))) (λ _. coded_file project.file)))

module _ (s : State) (new : NewPipeline) (now : ℕ) (f : Plan) (none : f.0.code ≡ None) where
  abbrev IsMade : Type 0
  IsMade = (laid : Layout) × ShowsCreated s s.next.job (creation s.next.pipeline s.next.job new (given_in s new) now laid) f

  unless : (laid : Layout) (lacks : Bool) → MakesUnless lacks s s.next.job (creation s.next.pipeline s.next.job new (given_in s new) now laid) f → IsMade
  unless laid true is = let bad : Some M15 ≡ None = sym (ap (λ (g : Plan). g.0.code) is) ∙ none in absurd (cc)
  unless laid false shows = (laid, shows)

  by_laid : (laid : Result Layout Detail) → Makes s new (given_in s new) now laid f → IsMade
  by_laid (Err fault) is = absurd (coded fault (sym (ap (λ (g : Plan). g.0.code) is) ∙ none))
  by_laid (Ok laid) is = unless laid (lacks_numbers s.next.pipeline s.next.job (length laid.plan.jobs)) is

  by_file : (file : Result (List ℕ) Plan) → IsCoded file → Creates s new (given_in s new) now file f → IsMade
  by_file (Err refusal) coded is = absurd (coded (sym (ap (λ (g : Plan). g.0.code) is) ∙ none))
  by_file (Ok text) coded is = by_laid is.0 is.2

  created_is : (r : Result Project Code) → of_asked s new.token new.project ≡ r → Creates s new (given_in s new) now (may_create r new) f → IsCreated s new now f
  created_is (Err code) found is = let bad : Some code ≡ None = sym (ap (λ (g : Plan). g.0.code) is) ∙ none in absurd (cc)
  created_is (Ok project) found is = let made = by_file (file_for project new) (coded_for project new) is in record { project = project; found = found; laid = made.0; shows = made.1 }

module _ (s t : State) (linked : Linked s) (once : BoardOnce t) (new : NewPipeline) (now : ℕ) (f g : Plan) (after : t ≡ applied f.1 s) (board : List BoardRow) (are : AreBoard t board) (later : ℕ) (seed : Seed)
    (asks : Does t board (ShowPipeline (asks_for new s.next.pipeline)) later seed g) where
  made_again : IsCreated s new now f → g.0.body ≡ f.0.body
  made_again c =
      let n = s.next.pipeline in
      let made = creation n s.next.job new (given_in s new) now c.laid in
      let u = applied (creation_changes s.next.job made) s in
      let then = created_state s.next.job made s in
      let is : u ≡ then = made_state s linked new (given_in s new) now c.laid in
      let same : t ≡ u = after ∙ ap (λ (cs : List RowChange). applied cs s) (ap (λ (h : Plan). h.1) c.shows.2) in
      let boards : board ≡ c.shows.0 = once board c.shows.0 are (subst (λ (w : State). AreBoard w c.shows.0) (sym same) c.shows.1) in
      let asked : Does u board (ShowPipeline (asks_for new n)) later seed g = subst (λ (w : State). Does w board (ShowPipeline (asks_for new n)) later seed g) same asks in
      let named : c.project.id ≡ new.project = (subst (Asked s new.project) c.found (is_asked s new.token new.project)).1 in
      let owner : of_asked u new.token new.project ≡ Ok c.project = ap (λ (w : State). of_asked w new.token new.project) is ∙ c.found in
      let at : pipeline_at u n ≡ Some made.pipeline
      = ap (λ (w : State). pipeline_at w n) is
      ∙ find_has (λ (p : Pipeline). p.id) made.pipeline 0 then.pipelines (rising_put (λ (p : Pipeline). p.id) made.pipeline 0 s.pipelines linked.pipelines_rise (omega arith))
      (placed_here pipeline_cmp made.pipeline (others pipeline_cmp made.pipeline s.pipelines)) in
      let found : asked_pipeline (of_asked u new.token new.project) (pipeline_at u n) ≡ Ok made.pipeline
      = (λ i. asked_pipeline (owner i) (at i)) ∙ cond-true (new.project == c.project.id) (Ok made.pipeline) (Err M3) (eq-eqb new.project c.project.id (sym named)) in
      let jobs : jobs_of u n ≡ made.jobs = ap (λ (w : State). jobs_of w n) is ∙ its_jobs s linked new (given_in s new) now c.laid in
      let facts : facts_of u n ≡ replicate (length made.jobs) no_facts = ap (λ (w : State). facts_of w n) is ∙ its_facts s linked new (given_in s new) now c.laid in
      ap (λ (h : Plan). h.0.body) asked
      ∙ ((λ i. (show_pipeline (found i) (claims_in u (boards i) n) (jobs i) (facts i) (rows_of u (boards i) n)).0.body)
      ∙ sym (ap (λ (h : Plan). h.0.body) c.shows.2))

-- ---- of each history

-- each state has one board
board_once : OneAssignment → (s t : State) (request : Request) (now : ℕ) (seed : Seed) (a : Reply) → IsReached s → Step s (Event.Request request) now seed (Answer.Reply a) t → BoardOnce t
board_once law s t request now seed a is step xs ys are them =
    let line : Past = record { before = s; event = Event.Request request; now = now; seed = seed; answer = Answer.Reply a } in
    let one = one_board law (line ∷ is.0) t (is.1, step) in
    one.only xs are ∙ sym (one.only ys them)

pub job_again : OneAssignment → (s t u : State) (request : Request) (query : JobQuery) (now later : ℕ) (seed other : Seed) (a b : Reply) → IsReached s → ActsOnJob query request → Step s (Event.Request request) now seed (Answer.Reply a) t → a.code ≡ None
    → Step t (Event.Request (ShowJob query)) later other (Answer.Reply b) u → b ≡ a
job_again law s t u request query now later seed other a b is acts first none second =
    by_request s t (reached is.0 s is.1).grants.jobs_rise (board_once law s t request now seed a is first) query (a, first.changes) (b, second.changes) first.state second.before second.are_before later other second.happens
    request first.before now seed acts first.happens none

pub pipeline_again : OneAssignment → (s t u : State) (query : PipelineQuery) (now later : ℕ) (seed other : Seed) (a b : Reply) → IsReached s → Step s (Event.Request (CancelPipeline query)) now seed (Answer.Reply a) t → a.code ≡ None
    → Step t (Event.Request (ShowPipeline query)) later other (Answer.Reply b) u → b ≡ a
pipeline_again law s t u query now later seed other a b is first none second =
    pipeline_shown_again s t (reached is.0 s is.1).grants.jobs_rise (board_once law s t (CancelPipeline query) now seed a is first) query (a, first.changes) (b, second.changes) first.state second.before second.are_before later other second.happens
    first.before none (found_pipeline s query) refl first.happens

pub creation_again : OneAssignment → (s t u : State) (new : NewPipeline) (now later : ℕ) (seed other : Seed) (a b : Reply) → IsReached s → Step s (Event.Request (CreatePipeline new)) now seed (Answer.Reply a) t → a.code ≡ None
    → Step t (Event.Request (ShowPipeline (asks_for new s.next.pipeline))) later other (Answer.Reply b) u → b.body ≡ a.body
creation_again law s t u new now later seed other a b is first none second =
    let f : Plan = (a, first.changes) in
    made_again s t (every.held is.0 s is.1).linked (board_once law s t (CreatePipeline new) now seed a is first) new now f (b, second.changes) first.state second.before second.are_before later other second.happens
    (created_is s new now f none (of_asked s new.token new.project) refl first.happens)
