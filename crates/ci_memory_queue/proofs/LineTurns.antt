-- The first job of a group tells whose turn it is.
use Rattle.std.proofs.Common.{◌≡◌, ℕ, ◌<◌, ◌≤◌, Bool, true, false, ◌&&◌, ◌==◌, nat_lt, List, Contains, Option, Some, None, option_map, option_and_then, refl, sym, ap, subst}
use Rattle.std.proofs.Common.{◌∙◌, inl, ⊎_elim, arith, eqb-true, eq-eqb, ltb-true, lt-ltb}
use Rattle.std.specs.List.{list_any}
use Rattle.std.specs.Str.{bytes_eq}
use Rattle.std.proofs.lemmas.Bool.{cases_Bool, cases_lt, and_parts, and_from, or_right, false≢true}
use Rattle.std.proofs.lemmas.Slice.Eq.{bytes_eq-Decides}
use Rattle.ci_machine_steps.specs.Prelude.{Row, Status, Created, Pending, is_status, GroupOrder, OldestFirst, NewestReadyFirst, Job, Pipeline, QueuedJob, WaitingJob, goes_before}
use Rattle.ci_machine_steps.specs.Prelude.{is_in_line, is_behind, Kept, job_at, pipeline_at, project_or_none, queued, status_for, waits_for, waits_as, waiting}
use Rattle.ci_machine.proofs.Keyed.{Has, find_has, has_find}
use Rattle.ci_machine.proofs.Tests.{any_has, has_any, any_joined}
use Rattle.ci_machine_steps.proofs.Sound.{Sound, sound}
use Rattle.ci_machine_statuses.proofs.PendingRows.{its_row_found}
use Rattle.ci_server_lookups.specs.Prelude.{IsKept, is_past, IsTurn}
use Rattle.ci_server_lookups.proofs.OpenRows.{same_test}
use Rattle.ci_memory_queue.specs.declared.lines.Place.{Place}
use Rattle.ci_memory_queue.specs.Places.{place_by, place_at, counts_as, counts, counts_at}
use Rattle.ci_memory_queue.specs.First.{IsInGroup, GoesFirst, IsFirst}
use Rattle.ci_memory_queue.proofs.Waits.{maker}

-- ---- what a job waits for

waits_for_group : (project pipeline : ℕ) (pending : Bool) (group : Option (List ℕ)) (w : WaitingJob) → Has w (waits_for project pipeline pending group)
    → (group ≡ Some w.group) × (w.project ≡ project) × (w.pipeline ≡ pipeline) × (w.pending ≡ pending)
waits_for_group project pipeline pending None w h = absurd h
waits_for_group project pipeline pending (Some group) w h =
    ⊎_elim
    (λ e. (ap (λ (x : WaitingJob). Some x.group) (sym e), ap (λ (x : WaitingJob). x.project) e, ap (λ (x : WaitingJob). x.pipeline) e, ap (λ (x : WaitingJob). x.pending) e))
    (λ m. absurd m)
    h

-- by its status
module _ (q : QueuedJob) where
  abbrev Waits : Status → WaitingJob → Type 0
  Waits st w = (counts_as OldestFirst st ≡ true) × (q.job.options.resource_group ≡ Some w.group) × (w.project ≡ q.project) × (w.pipeline ≡ q.job.pipeline) × (w.pending ≡ is_status st Pending)

  waits_from : (st : Status) (w : WaitingJob) → Has w (waits_as q st) → Waits st w
  waits_from Created w h = let is = waits_for_group q.project q.job.pipeline false q.job.options.resource_group w h in (refl, is.0, is.1, is.2, is.3)
  waits_from Pending w h = let is = waits_for_group q.project q.job.pipeline true q.job.options.resource_group w h in (refl, is.0, is.1, is.2, is.3)
  waits_from _ w h = absurd h

  abbrev waiting_as : Status → List ℕ → WaitingJob
  waiting_as st group = record { project = q.project; group = group; pipeline = q.job.pipeline; pending = is_status st Pending }

  waits_to : (st : Status) (group : List ℕ) → q.job.options.resource_group ≡ Some group → counts_as OldestFirst st ≡ true → Has (waiting_as st group) (waits_as q st)
  waits_to Created group e c = subst (λ (o : Option (List ℕ)). Has (waiting_as Created group) (waits_for q.project q.job.pipeline false o)) (sym e) (inl refl)
  waits_to Pending group e c = subst (λ (o : Option (List ℕ)). Has (waiting_as Pending group) (waits_for q.project q.job.pipeline true o)) (sym e) (inl refl)
  waits_to _ group e c = absurd (false≢true c)

-- ---- orders

-- the pipeline goes before the other in a group with this order
abbrev IsBefore : GroupOrder → ℕ → ℕ → Type 0
IsBefore OldestFirst pipeline other = pipeline < other
IsBefore NewestReadyFirst pipeline other = other < pipeline

-- one that is pending waits too
pub counts_all : (order : GroupOrder) (st : Status) → counts_as order st ≡ true → counts_as OldestFirst st ≡ true
counts_all OldestFirst st e = e
counts_all NewestReadyFirst st e = or_right (is_status st Created) (is_status st Pending) e

before_from : (order : GroupOrder) (st : Status) (w : WaitingJob) (p : ℕ) → counts_as OldestFirst st ≡ true → w.pending ≡ is_status st Pending → goes_before order p w ≡ true
    → (counts_as order st ≡ true) × IsBefore order w.pipeline p
before_from OldestFirst st w p c pending e = (c, ltb-true w.pipeline p e)
before_from NewestReadyFirst st w p c pending e = let both = and_parts (nat_lt p w.pipeline) w.pending e in (sym pending ∙ both.1, ltb-true p w.pipeline both.0)

before_to : (order : GroupOrder) (st : Status) (w : WaitingJob) (p : ℕ) → w.pending ≡ is_status st Pending → counts_as order st ≡ true → IsBefore order w.pipeline p → goes_before order p w ≡ true
before_to OldestFirst st w p pending c l = lt-ltb w.pipeline p l
before_to NewestReadyFirst st w p pending c l = and_from (nat_lt p w.pipeline) w.pending (lt-ltb p w.pipeline l) (pending ∙ c)

past_from : (order : GroupOrder) (turn p : ℕ) → is_past order (Some turn) p ≡ true → IsBefore order turn p
past_from OldestFirst turn p e = ltb-true turn p e
past_from NewestReadyFirst turn p e = ltb-true p turn e

past_to : (order : GroupOrder) (turn p : ℕ) → IsBefore order turn p → is_past order (Some turn) p ≡ true
past_to OldestFirst turn p l = lt-ltb turn p l
past_to NewestReadyFirst turn p l = lt-ltb p turn l

-- ---- jobs with their places

module _ (k : Kept) (kept : IsKept k) (order : GroupOrder) (project : ℕ) (group : List ℕ) where
  snd : Sound k.state
  snd = sound k.state kept.sound

  abbrev status : Job → Status
  status j = status_for k.board j.id

  -- each job has its row
  counts_by_status : (o : GroupOrder) (j : Job) → Has j k.state.jobs → counts_at o k.board j.id ≡ counts_as o (status j)
  counts_by_status o j has = let its = its_row_found k.state k.board j kept.are_board has in ap (counts o) its.1 ∙ ap (λ (r : Row). counts_as o r.status) its.2

  -- and its place
  its_place : (j : Job) → Has j k.state.jobs → (p : Pipeline) × (pipeline_at k.state j.pipeline ≡ Some p) × (place_at k.state j.id ≡ Some (place_by j p))
  its_place j has =
      let named = snd.job_pipeline j has in
      let p = named.0 in
      let found : pipeline_at k.state j.pipeline ≡ Some p = subst (λ n. pipeline_at k.state n ≡ Some p) named.1.1 (find_has (λ (x : Pipeline). x.id) p 0 k.state.pipelines snd.pipelines named.1.0) in
      let there : job_at k.state j.id ≡ Some j = find_has (λ (x : Job). x.id) j 0 k.state.jobs snd.jobs has in
      (p, found, ap (option_and_then (λ (x : Job). option_map (place_by x) (pipeline_at k.state x.pipeline))) there ∙ ap (option_map (place_by j)) found)

  abbrev goes_first : ℕ → WaitingJob → Bool
  goes_first p w = is_in_line project group w && goes_before order p w

  abbrev waits_of : Job → List WaitingJob
  waits_of j = waits_as (queued k.state j) (status j)

  -- one that goes before a pipeline's is a job in the group
  behind_from : (p : ℕ) → is_behind (Some order) (waiting k.state k.board) project p group ≡ true
      → (j : Job) × Has j k.state.jobs × IsInGroup order k project group j.id j.pipeline × IsBefore order j.pipeline p
  behind_from p e =
      let own = any_has (λ j. list_any (goes_first p) (waits_of j)) k.state.jobs (any_joined (goes_first p) waits_of k.state.jobs ∙ e) in
      let j = own.0 in
      let one = any_has (goes_first p) (waits_of j) own.1.1 in
      let w = one.0 in
      let both = and_parts (is_in_line project group w) (goes_before order p w) one.1.1 in
      let key = and_parts (w.project == project) (bytes_eq w.group group) both.0 in
      let is = waits_from (queued k.state j) (status j) w one.1.0 in
      let before = before_from order (status j) w p is.0 is.4 both.1 in
      let its = its_place j own.1.0 in
      let its_project : its.0.project ≡ project = sym (ap project_or_none its.1) ∙ (sym is.2 ∙ eqb-true w.project project key.0) in
      let its_group : j.options.resource_group ≡ Some group = is.1 ∙ ap (λ (g : List ℕ). Some g) ((bytes_eq-Decides w.group group).0 key.1) in (
        j,
        own.1.0,
        (
          counts_by_status order j own.1.0 ∙ before.0,
          its.2 ∙ (λ i. Some (record { pipeline = j.pipeline; project = its_project i; group = its_group i })),
        ),
        subst (λ n. IsBefore order n p) is.3 before.1,
      )

  -- a job in the group that goes before them
  behind_to : (job pipeline p : ℕ) → IsInGroup order k project group job pipeline → IsBefore order pipeline p → is_behind (Some order) (waiting k.state k.board) project p group ≡ true
  behind_to job pipeline p is before =
      let own = maker place_by (job_at k.state job) (pipeline_at k.state) (record { pipeline = pipeline; project = project; group = Some group }) is.1 in
      let j = own.0 in
      let there = has_find (λ (x : Job). x.id == job) j k.state.jobs own.1 in
      let counted : counts_as order (status j) ≡ true = sym (counts_by_status order j there.0) ∙ subst (λ n. counts_at order k.board n ≡ true) (sym (eqb-true j.id job there.1)) is.0 in
      let w : WaitingJob = waiting_as (queued k.state j) (status j) group in
      let has : Has w (waits_of j) = waits_to (queued k.state j) (status j) group (ap (λ (x : Place). x.group) own.4) (counts_all order (status j) counted) in
      let its_project : w.project ≡ project = ap project_or_none own.3 ∙ ap (λ (x : Place). x.project) own.4 in
      let line : is_in_line project group w ≡ true = and_from (w.project == project) (bytes_eq w.group group) (eq-eqb w.project project its_project) ((bytes_eq-Decides group group).1 refl) in
      let goes : goes_before order p w ≡ true = before_to order (status j) w p refl counted (subst (λ n. IsBefore order n p) (sym (ap (λ (x : Place). x.pipeline) own.4)) before) in
      sym (any_joined (goes_first p) waits_of k.state.jobs)
      ∙ has_any (λ i. list_any (goes_first p) (waits_of i)) j k.state.jobs there.0
      (has_any (goes_first p) w (waits_of j) has (and_from (is_in_line project group w) (goes_before order p w) line goes))

  -- the job with a number in the group
  job_of : (job pipeline : ℕ) → IsInGroup order k project group job pipeline → (j : Job) × Has j k.state.jobs × (j.id ≡ job) × (j.pipeline ≡ pipeline)
  job_of job pipeline is =
      let own = maker place_by (job_at k.state job) (pipeline_at k.state) (record { pipeline = pipeline; project = project; group = Some group }) is.1 in
      let there = has_find (λ (x : Job). x.id == job) own.0 k.state.jobs own.1 in
      (own.0, there.0, eqb-true own.0.id job there.1, ap (λ (x : Place). x.pipeline) own.4)

  -- jobs of newer pipelines have greater numbers, so that no pipeline goes before that of the first
  in_turn : (o : GroupOrder) (a b : Job) (p : ℕ) → Has a k.state.jobs → Has b k.state.jobs → GoesFirst o a.id b.id → IsBefore o b.pipeline p → IsBefore o a.pipeline p
  in_turn OldestFirst a b p ha hb first before =
      ⊎_elim
      (λ (l : b.pipeline < a.pipeline). let m : b.id < a.id = snd.in_turn b a hb ha l in let f : a.id ≤ b.id = first in absurd (omega arith))
      (λ (l : a.pipeline ≤ b.pipeline). let m : b.pipeline < p = before in omega arith)
      (cases_lt b.pipeline a.pipeline)
  in_turn NewestReadyFirst a b p ha hb first before =
      ⊎_elim
      (λ (l : a.pipeline < b.pipeline). let m : a.id < b.id = snd.in_turn a b ha hb l in let f : b.id ≤ a.id = first in absurd (omega arith))
      (λ (l : b.pipeline ≤ a.pipeline). let m : p < b.pipeline = before in omega arith)
      (cases_lt a.pipeline b.pipeline)

  -- of jobs among which all of the group are, the first tells whose turn it is
  module _ (jobs : List ℕ) (all : (job pipeline : ℕ) → IsInGroup order k project group job pipeline → Contains jobs job) where
    pub is_turn : (found : Option ℕ) → IsFirst order k project group jobs found → IsTurn order (waiting k.state k.board) project group found
    is_turn None is p =
        ⊎_elim (λ e. absurd (let w = behind_from p e in is w.0.id (all w.0.id w.0.pipeline w.2))) (λ e. e) (cases_Bool (is_behind (Some order) (waiting k.state k.board) project p group))
    is_turn (Some turn) is p =
        same_test (is_behind (Some order) (waiting k.state k.board) project p group) (is_past order (Some turn) p)
        (λ e.
        let w = behind_from p e in
        let first = job_of is.0 turn is.1.0 in
        let goes : GoesFirst order first.0.id w.0.id = subst (λ n. GoesFirst order n w.0.id) (sym first.2) (is.1.1 w.0.id (all w.0.id w.0.pipeline w.2)) in
        past_to order turn p (subst (λ n. IsBefore order n p) first.3 (in_turn order first.0 w.0 p first.1 w.1 goes w.3)))
        (λ e. behind_to is.0 turn p is.1.0 (past_from order turn p e))
