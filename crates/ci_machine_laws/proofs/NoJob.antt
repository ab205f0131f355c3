-- Where a runner is told that there is no job, none of the pending ones is one that it may be given.
use Rattle.ci_machine_laws.proofs.Prelude.{has_from_all, not-false, or_cases, ◌≡◌, ◌⊎◌, ℕ, Bool, true, false, not, ◌==◌, ◌&&◌, ◌||◌, nat_lt, List, [], ◌∷◌, All, Contains, Option}
use Rattle.ci_machine_laws.proofs.Prelude.{Some, None, option_map, refl, sym, ap, subst, ◌∙◌, inl, inr, ⊎_elim, eqb-true, eq-eqb, ltb-true, lt-ltb, list_any, list_all, bytes_eq}
use Rattle.ci_machine_laws.proofs.Prelude.{cond_both, both_ways, false≢true, and_parts, and_from, and_cases, or_left, or_right, bytes_eq-Decides, not_true, Has, Rising}
use Rattle.ci_machine_laws.proofs.Prelude.{has_filter, filter_has, has_find, has_map, All-from_has, contains_from_has, has_from_contains, any_has, has_any, any_joined}
use Rattle.std.proofs.lemmas.List.Sums.{AllPass-from_list_all}
use Rattle.ci_machine_steps.specs.Prelude.{MAX_NUMBER, Status, BoardRow, GroupOrder, OldestFirst, NewestReadyFirst, Job, JobVariable, QueuedJob, Runner, WaitingJob, Event}
use Rattle.ci_machine_steps.specs.Prelude.{AskJob, Seed, Answer, M15, NoContent, Reply, State, status_for, AreBoard, is_live, is_open_to, has_tag, takes, may_run, holds}
use Rattle.ci_machine_steps.specs.Prelude.{claims_group, is_free, resource_free, is_eligible, chosen, order_of, goes_before_in, claims_on, is_in_line, is_behind, queued_at}
use Rattle.ci_machine_steps.specs.Prelude.{group_held, held_by, held_of, holders, waits_for, waits_as, waiting, groups_in, project_or_none, live_attempts, Plan, refused, granted}
use Rattle.ci_machine_steps.specs.Prelude.{ask_job, Step, runner_with, is_pending, pending_jobs, queued, queue, offer, offered_variables, IsReached, IsLeastEligible}
use Rattle.ci_machine.proofs.Claims.{any_claim}
use Rattle.ci_machine_laws.specs.NoJob.{IsOfProject, HasGroup, MustWait, IsNotFor, HasNoJob}
use Rattle.ci_machine_laws.specs.NoJob.MustWait.{held, older_first, newer_first}
use Rattle.ci_machine_laws.specs.NoJob.IsNotFor.{paused, of_other, untagged, lacks_tag, waits}
use Rattle.ci_machine_laws.proofs.Reached.{reached}
use Rattle.ci_machine_laws.proofs.Linked.{Linked}
use Rattle.ci_machine.proofs.Found.{found_none}
use Rattle.ci_machine_laws.proofs.Groups.{only_one, job_found, pipeline_found}
use Rattle.ci_machine_laws.proofs.OneBoard.{OneAssignment, one_board}
use Rattle.ci_machine_laws.proofs.Held as every

-- ---- tests

-- one that doesn't pass
all_has : {A : Type 0} (p : A → Bool) (xs : List A) → list_all p xs ≡ false → (x : A) × (Has x xs × (p x ≡ false))
all_has p [] e = absurd (false≢true (sym e))
all_has p (x ∷ xs) e = ⊎_elim (λ f. (x, (inl refl, f))) (λ f. let w = all_has p xs f in (w.0, (inr w.1.0, w.1.1))) (and_cases (p x) (list_all p xs) e)

-- ---- what an attempt holds, and a job waits for

in_held : (n project : ℕ) (group : Option (List ℕ)) (p : ℕ) (g : List ℕ) → list_any (holds p g) (group_held n project group) ≡ true → (project ≡ p) × (group ≡ Some g)
in_held n project None p g e = absurd (false≢true e)
in_held n project (Some group) p g e =
    let both = and_parts (project == p) (bytes_eq group g) (only_one ((project == p) && bytes_eq group g) e) in
    (eqb-true project p both.0, ap (λ (w : List ℕ). Some w) ((bytes_eq-Decides group g).0 both.1))

held_in : (n p : ℕ) (g : List ℕ) → list_any (holds p g) (group_held n p (Some g)) ≡ true
held_in n p g = or_left ((p == p) && bytes_eq g g) false (and_from (p == p) (bytes_eq g g) (eq-eqb p p refl) ((bytes_eq-Decides g g).1 refl))

abbrev ahead : Option GroupOrder → ℕ → ℕ → List ℕ → WaitingJob → Bool
ahead order pipeline project group w = is_in_line project group w && goes_before_in order pipeline w

in_wait : (project n : ℕ) (pending : Bool) (group : Option (List ℕ)) (order : Option GroupOrder) (pipeline p : ℕ) (g : List ℕ)
    → list_any (ahead order pipeline p g) (waits_for project n pending group) ≡ true
    → (project ≡ p) × (group ≡ Some g) × (goes_before_in order pipeline (record { project = p; group = g; pipeline = n; pending = pending }) ≡ true)
in_wait project n pending None order pipeline p g e = absurd (false≢true e)
in_wait project n pending (Some group) order pipeline p g e =
    let w : WaitingJob = record { project = project; group = group; pipeline = n; pending = pending } in
    let both = and_parts (is_in_line p g w) (goes_before_in order pipeline w) (only_one (ahead order pipeline p g w) e) in
    let names = and_parts (project == p) (bytes_eq group g) both.0 in
    let same_project : project ≡ p = eqb-true project p names.0 in
    let same_group : group ≡ g = (bytes_eq-Decides group g).0 names.1 in (
      same_project,
      ap (λ (x : List ℕ). Some x) same_group,
      subst (λ (x : List ℕ). goes_before_in order pipeline (record { project = p; group = x; pipeline = n; pending = pending }) ≡ true) same_group
          (subst (λ m. goes_before_in order pipeline (record { project = m; group = group; pipeline = n; pending = pending }) ≡ true) same_project both.1),
    )

wait_in : (n : ℕ) (pending : Bool) (order : Option GroupOrder) (pipeline p : ℕ) (g : List ℕ) → goes_before_in order pipeline (record { project = p; group = g; pipeline = n; pending = pending }) ≡ true
    → list_any (ahead order pipeline p g) (waits_for p n pending (Some g)) ≡ true
wait_in n pending order pipeline p g e =
    let w : WaitingJob = record { project = p; group = g; pipeline = n; pending = pending } in
    or_left (ahead order pipeline p g w) false
    (and_from (is_in_line p g w) (goes_before_in order pipeline w) (and_from (p == p) (bytes_eq g g) (eq-eqb p p refl) ((bytes_eq-Decides g g).1 refl)) e)

module _ (s : State) (board : List BoardRow) (rise : Rising (λ (j : Job). j.id) 0 s.jobs) (i : Linked s) where
  of_project : (job : Job) → Has job s.jobs → IsOfProject s (queued s job).project job
  of_project job k =
      let p = i.job_pipeline job k in
      (p.0, contains_from_has p.0 s.pipelines p.1.0, p.1.1, sym (ap project_or_none (pipeline_found s p.0 job.pipeline i.pipelines_rise p.1.0 p.1.1)))

  project_is : (job : Job) (project : ℕ) → IsOfProject s project job → (queued s job).project ≡ project
  project_is job project w = ap project_or_none (pipeline_found s w.0 job.pipeline i.pipelines_rise (has_from_contains w.0 s.pipelines w.1) w.2) ∙ w.3

  has_group : (job : Job) → Has job s.jobs → (project : ℕ) (group : List ℕ) → (queued s job).project ≡ project → job.options.resource_group ≡ Some group → HasGroup s project group job
  has_group job k project group is e = record {
    is_job = contains_from_has job s.jobs k;
    its_group = e;
    of_project = subst (λ n. IsOfProject s n job) is (of_project job k);
  }

  -- ---- who must wait

  is_held : (project : ℕ) (group : List ℕ) (pipeline : ℕ) → list_any (holds project group) (holders s) ≡ true → MustWait s board project group pipeline
  is_held project group pipeline e =
      let at = any_has (λ a. list_any (holds project group) (held_of s a)) (live_attempts s) (any_joined (holds project group) (held_of s) (live_attempts s) ∙ e) in
      let a = at.0 in
      let live = has_filter is_live a s.attempts at.1.0 in
      let j = i.attempt_job a live.0 in
      let found = job_found s j.0 a.job rise j.1.0 j.1.1 in
      let known : list_any (holds project group) (held_by a.id (queued_at s a.job)) ≡ true = at.1.1 in
      let its = in_held a.id (queued s j.0).project j.0.options.resource_group project group
      (subst (λ (o : Option Job). list_any (holds project group) (held_by a.id (option_map (queued s) o)) ≡ true) found known) in
      held j.0 a (has_group j.0 j.1.0 project group its.0 its.1) (contains_from_has a s.attempts live.0) (sym j.1.1) live.1

  first_in : (project : ℕ) (group : List ℕ) (pipeline : ℕ) (other : Job) → HasGroup s project group other → (order : Option GroupOrder) → order_of s.modes project group ≡ order → (pending : Bool)
      → (status_for board other.id ≡ Status.Created) ⊎ (status_for board other.id ≡ Status.Pending) → (pending ≡ true → status_for board other.id ≡ Status.Pending)
      → goes_before_in order pipeline (record { project = project; group = group; pipeline = other.pipeline; pending = pending }) ≡ true → MustWait s board project group pipeline
  first_in project group pipeline other its None order pending some ready e = absurd (false≢true e)
  first_in project group pipeline other its (Some OldestFirst) order pending some ready e = older_first other its order (ltb-true other.pipeline pipeline e) some
  first_in project group pipeline other its (Some NewestReadyFirst) order pending some ready e =
      let both = and_parts (nat_lt pipeline other.pipeline) pending e in newer_first other its order (ltb-true pipeline other.pipeline both.0) (ready both.1)

  by_status : (project : ℕ) (group : List ℕ) (pipeline : ℕ) (other : Job) → Has other s.jobs → (st : Status) → status_for board other.id ≡ st
      → list_any (ahead (order_of s.modes project group) pipeline project group) (waits_as (queued s other) st) ≡ true → MustWait s board project group pipeline
  by_status project group pipeline other k Status.Created is e =
      let w = in_wait (queued s other).project other.pipeline false other.options.resource_group (order_of s.modes project group) pipeline project group e in
      first_in project group pipeline other (has_group other k project group w.0 w.1) (order_of s.modes project group) refl false (inl is) (λ t. absurd (false≢true t)) w.2
  by_status project group pipeline other k Status.Pending is e =
      let w = in_wait (queued s other).project other.pipeline true other.options.resource_group (order_of s.modes project group) pipeline project group e in
      first_in project group pipeline other (has_group other k project group w.0 w.1) (order_of s.modes project group) refl true (inr is) (λ t. is) w.2
  by_status project group pipeline other k st is e = absurd (false≢true e)

  abbrev line_of : Job → List WaitingJob
  line_of j = waits_as (queued s j) (status_for board j.id)

  goes_behind : (project : ℕ) (group : List ℕ) (pipeline : ℕ) → is_behind (order_of s.modes project group) (waiting s board) project pipeline group ≡ true → MustWait s board project group pipeline
  goes_behind project group pipeline e =
      let test = ahead (order_of s.modes project group) pipeline project group in
      let at = any_has (λ j. list_any test (line_of j)) s.jobs (any_joined test line_of s.jobs ∙ e) in
      by_status project group pipeline at.0 at.1.0 (status_for board at.0.id) refl at.1.1

  -- ---- and the other way

  abbrev Claimed : ℕ → List ℕ → ℕ → Type 0
  Claimed project group pipeline = (list_any (holds project group) (holders s) || is_behind (order_of s.modes project group) (waiting s board) project pipeline group) ≡ true

  behind_one : (project : ℕ) (group : List ℕ) (pipeline : ℕ) (other : Job) → Has other s.jobs → list_any (ahead (order_of s.modes project group) pipeline project group) (line_of other) ≡ true → Claimed project group pipeline
  behind_one project group pipeline other k e =
      let test = ahead (order_of s.modes project group) pipeline project group in
      or_right (list_any (holds project group) (holders s)) _ (sym (any_joined test line_of s.jobs) ∙ has_any (λ j. list_any test (line_of j)) other s.jobs k e)

  -- a job with the group waits in this line
  in_line_as : (project : ℕ) (group : List ℕ) (pipeline : ℕ) (other : Job) → HasGroup s project group other → (st : Status) (pending : Bool)
      → ((q : QueuedJob) → waits_as q st ≡ waits_for q.project q.job.pipeline pending q.job.options.resource_group) → status_for board other.id ≡ st
      → (order : GroupOrder) → order_of s.modes project group ≡ Some order → goes_before_in (Some order) pipeline (record { project = project; group = group; pipeline = other.pipeline; pending = pending }) ≡ true
      → list_any (ahead (order_of s.modes project group) pipeline project group) (line_of other) ≡ true
  in_line_as project group pipeline other its st pending line_is is order mode e =
      let line : line_of other ≡ waits_for project other.pipeline pending (Some group)
      = ap (waits_as (queued s other)) is ∙ (line_is (queued s other) ∙ (λ k. waits_for (project_is other project its.of_project k) other.pipeline pending (its.its_group k))) in
      (λ k. list_any (ahead (mode k) pipeline project group) (line k)) ∙ wait_in other.pipeline pending (Some order) pipeline project group e

  claimed : (project : ℕ) (group : List ℕ) (pipeline : ℕ) → MustWait s board project group pipeline → Claimed project group pipeline
  claimed project group pipeline (held other a its has same live) =
      let k = has_from_contains a s.attempts has in
      let found = job_found s other a.job rise (has_from_contains other s.jobs its.is_job) (sym same) in
      let holds_it : list_any (holds project group) (held_of s a) ≡ true
      = ap (λ (o : Option Job). list_any (holds project group) (held_by a.id (option_map (queued s) o))) found
      ∙ ((λ t. list_any (holds project group) (group_held a.id (project_is other project its.of_project t) (its.its_group t)))
      ∙ held_in a.id project group) in
      or_left (list_any (holds project group) (holders s)) _
      (sym (any_joined (holds project group) (held_of s) (live_attempts s)) ∙ has_any (λ b. list_any (holds project group) (held_of s b)) a (live_attempts s) (filter_has is_live a s.attempts k live) holds_it)
  claimed project group pipeline (older_first other its mode older some) =
      let k = has_from_contains other s.jobs its.is_job in
      behind_one project group pipeline other k
      (⊎_elim
      (λ is. in_line_as project group pipeline other its Status.Created false (λ q. refl) is OldestFirst mode (lt-ltb other.pipeline pipeline older))
      (λ is. in_line_as project group pipeline other its Status.Pending true (λ q. refl) is OldestFirst mode (lt-ltb other.pipeline pipeline older))
      some)
  claimed project group pipeline (newer_first other its mode newer is) =
      behind_one project group pipeline other (has_from_contains other s.jobs its.is_job)
      (in_line_as project group pipeline other its Status.Pending true (λ q. refl) is NewestReadyFirst mode (and_from (nat_lt pipeline other.pipeline) true (lt-ltb pipeline other.pipeline newer) refl))

  -- ---- a job and a runner

  module _ (runner : Runner) (job : Job) (k : Has job s.jobs) where
    abbrev Not : Type 0
    Not = IsNotFor s board runner job

    other_project : (o : Option ℕ) → runner.project ≡ o → is_open_to o (queued s job).project ≡ false → Not
    other_project None is e = absurd (false≢true (sym e))
    other_project (Some own) is e = of_other own (queued s job).project is (of_project job k) (λ q. both_ways (own == (queued s job).project) e (eq-eqb own (queued s job).project (sym q)))

    other_tags : (tags : List (List ℕ)) → job.options.tags ≡ tags → takes runner tags ≡ false → Not
    other_tags [] is e = untagged is e
    other_tags (tag ∷ tags) is e =
        let w = all_has (has_tag runner) (tag ∷ tags) e in
        lacks_tag w.0 (contains_from_has w.0 job.options.tags (subst (Has w.0) (sym is) w.1.0))
        (λ c. both_ways (has_tag runner w.0) w.1.1 (has_any (λ own. bytes_eq own w.0) w.0 runner.tags (has_from_contains w.0 runner.tags c) ((bytes_eq-Decides w.0 w.0).1 refl)))

    group_waits : (group : Option (List ℕ)) → job.options.resource_group ≡ group → is_free (claims_on (groups_in s board) job.pipeline) (queued s job).project group ≡ false → Not
    group_waits None is e = absurd (false≢true (sym e))
    group_waits (Some group) is e =
        let project = (queued s job).project in
        let claim = not-false (list_any (claims_group project group) (claims_on (groups_in s board) job.pipeline)) e in
        waits project group (has_group job k project group refl is)
        (⊎_elim (λ h. is_held project group job.pipeline h) (λ b. goes_behind project group job.pipeline b)
        (or_cases (list_any (holds project group) (holders s)) _ (sym (any_claim (groups_in s board) job.pipeline project group) ∙ claim)))

    not_for : is_eligible runner (groups_in s board) (queued s job) ≡ false → Not
    not_for e =
        let project = (queued s job).project in
        let tags = job.options.tags in
        ⊎_elim
        (λ m. ⊎_elim
        (λ n. ⊎_elim (λ p. paused (not-false runner.paused p)) (λ o. other_project runner.project refl o) (and_cases (not runner.paused) (is_open_to runner.project project) n))
        (λ t. other_tags tags refl t)
        (and_cases (not runner.paused && is_open_to runner.project project) (takes runner tags) m))
        (λ f. group_waits job.options.resource_group refl f)
        (and_cases (may_run runner project tags) (resource_free (groups_in s board) (queued s job)) e)

    takes_each : (tags : List (List ℕ)) (tag : List ℕ) → takes runner tags ≡ true → Has tag tags → has_tag runner tag ≡ true
    takes_each [] tag e m = absurd m
    takes_each (first ∷ tags) tag e m = has_from_all (λ own. has_tag runner own ≡ true) tag (first ∷ tags) (AllPass-from_list_all (has_tag runner) (first ∷ tags) e) m

    reasons : is_eligible runner (groups_in s board) (queued s job) ≡ true → IsNotFor s board runner job → ⊥
    reasons e (paused p) = both_ways runner.paused (not_true runner.paused (and_parts (not runner.paused) _ (and_parts (not runner.paused && is_open_to runner.project (queued s job).project) _ (and_parts (may_run runner (queued s job).project job.options.tags) _ e).0).0).0) p
    reasons e (of_other own project is of other) =
        let open_to = (and_parts (not runner.paused) (is_open_to runner.project (queued s job).project) (and_parts (not runner.paused && is_open_to runner.project (queued s job).project) _ (and_parts (may_run runner (queued s job).project job.options.tags) _ e).0).0).1 in
        let same : own ≡ (queued s job).project = eqb-true own (queued s job).project (sym (ap (λ (o : Option ℕ). is_open_to o (queued s job).project) is) ∙ open_to) in
        other (sym (same ∙ project_is job project of))
    reasons e (untagged none not_run) =
        let all = (and_parts (not runner.paused && is_open_to runner.project (queued s job).project) (takes runner job.options.tags) (and_parts (may_run runner (queued s job).project job.options.tags) _ e).0).1 in
        both_ways runner.untagged not_run (sym (ap (takes runner) none) ∙ all)
    reasons e (lacks_tag tag has lacks) =
        let all = (and_parts (not runner.paused && is_open_to runner.project (queued s job).project) (takes runner job.options.tags) (and_parts (may_run runner (queued s job).project job.options.tags) _ e).0).1 in
        let w = any_has (λ own. bytes_eq own tag) runner.tags (takes_each job.options.tags tag all (has_from_contains tag job.options.tags has)) in
        lacks (subst (Contains runner.tags) ((bytes_eq-Decides w.0 tag).0 w.1.1) (contains_from_has w.0 runner.tags w.1.0))
    reasons e (waits project group its must) =
        let free = (and_parts (may_run runner (queued s job).project job.options.tags) (resource_free (groups_in s board) (queued s job)) e).1 in
        let claims = claims_on (groups_in s board) job.pipeline in
        let named : is_free claims project (Some group) ≡ true = sym (λ t. is_free claims (project_is job project its.of_project t) (its.its_group t)) ∙ free in
        both_ways (list_any (claims_group project group) claims) (not_true (list_any (claims_group project group) claims) named)
        (any_claim (groups_in s board) job.pipeline project group ∙ claimed project group job.pipeline must)

-- ---- the laws

-- what the plan of a job request answers 204
nothing_offered : (runner : Option Runner) (q : Option QueuedJob) (variables : List JobVariable) (next now : ℕ) (seed : Seed)
    → (ask_job runner q variables next now seed).0.status ≡ NoContent → ((r : Runner) × (runner ≡ Some r)) × (q ≡ None)
nothing_offered None q variables next now seed e = absurd (cc)
nothing_offered (Some r) None variables next now seed e = ((r, refl), refl)
nothing_offered (Some r) (Some q) variables next now seed e =
    cond_both (nat_lt MAX_NUMBER next) (refused M15) (granted r q variables next now seed) (λ (f : Plan). f.0.status ≡ NoContent → ((w : Runner) × (Some r ≡ Some w)) × (Some q ≡ None)) (λ _ n. absurd (cc)) (λ _ n. absurd (cc)) e

pub no_job : OneAssignment → (s t : State) (token : List ℕ) (now : ℕ) (seed : Seed) (reply : Reply) → IsReached s → Step s (Event.Request (AskJob token)) now seed (Answer.Reply reply) t → reply.status ≡ NoContent → HasNoJob s token
no_job law s t token now seed reply is step none =
    let one = one_board law is.0 s is.1 in
    let board = step.before in
    let found = runner_with s token in
    let plan : (reply, step.changes) ≡ ask_job found (offer s board found) (offered_variables s (offer s board found)) s.next.attempt now seed = step.happens in
    let w = nothing_offered found (offer s board found) (offered_variables s (offer s board found)) s.next.attempt now seed (sym (ap (λ (f : Plan). f.0.status) plan) ∙ none) in
    let runner = w.0.0 in
    let its = has_find (λ (r : Runner). bytes_eq r.token token) runner s.runners w.0.1 in
    let unchosen : chosen (queue s board) (groups_in s board) runner ≡ None = sym (ap (offer s board) w.0.1) ∙ w.1 in
    let rise = (reached is.0 s is.1).grants.jobs_rise in
    let linked = (every.held is.0 s is.1).linked in
    record {
      one = one;
      runner = runner;
      is_runner = contains_from_has runner s.runners its.0;
      its_token = (bytes_eq-Decides runner.token token).0 its.1;
      none = subst (λ (b : List BoardRow). All (λ (job : Job). is_pending b job ≡ true → IsNotFor s b runner job) s.jobs) (one.only board step.are_before)
          (All-from_has (λ (job : Job). is_pending board job ≡ true → IsNotFor s board runner job) s.jobs (λ job k pending.
          not_for s board rise linked runner job k
          (found_none (is_eligible runner (groups_in s board)) (queued s job) (queue s board) unchosen
          (has_map (queued s) job (pending_jobs s board) (filter_has (is_pending board) job s.jobs k pending)))));
    }

pub are_reasons : OneAssignment → (s : State) (board : List BoardRow) (runner : Runner) (job : Job) → IsReached s → AreBoard s board → IsLeastEligible s runner job → IsNotFor s board runner job → ⊥
are_reasons law s board runner job is are least not =
    let one = one_board law is.0 s is.1 in
    let same : least.board ≡ board = one.only least.board least.are_board ∙ sym (one.only board are) in
    reasons s board (reached is.0 s is.1).grants.jobs_rise (every.held is.0 s is.1).linked runner job (has_from_contains job s.jobs least.is_job)
    (subst (λ (b : List BoardRow). is_eligible runner (groups_in s b) (queued s job) ≡ true) same least.allowed) not
