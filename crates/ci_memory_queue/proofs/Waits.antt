-- Whose turn it is in a resource group tells which of the jobs that ask for it need not wait.
use Rattle.std.proofs.Common.{◌≡◌, ℕ, ◌≤◌, Bool, true, false, not, ◌==◌, ◌&&◌, ◌||◌, nat_lt, List, Option, Some, None, IfSome, is_some, option_map, option_and_then, refl, sym, ap}
use Rattle.std.proofs.Common.{subst, ◌∙◌, inl, ⊎_elim, arith, eqb-true, eq-eqb, ltb-false}
use Rattle.std.specs.Str.{bytes_eq}
use Rattle.std.proofs.lemmas.Bool.{both_ways, cases_Bool}
use Rattle.std.proofs.lemmas.Bool.Decides.{nat_tests}
use Rattle.std.proofs.lemmas.Slice.Eq.{bytes_eq-Decides}
use Rattle.ci_machine_steps.specs.Prelude.{Status, Pending, GroupMode, GroupOrder, OldestFirst, NewestReadyFirst, Holder, Job, Pipeline, WaitingJob, is_free, order_of, goes_before}
use Rattle.ci_machine_steps.specs.Prelude.{is_in_line, is_behind, holder_at, Kept, job_at, pipeline_at, project_or_none, queued, State, status_for, waits_for, waits_as, waiting}
use Rattle.ci_machine_steps.specs.Prelude.{groups_in, claims_in, mode_at, pipeline_or_none}
use Rattle.ci_machine.proofs.Claims.{any_claim, none_ahead}
use Rattle.ci_machine.proofs.Keyed.{Has, has_find}
use Rattle.ci_machine.proofs.Tests.{has_any}
use Rattle.ci_machine_statuses.proofs.Grants.{pending_is}
use Rattle.ci_server_lookups.specs.Prelude.{IsKept, is_past, IsTurn}
use Rattle.ci_machine_steps.proofs.Behind.{flat_has}
use Rattle.ci_server_lookups.proofs.Holds.{held_by_row}
use Rattle.ci_memory_queue.specs.declared.queue.Asks.{Asks}
use Rattle.ci_memory_queue.specs.declared.turns.Turn.{Turn}
use Rattle.ci_memory_queue.specs.Covers.{asked_by, asks_at, is_pending_at}
use Rattle.ci_memory_queue.specs.Turns.{pipeline_for, is_free_at, IsTurnOf, turn_by, GoesFirst}

-- ---- numbers

-- neither of two numbers is lesser where they are the same
not_less_same : (a b : ℕ) → nat_lt a b ≡ false → not (nat_lt b a) ≡ (a == b)
not_less_same a b f = grind (arith, nat_tests)

-- no pipeline is past its own turn
own_turn : (order : GroupOrder) (n : ℕ) → is_past order (Some n) n ≡ false
own_turn OldestFirst n = grind (arith, nat_tests)
own_turn NewestReadyFirst n = grind (arith, nat_tests)

-- ---- what a job asks

pub then_from : {A B : Type 0} (f : A → Option B) (o : Option A) (y : B) → option_and_then f o ≡ Some y → (x : A) × ((o ≡ Some x) × (f x ≡ Some y))
then_from f None y e = absurd (cc)
then_from f (Some x) y e = (x, (refl, e))

pub mapped_from : {A B : Type 0} (f : A → B) (o : Option A) (y : B) → option_map f o ≡ Some y → (x : A) × ((o ≡ Some x) × (f x ≡ y))
mapped_from f None y e = absurd (cc)
mapped_from f (Some x) y e = let same : f x ≡ y = cc in (x, (refl, same))

-- the job that something is made of, with its pipeline
pub maker : {B : Type 0} (f : Job → Pipeline → B) (o : Option Job) (find : ℕ → Option Pipeline) (y : B) → option_and_then (λ (j : Job). option_map (f j) (find j.pipeline)) o ≡ Some y
    → (j : Job) × (o ≡ Some j) × (p : Pipeline) × (find j.pipeline ≡ Some p) × (f j p ≡ y)
maker f None find y e = absurd (cc)
maker f (Some j) find y e = let own = mapped_from (f j) (find j.pipeline) y e in (j, refl, own.0, own.1.0, own.1.1)

-- where pipelines up to a number are found as before, what is made of a job of one of them is as before
pub made_alike : {B : Type 0} (f : Job → Pipeline → B) (o : Option Job) (newest : ℕ) (before after : ℕ → Option Pipeline) → ((m : ℕ) → m ≤ newest → after m ≡ before m) → IfSome o (λ j. j.pipeline ≤ newest)
    → option_and_then (λ (j : Job). option_map (f j) (after j.pipeline)) o ≡ option_and_then (λ (j : Job). option_map (f j) (before j.pipeline)) o
made_alike f None newest before after same within = refl
made_alike f (Some j) newest before after same within = ap (option_map (f j)) (same j.pipeline within)

-- ---- a job that waits

-- the job, which is pending and asks for this group, waits
abbrev waits : ℕ → ℕ → List ℕ → WaitingJob
waits project pipeline group = record { project = project; group = group; pipeline = pipeline; pending = true }

module _ (s : State) (board : List _) (n : ℕ) (asks : Asks) (group : List ℕ) (its : asks.group ≡ Some group) (pending : is_pending_at board n ≡ true) (asked : asks_at s n ≡ Some asks) where
  -- a pending job that asks for the group is one of those that wait
  in_waiting : Has (waits asks.project (pipeline_for s n) group) (waiting s board)
  in_waiting =
      let own = maker asked_by (job_at s n) (pipeline_at s) asks asked in
      let j : Job = own.0 in
      let there = has_find (λ (x : Job). x.id == n) j s.jobs own.1 in
      let number : j.id ≡ n = eqb-true j.id n there.1 in
      let p : Pipeline = own.2 in
      let project : project_or_none (pipeline_at s j.pipeline) ≡ asks.project = ap project_or_none own.3 ∙ ap (λ (a : Asks). a.project) own.4 in
      let grouped : j.options.resource_group ≡ Some group = ap (λ (a : Asks). a.group) own.4 ∙ its in
      let status : status_for board j.id ≡ Pending = ap (status_for board) number ∙ pending_is (status_for board n) pending in
      let line : pipeline_for s n ≡ j.pipeline = ap pipeline_or_none own.1 in
      let one : Has (waits asks.project (pipeline_for s n) group) (waits_for (project_or_none (pipeline_at s j.pipeline)) j.pipeline true j.options.resource_group) =
      subst (λ (o : Option (List ℕ)). Has (waits asks.project (pipeline_for s n) group) (waits_for (project_or_none (pipeline_at s j.pipeline)) j.pipeline true o)) (sym grouped)
      (inl (λ i. waits (sym project i) (line i) group)) in
      flat_has (λ (x : Job). waits_as (queued s x) (status_for board x.id)) (waits asks.project (pipeline_for s n) group) j s.jobs there.0
      (subst (λ (t : Status). Has (waits asks.project (pipeline_for s n) group) (waits_as (queued s j) t)) (sym status) one)

  -- so it goes before those of the pipelines that its own goes before
  pub behind_it : (order : GroupOrder) (m : ℕ) → goes_before order m (waits asks.project (pipeline_for s n) group) ≡ true → is_behind (Some order) (waiting s board) asks.project m group ≡ true
  behind_it order m e =
      let w : WaitingJob = waits asks.project (pipeline_for s n) group in
      has_any (λ (x : WaitingJob). is_in_line asks.project group x && goes_before order m x) w (waiting s board) in_waiting
      (ap (λ b. (b && bytes_eq group group) && goes_before order m w) (eq-eqb asks.project asks.project refl)
      ∙ (ap (λ b. b && goes_before order m w) ((bytes_eq-Decides group group).1 refl) ∙ e))

  -- and it doesn't go before those whose turn it is
  not_before : (order : GroupOrder) (first : ℕ) → IsTurn order (waiting s board) asks.project group (Some first) → goes_before order first (waits asks.project (pipeline_for s n) group) ≡ false
  not_before order first is =
      ⊎_elim
      (λ t. absurd (both_ways (is_past order (Some first) first) (own_turn order first) (sym (is first) ∙ behind_it order first t)))
      (λ f. f)
      (cases_Bool (goes_before order first (waits asks.project (pipeline_for s n) group)))

  -- where it is the turn of a pipeline, it must wait unless it is of that
  pub oldest_waits : (first : ℕ) → IsTurn OldestFirst (waiting s board) asks.project group (Some first) → (first ≤ pipeline_for s n) × (not (is_past OldestFirst (Some first) (pipeline_for s n)) ≡ (pipeline_for s n == first))
  oldest_waits first is =
      let no_older = not_before OldestFirst first is in
      (ltb-false (pipeline_for s n) first no_older, not_less_same (pipeline_for s n) first no_older)

  pub newest_waits : (first : ℕ) → IsTurn NewestReadyFirst (waiting s board) asks.project group (Some first) → not (is_past NewestReadyFirst (Some first) (pipeline_for s n)) ≡ (pipeline_for s n == first)
  newest_waits first is = not_less_same first (pipeline_for s n) (grind (arith, not_before NewestReadyFirst first is)) ∙ grind (arith, nat_tests)

-- ---- the turn

module _ (k : Kept) (kept : IsKept k) (asks : Asks) (group : List ℕ) (its : asks.group ≡ Some group) where
  abbrev behind : ℕ → Bool
  behind n = is_behind (order_of k.state.modes asks.project group) (waiting k.state k.board) asks.project n group

  -- a job need not wait where the group isn't held and none goes before those of its pipeline
  free_by : (held : Option Holder) → held ≡ holder_at asks.project group k.holders → (job : ℕ) → is_free_at k asks job ≡ not (is_some held || behind (pipeline_for k.state job))
  free_by held at job =
      let n : ℕ = pipeline_for k.state job in
      ap (is_free (claims_in k.state k.board n) asks.project) its
      ∙ ap not (any_claim (groups_in k.state k.board) n asks.project group ∙ ap (λ b. b || behind n) (sym (held_by_row k.state k.holders kept.are_indexes.held asks.project group held at)))

  pub held_turn : (held : Option Holder) → held ≡ holder_at asks.project group k.holders → true ≡ is_some held → IsTurnOf k asks Turn.Nobody
  held_turn held at is = λ job. free_by held at job ∙ ap (λ b. not (b || behind (pipeline_for k.state job))) (sym is)

  module _ (held : Option Holder) (at : held ≡ holder_at asks.project group k.holders) (is : false ≡ is_some held) where
    unheld : (job : ℕ) → is_free_at k asks job ≡ not (behind (pipeline_for k.state job))
    unheld job = free_by held at job ∙ ap (λ b. not (b || behind (pipeline_for k.state job))) (sym is)

    -- by what its mode says
    past : (order : GroupOrder) (first : ℕ) → order_of k.state.modes asks.project group ≡ Some order → IsTurn order (waiting k.state k.board) asks.project group (Some first)
        → (job : ℕ) → is_free_at k asks job ≡ not (is_past order (Some first) (pipeline_for k.state job))
    past order first ordered is job =
        unheld job ∙ ap not (ap (λ o. is_behind o (waiting k.state k.board) asks.project (pipeline_for k.state job) group) ordered ∙ is (pipeline_for k.state job))

    pub turn_is : (its_turn : Turn) → GoesFirst k asks.project group its_turn → IsTurnOf k asks its_turn
    turn_is Turn.Anyone none = λ job. unheld job ∙ ap not (none (pipeline_for k.state job))
    turn_is Turn.Nobody goes = absurd goes
    turn_is (Turn.Oldest first) goes = λ job wanted.
        let waits = oldest_waits k.state k.board job asks group its wanted.0 wanted.1 first goes.1 in
        (waits.0, past OldestFirst first goes.0 goes.1 job ∙ waits.1)
    turn_is (Turn.Newest first) goes = λ job wanted.
        past NewestReadyFirst first goes.0 goes.1 job ∙ newest_waits k.state k.board job asks group its wanted.0 wanted.1 first goes.1

module _ (k : Kept) (project : ℕ) (group : List ℕ) where
  order_is : (found : Option GroupMode) → found ≡ mode_at k.state project group → order_of k.state.modes project group ≡ option_map (λ m. m.order) found
  order_is found at = ap (option_map (λ (m : GroupMode). m.order)) (sym at)

  -- none goes before others in a group without a mode
  pub unordered : None ≡ mode_at k.state project group → GoesFirst k project group Turn.Anyone
  unordered at = λ n. ap (λ o. is_behind o (waiting k.state k.board) project n group) (order_is None at) ∙ none_ahead (waiting k.state k.board) project n group

  -- in one with a mode it is as its order tells
  pub ordered : (mode : GroupMode) (first : Option ℕ) → Some mode ≡ mode_at k.state project group → IsTurn mode.order (waiting k.state k.board) project group first
      → GoesFirst k project group (turn_by mode.order first)
  ordered mode first at is = by mode.order first (order_is (Some mode) at) is
    where
      by : (order : GroupOrder) (o : Option ℕ) → order_of k.state.modes project group ≡ Some order → IsTurn order (waiting k.state k.board) project group o → GoesFirst k project group (turn_by order o)
      by order None e its = λ n. ap (λ x. is_behind x (waiting k.state k.board) project n group) e ∙ its n
      by OldestFirst (Some n) e its = (e, its)
      by NewestReadyFirst (Some n) e its = (e, its)
