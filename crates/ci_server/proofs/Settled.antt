-- The one history of each life.
use Rattle.std.proofs.Common.{◌≡◌, ◌⊎◌, inl, inr, ⊎_elim, Bool, true, false, List, [], ◌∷◌, IsTrue, Some, refl, sym, ap, subst, ◌∙◌}
use Rattle.std.proofs.lemmas.Bool.{false≢true}
use Rattle.ci_store.specs.Prelude.{Trees, Ghosts, Held, state}
use Rattle.ci_memory.specs.declared.remembering.Remembering.{Remembering}
use Rattle.ci_machine_steps.specs.Prelude.{Answer, Outcome, LackedMemory, StoreFailed, outcome_of, State, empty, Kept, Past, Leads}
use Rattle.ci_store_sqlite.specs.Prelude.{StandsIn}
use Rattle.ci_server.specs.Prelude.{FailStop, IsKeptOf, HoldsIn, LeavesIn, StandsFor, Call, Handled, answered, no_memory, look_failed, commit_failed, IsHonest, Handles, Opens}
use Rattle.ci_server.specs.Prelude.{FailsToOpen, line, by_outcome, GoesOn, Beginning, was_made, was_found, was_found_shut, earlier_of, Operation, called, opened, unopened}
use Rattle.ci_server.specs.Prelude.{Recovers, Begins, ComesOf, has_failed, is_of_2, first_failed, unanswered, AddsUnanswered, IsFileOf, LeavesOne, LeavesTwo, StandsBy}
use Rattle.ci_server.specs.Prelude.{HasOneHistory}
use Rattle.ci_server.proofs.Keeping.{as_of_2, groups_in, leaves_any, still_stands}
use Rattle.ci_server.proofs.LifetimeLemmas.{stands}
use Rattle.ci_server.proofs.Runs.{AllLaws, AllStep, outcome-M16, outcome-M17}

-- how the history goes on by a call with this outcome
abbrev GoesOnBy : Outcome → List Past → Call → Answer → List Past → Type 0
GoesOnBy o h c a k = by_outcome o ((s : State) × (k ≡ line s c a ∷ h)) (k ≡ h) (k ≡ h)

is_file : (of_2 : Bool) (s : State) (db : Trees) → StandsFor of_2 s db → IsFileOf of_2 s db
is_file of_2 s db stands = (stands, groups_in of_2 s db stands)

-- a file of version 2
is_file_of_2 : (of_2 : Bool) (s : State) (k : Kept) (db : Trees) → IsKeptOf s k → StandsIn k db → IsFileOf of_2 s db
is_file_of_2 of_2 s k db is_of stands = is_file of_2 s db (record { kept = k; is_of = is_of; stands = as_of_2 of_2 k db stands })

module _ {S : Type 0} (g : Ghosts S) (settled : (s : S) (db : Trees) → IsTrue (g.view s).is_open → g.recovers s db → db ≡ (g.view s).committed) (laws : AllLaws) (steps : AllStep) (began : Beginning) where
  -- tables that hold the state
  holding : (ops : List Operation) (server : FailStop (Remembering (Held S))) (h : List Past) (s : State) → Leads h s → HoldsIn g s server.store → StandsBy g began ops server h
  holding ops server h s leads at = record {
    state = s;
    leads = leads;
    laws = laws h s leads;
    held = λ _. at;
    left = inl (λ db may. is_file_of_2 (is_of_2 began ops) s at.kept db at.is_of (at.held.0 db may));
  }

  -- a server that is closed
  shut : (ops : List Operation) (server : FailStop (Remembering (Held S))) (h : List Past) (s : State) → Leads h s → server.closed ≡ true → LeavesOne g (is_of_2 began ops) s server ⊎ LeavesTwo g began ops h s server
      → StandsBy g began ops server h
  shut ops server h s leads is_closed left = record {
    state = s;
    leads = leads;
    laws = laws h s leads;
    held = λ o. absurd (false≢true (sym o ∙ is_closed));
    left = left;
  }

  -- ---- a call

  -- the history after a call, by the one before it
  abbrev Next : List Operation → Call → Answer → List Past → FailStop (Remembering (Held S)) → Type 0
  Next ops c a h new = (k : List Past) × GoesOn h (c ∷ []) (a ∷ []) k × StandsBy g began (called c a ∷ ops) new k

  called_open : (ops : List Operation) (new : FailStop (Remembering (Held S))) (c : Call) (a : Answer) (h : List Past) (s : State) → has_failed began ops ≡ false → Leads h s
      → Handled (λ (x : Remembering (Held S)) t. HoldsIn g t x) (λ (x : Remembering (Held S)) t u. LeavesIn g t u x) c s new.store new.closed a → Next ops c a h new
  called_open ops new c a h s none leads (answered t step held is_open) =
      let is = steps s t c.0 c.1 c.2 a step in
      (line s c a ∷ h, subst (λ o. GoesOnBy o h c a (line s c a ∷ h)) (sym is) (s, refl), holding (called c a ∷ ops) new (line s c a ∷ h) t (leads, step) held)
  called_open ops new c a h s none leads (no_memory refuses held is_open) =
      let is : outcome_of a ≡ LackedMemory = ap outcome_of refuses ∙ outcome-M16 c.0 in
      (h, subst (λ o. GoesOnBy o h c a h) (sym is) refl, holding (called c a ∷ ops) new h s leads held)
  called_open ops new c a h s none leads (look_failed refuses left is_closed) =
      let is : outcome_of a ≡ StoreFailed = ap outcome_of refuses ∙ outcome-M17 c.0 in (
        h,
        subst (λ o. GoesOnBy o h c a h) (sym is) refl,
        shut (called c a ∷ ops) new h s leads is_closed (inl (λ db may.
            ⊎_elim
            (λ x. is_file_of_2 (is_of_2 began ops) s left.before db left.is_before x)
            (λ x. is_file_of_2 (is_of_2 began ops) s left.after db left.is_after x)
            (left.left db may))),
      )
  called_open ops new c a h s none leads (commit_failed b t step refuses left is_closed) =
      let is : outcome_of a ≡ StoreFailed = ap outcome_of refuses ∙ outcome-M17 c.0 in
      let one : unanswered began (called c a ∷ ops) ≡ Some c = λ i. first_failed (none i) (is i) c (unanswered began ops) in
      let more : Leads (line s c b ∷ h) t = (leads, step) in (
        h,
        subst (λ o. GoesOnBy o h c a h) (sym is) refl,
        shut (called c a ∷ ops) new h s leads is_closed (inr (record {
          after = t;
          is_after = record { call = c; before = s; answer = b; is = one; leads = more; laws = laws _ t more };
          each = λ db may. ⊎_elim
              (λ x. inl (is_file_of_2 (is_of_2 began ops) s left.before db left.is_before x))
              (λ x. inr (is_file_of_2 (is_of_2 began ops) t left.after db left.is_after x))
              (left.left db may);
        })),
      )

  -- a closed server refuses the call, and nothing changes
  called_closed : (ops : List Operation) (old new : FailStop (Remembering (Held S))) (c : Call) (a : Answer) (h : List Past) → StandsBy g began ops old h → has_failed began ops ≡ true → outcome_of a ≡ StoreFailed → new ≡ old
      → Next ops c a h new
  called_closed ops old new c a h was failed is same =
      let one : unanswered began (called c a ∷ ops) ≡ unanswered began ops = ap (λ b. first_failed b (outcome_of a) c (unanswered began ops)) failed in
      let now : StandsBy g began (called c a ∷ ops) old h = record {
        state = was.state;
        leads = was.leads;
        laws = was.laws;
        held = was.held;
        left = ⊎_elim (λ l. inl l) (λ l. inr (record {
          after = l.after;
          is_after = record {
            call = l.is_after.call;
            before = l.is_after.before;
            answer = l.is_after.answer;
            is = one ∙ l.is_after.is;
            leads = l.is_after.leads;
            laws = l.is_after.laws;
          };
          each = l.each;
        })) was.left;
      } in
      (h, subst (λ o. GoesOnBy o h c a h) (sym is) refl, subst (λ (o : FailStop (Remembering (Held S))). StandsBy g began (called c a ∷ ops) o h) (sym same) now)

  called_once : (ops : List Operation) (old new : FailStop (Remembering (Held S))) (c : Call) (a : Answer) (h : List Past) (closed : Bool) → old.closed ≡ closed → old.closed ≡ has_failed began ops → StandsBy g began ops old h
      → Handles g old c new a → IsHonest g new.store → Next ops c a h new
  called_once ops old new c a h true is_closed as_failed was one honest =
      let w = one.once_closed is_closed in called_closed ops old new c a h was (sym as_failed ∙ is_closed) (ap outcome_of w.0 ∙ outcome-M17 c.0) w.1
  called_once ops old new c a h false is_open as_failed was one honest =
      called_open ops new c a h was.state (sym as_failed ∙ is_open) was.leads (one.while_open is_open honest was.state (h, was.leads) (was.held is_open))

  -- ---- an opening

  -- the history of what is found in a file that a stop left, by the one before it
  record Found (ops : List Operation) (h : List Past) (db : Trees) : Type 0 where
    history : List Past
    adds : AddsUnanswered began ops h history
    state : State
    leads : Leads history state
    file : IsFileOf (is_of_2 began ops) state db

  found : (ops : List Operation) (old : FailStop (Remembering (Held S))) (h : List Past) → StandsBy g began ops old h → (db : Trees) → (state g old.store.store).may_leave db → Found ops h db
  found ops old h was db may =
      let without : IsFileOf (is_of_2 began ops) was.state db → Found ops h db = λ file. record { history = h; adds = inl refl; state = was.state; leads = was.leads; file = file } in
      ⊎_elim
      (λ one. without (one db may))
      (λ two. ⊎_elim without (λ file. let l = two.is_after in record {
        history = line l.before l.call l.answer ∷ h;
        adds = inr (l.call, l.before, l.answer, l.is, refl);
        state = two.after;
        leads = l.leads;
        file = file;
      }) (two.each db may))
      was.left

  -- the history after an opening
  abbrev After : List Operation → Operation → List Past → FailStop (Remembering (Held S)) → Type 0
  After ops operation h new = (k : List Past) × AddsUnanswered began ops h k × StandsBy g began (operation ∷ ops) new k

  opened_again : (ops : List Operation) (old new : FailStop (Remembering (Held S))) (conn : Held S) (h : List Past) → StandsBy g began ops old h → Recovers g old.store.store conn → Opens g conn new → IsHonest g new.store
      → After ops opened h new
  opened_again ops old new conn h was recovers opens honest =
      let f = found ops old h was (state g conn).committed.trees recovers.left in
      let kept = f.file.0.kept in
      (f.history, f.adds, holding (opened ∷ ops) new f.history f.state f.leads (opens.holds honest f.state kept f.file.0.is_of (leaves_any g settled (is_of_2 began ops) kept conn recovers.is_open f.file.0.stands)))

  not_opened : (ops : List Operation) (old new : FailStop (Remembering (Held S))) (conn : Held S) (h : List Past) → StandsBy g began ops old h → Recovers g old.store.store conn → FailsToOpen g conn new → IsHonest g new.store
      → After ops unopened h new
  not_opened ops old new conn h was recovers fails honest =
      let of_2 = is_of_2 began ops in
      let f = found ops old h was (state g conn).committed.trees recovers.left in
      let kept = f.file.0.kept in (
        f.history,
        f.adds,
        shut (unopened ∷ ops) new f.history f.state f.leads fails.is_closed
            (inl (λ db may. is_file of_2 f.state db (record { kept = kept; is_of = f.file.0.is_of; stands = still_stands g settled of_2 kept conn new recovers.is_open f.file.0.stands fails honest db may }))),
      )

  -- the history of a server that came of these operations
  abbrev Told : List Operation → FailStop (Remembering (Held S)) → Type 0
  Told ops server = (h : List Past) × StandsBy g began ops server h

  after_call : (c : Call) (a : Answer) (before : List Operation) (server : FailStop (Remembering (Held S))) (came : ComesOf g began (called c a ∷ before) server) → IsHonest g server.store → (was : Told before came.0)
      → Next before c a was.0 server
  after_call c a before server came honest was =
      called_once before came.0 server c a was.0 came.0.closed refl (stands g settled laws steps began before came.0 came.1 (came.2.was_honest honest)).1 was.1 came.2 honest

  after_opening : (before : List Operation) (server : FailStop (Remembering (Held S))) (came : ComesOf g began (opened ∷ before) server) → IsHonest g server.store → (was : Told before came.0) → After before opened was.0 server
  after_opening before server came honest was = opened_again before came.0 server came.1 was.0 was.1 came.4 came.5 honest

  after_failure : (before : List Operation) (server : FailStop (Remembering (Held S))) (came : ComesOf g began (unopened ∷ before) server) → IsHonest g server.store → (was : Told before came.0) → After before unopened was.0 server
  after_failure before server came honest was = not_opened before came.0 server came.1 was.0 was.1 came.4 came.5 honest

-- ---- a life

module _ {S : Type 0} (g : Ghosts S) (settled : (s : S) (db : Trees) → IsTrue (g.view s).is_open → g.recovers s db → db ≡ (g.view s).committed) (laws : AllLaws) (steps : AllStep) where
  begins : (began : Beginning) (server : FailStop (Remembering (Held S))) → Begins g began server → IsHonest g server.store → StandsBy g began [] server (earlier_of began)
  begins was_made server new honest = holding g settled laws steps was_made [] server [] empty refl (new.1.holds honest)
  begins (was_found earlier) server new honest =
      let was = new.1 in
      holding g settled laws steps (was_found earlier) [] server earlier was.state was.leads (new.2.holds honest was.state was.kept was.is_of was.left)
  begins (was_found_shut earlier) server new honest =
      let was = new.1 in
      shut g settled laws steps (was_found_shut earlier) [] server earlier was.state was.leads new.2.is_closed
      (inl (λ db may. is_file false was.state db (record { kept = was.kept; is_of = was.is_of; stands = new.2.left honest was.kept was.left db may })))

  settle : (began : Beginning) (ops : List Operation) (server : FailStop (Remembering (Held S))) → ComesOf g began ops server → IsHonest g server.store → Told g settled laws steps began ops server
  settle began [] server came honest = (earlier_of began, begins began server came honest)
  settle began (called c a ∷ before) server came honest =
      let n = after_call g settled laws steps began c a before server came honest (settle began before came.0 came.1 (came.2.was_honest honest)) in (n.0, n.2)
  settle began (opened ∷ before) server came honest = let n = after_opening g settled laws steps began before server came honest (settle began before came.0 came.2 came.3) in (n.0, n.2)
  settle began (unopened ∷ before) server came honest = let n = after_failure g settled laws steps began before server came honest (settle began before came.0 came.2 came.3) in (n.0, n.2)

  pub one_history : HasOneHistory g
  unfolding settle
  one_history = (
    λ began ops server came honest. (settle began ops server came honest).0,
    record {
      new = λ began server came honest. refl;
      call = λ began c a before server came honest. (after_call g settled laws steps began c a before server came honest (settle began before came.0 came.1 (came.2.was_honest honest))).1;
      opening = λ began before server came honest. (after_opening g settled laws steps began before server came honest (settle began before came.0 came.2 came.3)).1;
      failed_opening = λ began before server came honest. (after_failure g settled laws steps began before server came honest (settle began before came.0 came.2 came.3)).1;
      stands = λ began ops server came honest. (settle began ops server came honest).1;
    },
  )
