-- What stands of each server, by the operations that it came of.
use Rattle.std.proofs.Common.{◌≡◌, ◌⊎◌, inl, inr, ⊎_elim, Bool, true, false, List, [], ◌∷◌, IsTrue, refl, sym, ap, subst, ◌∙◌}
use Rattle.std.proofs.lemmas.Bool.{false≢true}
use Rattle.ci_store.specs.Prelude.{Trees, Ghosts, Held, state}
use Rattle.ci_memory.specs.declared.remembering.Remembering.{Remembering}
use Rattle.ci_machine_steps.specs.Prelude.{Answer, Outcome, LackedMemory, StoreFailed, outcome_of, State, empty, Past, Leads}
use Rattle.ci_server.specs.Prelude.{HoldsIn, LeavesIn, StandsFor, FailStop, Call, Handled, closed_by, answered, no_memory, look_failed, commit_failed, IsHonest, Handles}
use Rattle.ci_server.specs.Prelude.{HandlesEach, Opens, FailsToOpen, line, by_outcome, Beginning, was_made, was_found, was_found_shut, Operation, called, opened, unopened}
use Rattle.ci_server.specs.Prelude.{Recovers, Begins, ComesOf, called_each, has_failed, is_of_2, HasNewest, IsHistoryOf, IsReachedBy, LosesNoStep, KeepsItsGroups}
use Rattle.ci_server.proofs.Keeping.{as_of_2, groups_in, leaves_any, still_stands}
use Rattle.ci_server.proofs.Runs.{AllLaws, AllStep, outcome-M16, outcome-M17}

-- what a call with this outcome adds
abbrev IsHistoryBy : Beginning → Outcome → List Operation → Call → Answer → List Past → Type 0
IsHistoryBy began o ops c a h =
    by_outcome o (HasNewest (λ g. IsHistoryOf began ops g) c a h) (IsHistoryOf began ops h)
    (IsHistoryOf began ops h ⊎ ((has_failed began ops ≡ false) × (answer : Answer) × HasNewest (λ g. IsHistoryOf began ops g) c answer h))

-- ---- the history of the operations and one call more

-- the call lacked memory
without_memory : (began : Beginning) (ops : List Operation) (c : Call) (a : Answer) (s : State) → outcome_of a ≡ LackedMemory → IsReachedBy began ops s → IsReachedBy began (called c a ∷ ops) s
without_memory began ops c a s is k = record { history = k.history; is_history = subst (λ o. IsHistoryBy began o ops c a k.history) (sym is) k.is_history; leads = k.leads; laws = k.laws }

-- the store failed, and the call left no line
without_line : (began : Beginning) (ops : List Operation) (c : Call) (a : Answer) (s : State) → outcome_of a ≡ StoreFailed → IsReachedBy began ops s → IsReachedBy began (called c a ∷ ops) s
without_line began ops c a s is k = record { history = k.history; is_history = subst (λ o. IsHistoryBy began o ops c a k.history) (sym is) (inl k.is_history); leads = k.leads; laws = k.laws }

newest : (began : Beginning) (ops : List Operation) (c : Call) (a : Answer) (s : State) → (k : IsReachedBy began ops s) → HasNewest (λ g. IsHistoryOf began ops g) c a (line s c a ∷ k.history)
newest began ops c a s k = record { before = s; earlier = k.history; newest = refl; rest = k.is_history }

module _ {S : Type 0} (g : Ghosts S) (settled : (s : S) (db : Trees) → IsTrue (g.view s).is_open → g.recovers s db → db ≡ (g.view s).committed) (laws : AllLaws) (steps : AllStep) (began : Beginning) where
  -- what stands of a server, and whether it is closed
  abbrev Stands : List Operation → FailStop (Remembering (Held S)) → Type 0
  Stands ops server = LosesNoStep g began ops server × (server.closed ≡ has_failed began ops)

  -- a server whose tables hold a state that the operations reach
  holding : (ops : List Operation) (server : FailStop (Remembering (Held S))) (s : State) → IsReachedBy began ops s → HoldsIn g s server.store → server.closed ≡ has_failed began ops → Stands ops server
  holding ops server s reached at closed =
      (record { held = λ _. (s, reached, at); left = λ db may. (s, reached, record { kept = at.kept; is_of = at.is_of; stands = as_of_2 (is_of_2 began ops) at.kept db (at.held.0 db may) }) }, closed)

  -- a server that is closed after a call in which the store failed, or which it refused
  failed : (ops : List Operation) (new : FailStop (Remembering (Held S))) (c : Call) (a : Answer) → outcome_of a ≡ StoreFailed → new.closed ≡ true
      → ((db : Trees) → (state g new.store.store).may_leave db → (s : State) × IsReachedBy began (called c a ∷ ops) s × StandsFor (is_of_2 began ops) s db) → Stands (called c a ∷ ops) new
  failed ops new c a is is_closed left =
      (record { held = λ o. absurd (false≢true (sym o ∙ is_closed)); left = left }, is_closed ∙ sym (ap (λ w. closed_by w (has_failed began ops)) is))

  -- an open server that the call leaves open
  still_open : (ops : List Operation) (c : Call) (a : Answer) (o : Outcome) (closed : Bool) → outcome_of a ≡ o → closed_by o (has_failed began ops) ≡ has_failed began ops → has_failed began ops ≡ false
      → closed ≡ false → closed ≡ has_failed began (called c a ∷ ops)
  still_open ops c a o closed is same none is_open = is_open ∙ sym (ap (λ w. closed_by w (has_failed began ops)) is ∙ same ∙ none)

  called_open : (ops : List Operation) (new : FailStop (Remembering (Held S))) (c : Call) (a : Answer) (s : State) → has_failed began ops ≡ false → IsReachedBy began ops s
      → Handled (λ (h : Remembering (Held S)) t. HoldsIn g t h) (λ (h : Remembering (Held S)) t u. LeavesIn g t u h) c s new.store new.closed a → Stands (called c a ∷ ops) new
  called_open ops new c a s none k (answered t step held is_open) =
      let is = steps s t c.0 c.1 c.2 a step in
      let leads : Leads (line s c a ∷ k.history) t = (k.leads, step) in
      let now : IsReachedBy began (called c a ∷ ops) t = record { history = line s c a ∷ k.history; is_history = subst (λ o. IsHistoryBy began o ops c a (line s c a ∷ k.history)) (sym is) (newest began ops c a s k); leads = leads; laws = laws _ t leads } in
      holding (called c a ∷ ops) new t now held (still_open ops c a _ new.closed is refl none is_open)
  called_open ops new c a s none k (no_memory refuses held is_open) =
      let is : outcome_of a ≡ LackedMemory = ap outcome_of refuses ∙ outcome-M16 c.0 in
      holding (called c a ∷ ops) new s (without_memory began ops c a s is k) held (still_open ops c a LackedMemory new.closed is refl none is_open)
  called_open ops new c a s none k (look_failed refuses left is_closed) =
      let is : outcome_of a ≡ StoreFailed = ap outcome_of refuses ∙ outcome-M17 c.0 in
      let now = without_line began ops c a s is k in
      failed ops new c a is is_closed (λ db may. (
        s,
        now,
        ⊎_elim
            (λ x. record { kept = left.before; is_of = left.is_before; stands = as_of_2 (is_of_2 began ops) left.before db x })
            (λ x. record { kept = left.after; is_of = left.is_after; stands = as_of_2 (is_of_2 began ops) left.after db x })
            (left.left db may),
      ))
  called_open ops new c a s none k (commit_failed b t step refuses left is_closed) =
      let is : outcome_of a ≡ StoreFailed = ap outcome_of refuses ∙ outcome-M17 c.0 in
      let leads : Leads (line s c b ∷ k.history) t = (k.leads, step) in
      let without = without_line began ops c a s is k in
      let with_line : IsReachedBy began (called c a ∷ ops) t = record { history = line s c b ∷ k.history; is_history = subst (λ o. IsHistoryBy began o ops c a (line s c b ∷ k.history)) (sym is) (inr (none, b, newest began ops c b s k)); leads = leads; laws = laws _ t leads } in
      failed ops new c a is is_closed (λ db may. ⊎_elim
      (λ x. (s, without, record { kept = left.before; is_of = left.is_before; stands = as_of_2 (is_of_2 began ops) left.before db x }))
      (λ x. (t, with_line, record { kept = left.after; is_of = left.is_after; stands = as_of_2 (is_of_2 began ops) left.after db x }))
      (left.left db may))

  called_closed : (ops : List Operation) (old new : FailStop (Remembering (Held S))) (c : Call) (a : Answer) → Stands ops old → old.closed ≡ true → outcome_of a ≡ StoreFailed → new ≡ old
      → Stands (called c a ∷ ops) new
  called_closed ops old new c a earlier shut is same = failed ops new c a is (ap (λ (o : FailStop (Remembering (Held S))). o.closed) same ∙ shut) (λ db may.
      let was = earlier.0.left db (subst (λ (o : FailStop (Remembering (Held S))). (state g o.store.store).may_leave db) same may) in
      (was.0, without_line began ops c a was.0 is was.1, was.2))

  called_once : (ops : List Operation) (old new : FailStop (Remembering (Held S))) (c : Call) (a : Answer) (closed : Bool) → old.closed ≡ closed → Stands ops old → Handles g old c new a → IsHonest g new.store
      → Stands (called c a ∷ ops) new
  called_once ops old new c a true shut earlier one honest =
      let w = one.once_closed shut in called_closed ops old new c a earlier shut (ap outcome_of w.0 ∙ outcome-M17 c.0) w.1
  called_once ops old new c a false was_open earlier one honest =
      let at = earlier.0.held was_open in
      called_open ops new c a at.0 (sym earlier.1 ∙ was_open) at.1 (one.while_open was_open honest at.0 (at.1.history, at.1.leads) at.2)

  opened_again : (ops : List Operation) (old new : FailStop (Remembering (Held S))) (conn : Held S) → Stands ops old → Recovers g old.store.store conn → Opens g conn new → IsHonest g new.store
      → Stands (opened ∷ ops) new
  opened_again ops old new conn earlier recovers opens honest =
      let was = earlier.0.left (state g conn).committed.trees recovers.left in
      let kept = was.2.kept in
      let now : IsReachedBy began (opened ∷ ops) was.0 = record { history = was.1.history; is_history = was.1.is_history; leads = was.1.leads; laws = was.1.laws } in
      holding (opened ∷ ops) new was.0 now (opens.holds honest was.0 kept was.2.is_of (leaves_any g settled (is_of_2 began ops) kept conn recovers.is_open was.2.stands)) opens.is_open

  -- what an opening leaves that failed
  not_opened : (ops : List Operation) (old new : FailStop (Remembering (Held S))) (conn : Held S) → Stands ops old → Recovers g old.store.store conn → FailsToOpen g conn new → IsHonest g new.store
      → Stands (unopened ∷ ops) new
  not_opened ops old new conn earlier recovers fails honest =
      let was = earlier.0.left (state g conn).committed.trees recovers.left in
      let kept = was.2.kept in
      let now : IsReachedBy began (unopened ∷ ops) was.0 = record { history = was.1.history; is_history = was.1.is_history; leads = was.1.leads; laws = was.1.laws } in (
        record {
          held = λ o. absurd (false≢true (sym o ∙ fails.is_closed));
          left = λ db may. (was.0, now, record { kept = kept; is_of = was.2.is_of; stands = still_stands g settled (is_of_2 began ops) kept conn new recovers.is_open was.2.stands fails honest db may });
        },
        fails.is_closed,
      )

  -- where no step is lost, no group is
  pub keeps_groups : (ops : List Operation) (server : FailStop (Remembering (Held S))) → LosesNoStep g began ops server → KeepsItsGroups g began ops server
  keeps_groups ops server kept = λ db may. let was = kept.left db may in (was.0, was.1, was.2, groups_in (is_of_2 began ops) was.0 db was.2)

  -- calls one after the other are operations one after the other
  pub comes_of_each : (ops : List Operation) (old new : FailStop (Remembering (Held S))) (cs : List Call) (rs : List Answer) → ComesOf g began ops old → HandlesEach g old cs rs new
      → ComesOf g began (called_each cs rs ops) new
  comes_of_each ops old new [] [] came same = subst (λ (o : FailStop (Remembering (Held S))). ComesOf g began ops o) (sym same) came
  comes_of_each ops old new [] (a ∷ rs) came each = absurd each
  comes_of_each ops old new (c ∷ cs) [] came each = absurd each
  comes_of_each ops old new (c ∷ cs) (a ∷ rs) came each = comes_of_each (called c a ∷ ops) each.0 new cs rs (old, came, each.1) each.2

module _ {S : Type 0} (g : Ghosts S) (settled : (s : S) (db : Trees) → IsTrue (g.view s).is_open → g.recovers s db → db ≡ (g.view s).committed) (laws : AllLaws) (steps : AllStep) where
  -- a new server, and one whose first opening failed
  begins : (began : Beginning) (server : FailStop (Remembering (Held S))) → Begins g began server → IsHonest g server.store → Stands g settled laws steps began [] server
  begins was_made server new honest =
      let now : IsReachedBy was_made [] empty = record { history = []; is_history = refl; leads = refl; laws = laws [] empty refl } in
      holding g settled laws steps was_made [] server empty now (new.1.holds honest) new.1.is_open
  begins (was_found earlier) server new honest =
      let was = new.1 in
      let now : IsReachedBy (was_found earlier) [] was.state = record { history = earlier; is_history = refl; leads = was.leads; laws = laws earlier was.state was.leads } in
      holding g settled laws steps (was_found earlier) [] server was.state now (new.2.holds honest was.state was.kept was.is_of was.left) new.2.is_open
  begins (was_found_shut earlier) server new honest =
      let was = new.1 in
      let now : IsReachedBy (was_found_shut earlier) [] was.state = record { history = earlier; is_history = refl; leads = was.leads; laws = laws earlier was.state was.leads } in (
        record {
          held = λ o. absurd (false≢true (sym o ∙ new.2.is_closed));
          left = λ db may. (was.state, now, record { kept = was.kept; is_of = was.is_of; stands = new.2.left honest was.kept was.left db may });
        },
        new.2.is_closed,
      )

  pub stands : (began : Beginning) (ops : List Operation) (server : FailStop (Remembering (Held S))) → ComesOf g began ops server → IsHonest g server.store → Stands g settled laws steps began ops server
  stands began [] server came honest = begins began server came honest
  stands began (called c a ∷ before) server came honest =
      called_once g settled laws steps began before came.0 server c a came.0.closed refl (stands began before came.0 came.1 (came.2.was_honest honest)) came.2 honest
  stands began (opened ∷ before) server came honest =
      opened_again g settled laws steps began before came.0 server came.1 (stands began before came.0 came.2 came.3) came.4 came.5 honest
  stands began (unopened ∷ before) server came honest =
      not_opened g settled laws steps began before came.0 server came.1 (stands began before came.0 came.2 came.3) came.4 came.5 honest
