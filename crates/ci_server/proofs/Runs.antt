-- A run goes on by one call.
use Rattle.std.proofs.Common.{Result, Ok, Err, IfOk, ◌≡◌, ◌⊎◌, inl, inr, ⊎_elim, ℕ, Bool, true, false, List, [], ◌∷◌, ◌++◌, refl, sym, ap, subst, subst₂, append_assoc, append-nil}
use Rattle.std.proofs.Common.{◌∙◌}
use Rattle.std.proofs.lemmas.Bool.{false≢true}
use Rattle.ci_machine_steps.specs.Prelude.{Answer, Event, Seed, M16, M17, Outcome, Stepped, LackedMemory, StoreFailed, outcome_of, State, Step, Past, Leads, IsReached, Laws}
use Rattle.ci_server.specs.Prelude.{Call, refused, Handled, answered, no_memory, look_failed, commit_failed, HoldsIn, LeavesIn, FailStop, IsHonest, HandlesBy, HandlesEachBy}
use Rattle.ci_server.specs.Prelude.{Handles, HandlesEach, closed_by_each, each_refused, line, by_outcome, GoesOn, NoneFailed, IsUnanswered, OneMore, IsRun, Runs}
use Rattle.ci_store.specs.Prelude.{Ghosts, Held}
use Rattle.ci_memory.specs.declared.remembering.Remembering.{Remembering}

-- the laws of each reached state, and that the machine answers with a step
abbrev pub AllLaws : Type 0
AllLaws = (h : List Past) (s : State) → Leads h s → Laws h s

abbrev pub AllStep : Type 0
AllStep = (s t : State) (e : Event) (now : ℕ) (seed : Seed) (a : Answer) → Step s e now seed a t → outcome_of a ≡ Stepped

-- the outcomes of the answers that refuse an event
pub outcome-M16 : (e : Event) → outcome_of (refused e M16) ≡ LackedMemory
outcome-M16 (Event.Request request) = refl
outcome-M16 Event.Sweep = refl

pub outcome-M17 : (e : Event) → outcome_of (refused e M17) ≡ StoreFailed
outcome-M17 (Event.Request request) = refl
outcome-M17 Event.Sweep = refl

-- ---- one call more, in each of the relations

-- by the outcome of the first answer, a fact of the lists that go on
both : (o : Outcome) {A B C A' B' C' : Type 0} → (A → A') → (B → B') → (C → C') → by_outcome o A B C → by_outcome o A' B' C'
both Stepped f g k x = f x
both LackedMemory f g k x = g x
both StoreFailed f g k x = k x

more_stepped : (h g : List Past) (cs : List Call) (rs : List Answer) (s : State) (c : Call) (a : Answer) → outcome_of a ≡ Stepped → GoesOn h cs rs g
    → GoesOn h (cs ++ c ∷ []) (rs ++ a ∷ []) (line s c a ∷ g)
more_stepped h g [] [] s c a o r =
    subst (λ w. by_outcome w ((m : State) × GoesOn (line m c a ∷ h) [] [] (line s c a ∷ g)) (GoesOn h [] [] (line s c a ∷ g)) (GoesOn h [] [] (line s c a ∷ g))) (sym o) (s, ap (λ w. line s c a ∷ w) r)
more_stepped h g [] (b ∷ rs) s c a o r = absurd r
more_stepped h g (d ∷ cs) [] s c a o r = absurd r
more_stepped h g (d ∷ cs) (b ∷ rs) s c a o r =
    both (outcome_of b) (λ w. (w.0, more_stepped (line w.0 d b ∷ h) g cs rs s c a o w.1)) (more_stepped h g cs rs s c a o) (more_stepped h g cs rs s c a o) r

-- a call that was no step adds no line
abbrev IsNoStep : Outcome → Type 0
IsNoStep o = (o ≡ LackedMemory) ⊎ (o ≡ StoreFailed)

no_line : (o : Outcome) (A B : Type 0) → IsNoStep o → B → by_outcome o A B B
no_line o A B n x = ⊎_elim (λ e. subst (λ w. by_outcome w A B B) (sym e) x) (λ e. subst (λ w. by_outcome w A B B) (sym e) x) n

more_unstepped : (h g : List Past) (cs : List Call) (rs : List Answer) (c : Call) (a : Answer) → IsNoStep (outcome_of a) → GoesOn h cs rs g
    → GoesOn h (cs ++ c ∷ []) (rs ++ a ∷ []) g
more_unstepped h g [] [] c a o r = no_line (outcome_of a) ((m : State) × GoesOn (line m c a ∷ h) [] [] g) (GoesOn h [] [] g) o r
more_unstepped h g [] (b ∷ rs) c a o r = absurd r
more_unstepped h g (d ∷ cs) [] c a o r = absurd r
more_unstepped h g (d ∷ cs) (b ∷ rs) c a o r =
    both (outcome_of b) (λ w. (w.0, more_unstepped (line w.0 d b ∷ h) g cs rs c a o w.1)) (more_unstepped h g cs rs c a o) (more_unstepped h g cs rs c a o) r

-- as many answers as calls
abbrev SameLength : List Call → List Answer → Type 0
SameLength [] [] = Unit {0}
SameLength [] (a ∷ rs) = ⊥
SameLength (c ∷ cs) [] = ⊥
SameLength (c ∷ cs) (a ∷ rs) = SameLength cs rs

any : (o : Outcome) {A B C X : Type 0} → (A → X) → (B → X) → (C → X) → by_outcome o A B C → X
any Stepped f g k x = f x
any LackedMemory f g k x = g x
any StoreFailed f g k x = k x

same_length : (h g : List Past) (cs : List Call) (rs : List Answer) → GoesOn h cs rs g → SameLength cs rs
same_length h g [] [] r = tt
same_length h g [] (a ∷ rs) r = absurd r
same_length h g (c ∷ cs) [] r = absurd r
same_length h g (c ∷ cs) (a ∷ rs) r = any (outcome_of a) (λ w. same_length (line w.0 c a ∷ h) g cs rs w.1) (same_length h g cs rs) (same_length h g cs rs) r

none_more : (rs : List Answer) (a : Answer) → (outcome_of a ≡ Stepped) ⊎ (outcome_of a ≡ LackedMemory) → NoneFailed rs → NoneFailed (rs ++ a ∷ [])
none_more [] a o r = ⊎_elim (λ e. subst (λ w. by_outcome w (Unit {0}) (Unit {0}) ⊥) (sym e) tt) (λ e. subst (λ w. by_outcome w (Unit {0}) (Unit {0}) ⊥) (sym e) tt) o
none_more (b ∷ rs) a o r = both (outcome_of b) (none_more rs a o) (none_more rs a o) (λ x. x) r

-- the first that failed stays the first
still_first : (p : Past) (cs : List Call) (rs : List Answer) (c : Call) (a : Answer) → IsUnanswered p cs rs → IsUnanswered p (cs ++ c ∷ []) (rs ++ a ∷ [])
still_first p [] rs c a r = absurd r
still_first p (d ∷ cs) [] c a r = absurd r
still_first p (d ∷ cs) (b ∷ rs) c a r = both (outcome_of b) (still_first p cs rs c a) (still_first p cs rs c a) (λ x. x) r

-- where none had failed, the one that fails now is the first
abbrev IsOf : Past → Call → Type 0
IsOf p c = (p.event ≡ c.0) × (p.now ≡ c.1) × (p.seed ≡ c.2)

now_first : (p : Past) (cs : List Call) (rs : List Answer) (c : Call) (a : Answer) → SameLength cs rs → NoneFailed rs → outcome_of a ≡ StoreFailed → IsOf p c
    → IsUnanswered p (cs ++ c ∷ []) (rs ++ a ∷ [])
now_first p [] [] c a l n o same = subst (λ w. by_outcome w ⊥ ⊥ (IsOf p c)) (sym o) same
now_first p [] (b ∷ rs) c a l n o same = absurd l
now_first p (d ∷ cs) [] c a l n o same = absurd l
now_first p (d ∷ cs) (b ∷ rs) c a l n o same =
    both (outcome_of b) (λ m. now_first p cs rs c a l m o same) (λ m. now_first p cs rs c a l m o same) (λ x. absurd x) n

-- ---- the run

module _ {T : Type 0} (holds : T → State → Type 0) (leaves : T → State → State → Type 0) (laws : AllLaws) (steps : AllStep) where
  pub run_none : (h : List Past) (s : State) (new : T) (closed : Bool) → Leads h s → holds new s → leaves new s s → IsRun holds leaves h [] [] new closed
  run_none h s new closed l held left = record {
    history = h;
    state = s;
    goes_on = refl;
    leads = l;
    laws = laws h s l;
    is_open = λ _. (tt, held);
    is_closed = λ _. inl left;
  }

  -- a call that was no step leaves the history as it is
  unstepped : (h : List Past) (cs : List Call) (rs : List Answer) (mid new : T) (was closed : Bool) (c : Call) (a : Answer) → (r : IsRun holds leaves h cs rs mid was) → IsNoStep (outcome_of a)
      → (closed ≡ false → NoneFailed (rs ++ a ∷ []) × holds new r.state)
      → (closed ≡ true → leaves new r.state r.state ⊎ OneMore leaves r.history r.state (cs ++ c ∷ []) (rs ++ a ∷ []) new)
      → IsRun holds leaves h (cs ++ c ∷ []) (rs ++ a ∷ []) new closed
  unstepped h cs rs mid new was closed c a r o is_open is_closed = record {
    history = r.history;
    state = r.state;
    goes_on = more_unstepped h r.history cs rs c a o r.goes_on;
    leads = r.leads;
    laws = r.laws;
    is_open = is_open;
    is_closed = is_closed;
  }

  opened : (h : List Past) (cs : List Call) (rs : List Answer) (mid new : T) (was closed : Bool) (c : Call) (a : Answer) → (r : IsRun holds leaves h cs rs mid was) → NoneFailed rs
      → Handled holds leaves c r.state new closed a → IsRun holds leaves h (cs ++ c ∷ []) (rs ++ a ∷ []) new closed
  opened h cs rs mid new was closed c a r none (answered t step held is_open) =
      let o = steps r.state t c.0 c.1 c.2 a step in
      let here : Leads (line r.state c a ∷ r.history) t = (r.leads, step) in
      record {
        history = line r.state c a ∷ r.history;
        state = t;
        goes_on = more_stepped h r.history cs rs r.state c a o r.goes_on;
        leads = here;
        laws = laws _ t here;
        is_open = λ _. (none_more rs a (inl o) none, held);
        is_closed = λ k. absurd (false≢true (sym is_open ∙ k));
      }
  opened h cs rs mid new was closed c a r none (no_memory is held is_open) =
      let o : outcome_of a ≡ LackedMemory = ap outcome_of is ∙ outcome-M16 c.0 in
      unstepped h cs rs mid new was closed c a r (inl o) (λ _. (none_more rs a (inr o) none, held)) (λ k. absurd (false≢true (sym is_open ∙ k)))
  opened h cs rs mid new was closed c a r none (look_failed is left is_closed) =
      unstepped h cs rs mid new was closed c a r (inr (ap outcome_of is ∙ outcome-M17 c.0)) (λ k. absurd (false≢true (sym k ∙ is_closed))) (λ _. inl left)
  opened h cs rs mid new was closed c a r none (commit_failed b t step is left is_closed) =
      let o : outcome_of a ≡ StoreFailed = ap outcome_of is ∙ outcome-M17 c.0 in
      let last = line r.state c b in
      let here : Leads (last ∷ r.history) t = (r.leads, step) in
      unstepped h cs rs mid new was closed c a r (inr o) (λ k. absurd (false≢true (sym k ∙ is_closed))) (λ _. inr (record {
        last = last;
        unanswered = now_first last cs rs c a (same_length h r.history cs rs r.goes_on) none o (refl, refl, refl);
        after = t;
        leads = here;
        laws = laws _ t here;
        leaves_either = left;
      }))

  -- a closed server refuses
  after_fault : (h : List Past) (cs : List Call) (rs : List Answer) (mid new : T) (closed : Bool) (c : Call) (a : Answer) → (r : IsRun holds leaves h cs rs mid true)
      → outcome_of a ≡ StoreFailed → closed ≡ true → new ≡ mid → IsRun holds leaves h (cs ++ c ∷ []) (rs ++ a ∷ []) new closed
  after_fault h cs rs mid new closed c a r o is same =
      unstepped h cs rs mid new true closed c a r (inr o) (λ k. absurd (false≢true (sym k ∙ is))) (λ _. ⊎_elim
      (λ l. inl (subst (λ n. leaves n r.state r.state) (sym same) l))
      (λ m. inr (record {
        last = m.last;
        unanswered = still_first m.last cs rs c a m.unanswered;
        after = m.after;
        leads = m.leads;
        laws = m.laws;
        leaves_either = subst (λ n. leaves n r.state m.after) (sym same) m.leaves_either;
      }))
      (r.is_closed refl))

  pub run_more : (h : List Past) (cs : List Call) (rs : List Answer) (mid new : T) (was closed : Bool) (c : Call) (a : Answer) → IsRun holds leaves h cs rs mid was
      → (was ≡ false → (s : State) → IsReached s → holds mid s → Handled holds leaves c s new closed a)
      → (was ≡ true → (outcome_of a ≡ StoreFailed) × (closed ≡ true) × (new ≡ mid))
      → IsRun holds leaves h (cs ++ c ∷ []) (rs ++ a ∷ []) new closed
  run_more h cs rs mid new true closed c a r open_call closed_call =
      let w = closed_call refl in after_fault h cs rs mid new closed c a r w.0 w.1 w.2
  run_more h cs rs mid new false closed c a r open_call closed_call =
      let w = r.is_open refl in opened h cs rs mid new false closed c a r w.0 (open_call refl r.state (r.history, r.leads) w.1)

-- ---- calls one after the other

module _ {T : Type 0} (honest : T → Type 0) (holds : T → State → Type 0) (leaves : T → State → State → Type 0) where
  pub each_more : (old mid new : FailStop T) (cs : List Call) (rs : List Answer) (c : Call) (a : Answer) → HandlesEachBy honest holds leaves old cs rs mid
      → HandlesBy honest holds leaves mid c new a → HandlesEachBy honest holds leaves old (cs ++ c ∷ []) (rs ++ a ∷ []) new
  each_more old mid new [] [] c a same one = (new, subst (λ (o : FailStop T). HandlesBy honest holds leaves o c new a) same one, refl)
  each_more old mid new [] (b ∷ rs) c a each one = absurd each
  each_more old mid new (d ∷ cs) [] c a each one = absurd each
  each_more old mid new (d ∷ cs) (b ∷ rs) c a each one = (each.0, each.1, each_more each.0 mid new cs rs c a each.2 one)

  pub was_honest : (old new : FailStop T) (cs : List Call) (rs : List Answer) → HandlesEachBy honest holds leaves old cs rs new → honest new.store → honest old.store
  was_honest old new [] [] same h = subst (λ (o : FailStop T). honest o.store) same h
  was_honest old new [] (b ∷ rs) each h = absurd each
  was_honest old new (d ∷ cs) [] each h = absurd each
  was_honest old new (d ∷ cs) (b ∷ rs) each h = each.1.was_honest (was_honest each.0 new cs rs each.2 h)

  -- what a call answers on a closed server
  pub once_closed : (c : Call) (a : Answer) (old new : FailStop T) → HandlesBy honest holds leaves old c new a → old.closed ≡ true
      → (outcome_of a ≡ StoreFailed) × (new.closed ≡ true) × (new.store ≡ old.store)
  once_closed c a old new one shut =
      let w = one.once_closed shut in (ap outcome_of w.0 ∙ outcome-M17 c.0, ap (λ (o : FailStop T). o.closed) w.1 ∙ shut, ap (λ (o : FailStop T). o.store) w.1)

  pub runs : AllLaws → AllStep → (h : List Past) (before : List Call) (earlier : List Answer) (old new : FailStop T) (cs : List Call) (rs : List Answer)
      → IsRun holds leaves h before earlier old.store old.closed → HandlesEachBy honest holds leaves old cs rs new → honest new.store
      → IsRun holds leaves h (before ++ cs) (earlier ++ rs) new.store new.closed
  runs laws steps h before earlier old new [] [] r same ok =
      subst₂ (λ (xs : List Call) (ys : List Answer). IsRun holds leaves h xs ys new.store new.closed) (sym (append-nil before)) (sym (append-nil earlier))
      (subst (λ (o : FailStop T). IsRun holds leaves h before earlier o.store o.closed) (sym same) r)
  runs laws steps h before earlier old new [] (a ∷ rs) r each ok = absurd each
  runs laws steps h before earlier old new (c ∷ cs) [] r each ok = absurd each
  runs laws steps h before earlier old new (c ∷ cs) (a ∷ rs) r each ok =
      let mid = each.0 in
      let there = was_honest mid new cs rs each.2 ok in
      let more = run_more holds leaves laws steps h before earlier old.store mid.store old.closed mid.closed c a r
      (λ was_open s reached held. each.1.while_open was_open there s reached held) (once_closed c a old mid each.1) in
      subst₂ (λ (xs : List Call) (ys : List Answer). IsRun holds leaves h xs ys new.store new.closed) (append_assoc before (c ∷ []) cs) (append_assoc earlier (a ∷ []) rs)
      (runs laws steps h (before ++ c ∷ []) (earlier ++ a ∷ []) mid new cs rs more each.2 ok)

  pub run_from : AllLaws → AllStep → (h : List Past) (s : State) (old new : FailStop T) (cs : List Call) (rs : List Answer) → leaves old.store s s → Leads h s → holds old.store s
      → HandlesEachBy honest holds leaves old cs rs new → honest new.store → IsRun holds leaves h cs rs new.store new.closed
  run_from laws steps h s old new cs rs left leads held each ok =
      runs laws steps h [] [] old new cs rs (run_none holds leaves laws steps h s old.store old.closed leads held left) each ok

  -- ---- whether the server is closed

  pub closes_each : (old new : FailStop T) (cs : List Call) (rs : List Answer) → HandlesEachBy honest holds leaves old cs rs new → new.closed ≡ closed_by_each rs old.closed
  closes_each old new [] [] same = ap (λ (o : FailStop T). o.closed) same
  closes_each old new [] (a ∷ rs) each = absurd each
  closes_each old new (c ∷ cs) [] each = absurd each
  closes_each old new (c ∷ cs) (a ∷ rs) each = closes_each each.0 new cs rs each.2 ∙ ap (closed_by_each rs) each.1.closes

  pub refuses_each : (old new : FailStop T) (cs : List Call) (rs : List Answer) → HandlesEachBy honest holds leaves old cs rs new → old.closed ≡ true
      → (rs ≡ each_refused cs) × (new ≡ old)
  refuses_each old new [] [] same shut = (refl, same)
  refuses_each old new [] (a ∷ rs) each shut = absurd each
  refuses_each old new (c ∷ cs) [] each shut = absurd each
  refuses_each old new (c ∷ cs) (a ∷ rs) each shut =
      let one = each.1.once_closed shut in
      let more = refuses_each each.0 new cs rs each.2 (ap (λ (o : FailStop T). o.closed) one.1 ∙ shut) in
      (ap (λ (w : Answer). w ∷ rs) one.0 ∙ ap (λ (ws : List Answer). refused c.0 M17 ∷ ws) more.0, more.1 ∙ one.1)

-- ---- over tables

pub run_of_each : {S : Type 0} (g : Ghosts S) → AllLaws → AllStep → (old new : FailStop (Remembering (Held S))) (cs : List Call) (rs : List Answer) → HandlesEach g old cs rs new
    → Runs g old cs rs new
run_of_each {S = S} g laws steps old new cs rs each = λ honest h s leads at.
    run_from (IsHonest g) (λ (t : Remembering (Held S)) u. HoldsIn g u t) (λ (t : Remembering (Held S)) u v. LeavesIn g u v t) laws steps h s old new cs rs
    (record { before = at.kept; after = at.kept; is_before = at.is_of; is_after = at.is_of; left = λ db may. inl (at.held.0 db may) })
    leads at each honest

pub run_of_one : {S : Type 0} (g : Ghosts S) → AllLaws → AllStep → (old new : FailStop (Remembering (Held S))) (c : Call) (a : Answer) → Handles g old c new a
    → Runs g old (c ∷ []) (a ∷ []) new
run_of_one g laws steps old new c a one = run_of_each g laws steps old new (c ∷ []) (a ∷ []) (new, one, refl)

-- a fact of what is in an Ok, by another
pub ok_then : {A E : Type 0} {P Q : A → Type 0} (r : Result A E) → ((x : A) → P x → Q x) → IfOk r P → IfOk r Q
ok_then (Ok x) so p = so x p
ok_then (Err e) so p = tt
