-- What is sent again leaves a server as it was.
use Rattle.std.proofs.Common.{◌≡◌, Bool, List, ◌∷◌, sym, ap, subst, ◌∙◌, inl, inr}
use Rattle.ci_machine_steps.specs.Prelude.{Answer, Stepped, LackedMemory, StoreFailed, outcome_of, State, Step, Past, Leads}
use Rattle.ci_machine.proofs.Keyed.{Has, All-from_has, has_from_all}
use Rattle.ci_machine_laws.specs.Repeats.{IsTakenEnd, IsAnsweredAgain, RepeatsChangeNothing}
use Rattle.ci_store.specs.Prelude.{Ghosts, Held}
use Rattle.ci_memory.specs.declared.remembering.Remembering.{Remembering}
use Rattle.ci_server.specs.Prelude.{FailStop, HoldsIn, LeavesIn, Call, Handled, answered, no_memory, look_failed, commit_failed, Handles, line, Runs, IsUnchanged, LeavesRepeats}
use Rattle.ci_server.specs.Prelude.{Repeats, RunsRepeats, LivesRepeat}
use Rattle.ci_server.proofs.Runs.{outcome-M16, outcome-M17}

-- the repeat law of the machine
abbrev pub AllRepeat : Type 0
AllRepeat = (h : List Past) (s : State) → Leads h s → RepeatsChangeNothing h s

module _ {T : Type 0} (holds : T → State → Type 0) (leaves : T → State → State → Type 0) (repeats : AllRepeat) (h : List Past) (s : State) (leads : Leads h s) (c : Call) (new : T) (closed : Bool) where
  -- where each step that the call may have made leaves the state, so does the call
  unchanged : (a : Answer) → Handled holds leaves c s new closed a → ((b : Answer) (t : State) → Step s c.0 c.1 c.2 b t → t ≡ s) → IsUnchanged holds leaves s new closed
  unchanged a (answered t step held is_open) same = inl (is_open, subst (holds new) (same a t step) held)
  unchanged a (no_memory is held is_open) same = inl (is_open, held)
  unchanged a (look_failed is left shut) same = inr (shut, left)
  unchanged a (commit_failed b t step is left shut) same = inr (shut, subst (leaves new s) (same b t step) left)

  -- a fact of the answer of each step, of a call that was answered
  told : (P : Answer → Type 0) (a : Answer) → Handled holds leaves c s new closed a → ((b : Answer) (t : State) → Step s c.0 c.1 c.2 b t → P b) → outcome_of a ≡ Stepped → P a
  told P a (answered t step held is_open) so o = so a t step
  told P a (no_memory is held is_open) so o = absurd (let e : LackedMemory ≡ Stepped = sym (ap outcome_of is ∙ outcome-M16 c.0) ∙ o in cc)
  told P a (look_failed is left shut) so o = absurd (let e : StoreFailed ≡ Stepped = sym (ap outcome_of is ∙ outcome-M17 c.0) ∙ o in cc)
  told P a (commit_failed b t step is left shut) so o = absurd (let e : StoreFailed ≡ Stepped = sym (ap outcome_of is ∙ outcome-M17 c.0) ∙ o in cc)

  -- a step of the call, by the law
  again : (first : Past) → Has first h → (end : IsTakenEnd first) → c.0 ≡ first.event → (b : Answer) (t : State) → Step s c.0 c.1 c.2 b t → (t ≡ s) × IsAnsweredAgain h first (line s c b) end.update.attempt
  again first k end same b t step =
      has_from_all (λ first. (end : IsTakenEnd first) → c.0 ≡ first.event → (t ≡ s) × IsAnsweredAgain h first (line s c b) end.update.attempt) first h
      (repeats (line s c b ∷ h) t (leads, step)).ends_once.0 k end same

  -- what the call leaves that sends again the final state of this line
  abbrev Once : Answer → Past → Type 0
  Once a first = (end : IsTakenEnd first) → c.0 ≡ first.event → IsUnchanged holds leaves s new closed × (outcome_of a ≡ Stepped → IsAnsweredAgain h first (line s c a) end.update.attempt)

  leaves_repeats : (a : Answer) → Handled holds leaves c s new closed a → LeavesRepeats holds leaves h s c a new closed
  leaves_repeats a done = record {
    twice_is_once = λ was. unchanged a done (λ b t step. (repeats (line s c b ∷ h) t (leads, step)).twice_is_once.0 was);
    ends_once = All-from_has (Once a) h (λ first k end same. (
      unchanged a done (λ b t step. (again first k end same b t step).0),
      told (λ b. IsAnsweredAgain h first (line s c b) end.update.attempt) a done (λ b t step. (again first k end same b t step).1),
    ));
  }

-- ---- over tables

pub repeats_of_one : {S : Type 0} (g : Ghosts S) → AllRepeat → (old new : FailStop (Remembering (Held S))) (c : Call) (a : Answer) → Handles g old c new a → Repeats g old c new a
repeats_of_one {S = S} g repeats old new c a one = λ honest was_open h s leads at.
    leaves_repeats (λ (t : Remembering (Held S)) u. HoldsIn g u t) (λ (t : Remembering (Held S)) u v. LeavesIn g u v t) repeats h s leads c new.store new.closed a
    (one.while_open was_open honest s (h, leads) at)

pub repeats_of_each : {S : Type 0} (g : Ghosts S) → AllRepeat → (old new : FailStop (Remembering (Held S))) (cs : List Call) (rs : List Answer) → Runs g old cs rs new → RunsRepeats g old cs rs new
repeats_of_each g repeats old new cs rs runs = λ honest h s leads at. let r = runs honest h s leads at in record { run = r; repeats = repeats r.history r.state r.leads }

pub repeats_of_lives : {S : Type 0} (g : Ghosts S) → AllRepeat → LivesRepeat g
repeats_of_lives g repeats history settled began operations server came honest =
    let stands = settled.stands began operations server came honest in
    repeats (history began operations server came honest) stands.state stands.leads
