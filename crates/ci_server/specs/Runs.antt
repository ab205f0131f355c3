-- What a list of calls leaves: the history of the machine, and what a stop leaves of it.
use Rattle.std.specs.Prelude.{◌≡◌, ◌⊎◌, Bool, true, false, List, [], ◌∷◌}
use Rattle.ci_machine_steps.specs.Prelude.{Answer, Outcome, Stepped, LackedMemory, StoreFailed, outcome_of, State, Past, Leads, Laws}
use Rattle.ci_store.specs.Prelude.{Ghosts, Held}
use Rattle.ci_memory.specs.declared.remembering.Remembering.{Remembering}
use Rattle.ci_server.specs.Holding.{HoldsIn, LeavesIn}
use Rattle.ci_server.specs.Handling.{Call}
use Rattle.ci_server.specs.declared.fail_stop.FailStop.{FailStop}
use Rattle.ci_server.specs.Server.{IsHonest}

-- the line of a history that a call adds in a state
abbrev pub line : State → Call → Answer → Past
line s c a = record { before = s; event = c.0; now = c.1; seed = c.2; answer = a }

abbrev pub by_outcome : Outcome → Type 0 → Type 0 → Type 0 → Type 0
by_outcome Stepped stepped lacked failed = stepped
by_outcome LackedMemory stepped lacked failed = lacked
by_outcome StoreFailed stepped lacked failed = failed

-- the history h goes on to g by these calls: a line for each one that was answered, and none for M16 and M17
abbrev pub GoesOn : List Past → List Call → List Answer → List Past → Type 0
GoesOn h [] [] g = g ≡ h
GoesOn h (c ∷ cs) (a ∷ rs) g = by_outcome (outcome_of a) ((s : State) × GoesOn (line s c a ∷ h) cs rs g) (GoesOn h cs rs g) (GoesOn h cs rs g)
GoesOn h [] (a ∷ rs) g = ⊥
GoesOn h (c ∷ cs) [] g = ⊥

-- no answer is M17
abbrev pub NoneFailed : List Answer → Type 0
NoneFailed [] = Unit {0}
NoneFailed (a ∷ rs) = by_outcome (outcome_of a) (NoneFailed rs) (NoneFailed rs) ⊥

-- the line is of the first call that was answered M17
abbrev pub IsUnanswered : Past → List Call → List Answer → Type 0
IsUnanswered p (c ∷ cs) (a ∷ rs) = by_outcome (outcome_of a) (IsUnanswered p cs rs) (IsUnanswered p cs rs) ((p.event ≡ c.0) × (p.now ≡ c.1) × (p.seed ≡ c.2))
IsUnanswered p [] rs = ⊥
IsUnanswered p (c ∷ cs) [] = ⊥

-- one step more than the answered calls: that of the one unanswered
pub record OneMore {T : Type 0} (leaves : T → State → State → Type 0) (history : List Past) (state : State) (cs : List Call) (rs : List Answer) (new : T) : Type 0 where
  pub last : Past
  pub unanswered : IsUnanswered last cs rs
  pub after : State
  pub leads : Leads (last ∷ history) after
  pub laws : Laws (last ∷ history) after
  pub leaves_either : leaves new state after

-- From a state that the history h leads to, these calls with these answers: the state after every answered call, with the history that leads
-- to it and the laws; what the store holds then, or what a stop leaves of it.
pub record IsRun {T : Type 0} (holds : T → State → Type 0) (leaves : T → State → State → Type 0) (h : List Past) (cs : List Call) (rs : List Answer) (new : T) (closed : Bool) : Type 0 where
  pub history : List Past
  pub state : State
  pub goes_on : GoesOn h cs rs history
  pub leads : Leads history state
  pub laws : Laws history state
  -- while the server is open its store holds that state, and a stop leaves it alone
  pub is_open : closed ≡ false → NoneFailed rs × holds new state
  -- from the first fault of the store on a stop leaves that state alone, or besides it the one after the one unanswered call
  pub is_closed : closed ≡ true → leaves new state state ⊎ OneMore leaves history state cs rs new

-- From each state that a history leads to and that the server's store holds, the calls with these answers are a run. Where the server was closed
-- it is that of calls which were all refused.
abbrev pub Runs : {S : Type 0} → Ghosts S → FailStop (Remembering (Held S)) → List Call → List Answer → FailStop (Remembering (Held S)) → Type 0
Runs {S} g old cs rs new =
    IsHonest g new.store → (h : List Past) (s : State) → Leads h s → HoldsIn g s old.store
    → IsRun (λ (t : Remembering (Held S)) u. HoldsIn g u t) (λ (t : Remembering (Held S)) u v. LeavesIn g u v t) h cs rs new.store new.closed
