-- What a server makes of what a runner sends again: it holds what it held.
use Rattle.std.specs.Prelude.{◌≡◌, ◌⊎◌, Bool, true, false, List, All}
use Rattle.ci_machine_steps.specs.Prelude.{Answer, Stepped, outcome_of, State, Past, Leads}
use Rattle.ci_machine_laws.specs.Repeats.{WasJustSent, IsTakenEnd, IsAnsweredAgain, RepeatsChangeNothing}
use Rattle.ci_store.specs.Prelude.{Ghosts, Held}
use Rattle.ci_memory.specs.declared.remembering.Remembering.{Remembering}
use Rattle.ci_server.specs.declared.fail_stop.FailStop.{FailStop}
use Rattle.ci_server.specs.Holding.{HoldsIn, LeavesIn}
use Rattle.ci_server.specs.Handling.{Call}
use Rattle.ci_server.specs.Server.{IsHonest}
use Rattle.ci_server.specs.Runs.{line, IsRun}
use Rattle.ci_server.specs.Lifetime.{Beginning, Operation, ComesOf}
use Rattle.ci_server.specs.Settled.{Histories, AreSettled}

module _ {T : Type 0} (holds : T → State → Type 0) (leaves : T → State → State → Type 0) where
  -- a call left the state as it was: the store holds it, alone; or the store failed, and a stop leaves that state alone
  abbrev pub IsUnchanged : State → T → Bool → Type 0
  IsUnchanged s new closed = ((closed ≡ false) × holds new s) ⊎ ((closed ≡ true) × leaves new s s)

  -- A call of an open server, whose store held the state to which this history leads, by what a runner sent before.
  pub record LeavesRepeats (h : List Past) (s : State) (c : Call) (a : Answer) (new : T) (closed : Bool) : Type 0 where
    -- what was just sent, and is sent again, leaves the state as it was
    pub twice_is_once : WasJustSent h s c.0 c.1 → IsUnchanged s new closed
    -- So does a final state that any line of the history was answered 200 to, whatever came between; and this is what it is answered, unless it
    -- is M16 or M17.
    pub ends_once : All (λ first. (end : IsTakenEnd first) → c.0 ≡ first.event
        → IsUnchanged s new closed × (outcome_of a ≡ Stepped → IsAnsweredAgain h first (line s c a) end.update.attempt)) h

  -- calls one after the other are a run, in whose history what a runner sent again changed nothing
  pub record IsRunWithRepeats (h : List Past) (cs : List Call) (rs : List Answer) (new : T) (closed : Bool) : Type 0 where
    pub run : IsRun holds leaves h cs rs new closed
    pub repeats : RepeatsChangeNothing run.history run.state

-- ---- over tables

-- on an open server, by each history that leads to what it holds
abbrev pub Repeats : {S : Type 0} → Ghosts S → FailStop (Remembering (Held S)) → Call → FailStop (Remembering (Held S)) → Answer → Type 0
Repeats {S} g old c new a =
    IsHonest g new.store → old.closed ≡ false → (h : List Past) (s : State) → Leads h s → HoldsIn g s old.store
    → LeavesRepeats (λ (t : Remembering (Held S)) u. HoldsIn g u t) (λ (t : Remembering (Held S)) u v. LeavesIn g u v t) h s c a new.store new.closed

abbrev pub RunsRepeats : {S : Type 0} → Ghosts S → FailStop (Remembering (Held S)) → List Call → List Answer → FailStop (Remembering (Held S)) → Type 0
RunsRepeats {S} g old cs rs new =
    IsHonest g new.store → (h : List Past) (s : State) → Leads h s → HoldsIn g s old.store
    → IsRunWithRepeats (λ (t : Remembering (Held S)) u. HoldsIn g u t) (λ (t : Remembering (Held S)) u v. LeavesIn g u v t) h cs rs new.store new.closed

-- in the one history of each life, over its stops and openings, what a runner sent again changed nothing
abbrev pub LivesRepeat : {S : Type 0} → Ghosts S → Type 0
LivesRepeat {S} g =
    (history : Histories g) (settled : AreSettled g history) (began : Beginning) (operations : List Operation) (server : FailStop (Remembering (Held S)))
    (came : ComesOf g began operations server) (honest : IsHonest g server.store)
    → RepeatsChangeNothing (history began operations server came honest) (settled.stands began operations server came honest).state
