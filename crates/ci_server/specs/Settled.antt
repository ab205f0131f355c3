-- The one history of a life: what is settled of a server by each operation, and never chosen again.
use Rattle.std.specs.Prelude.{◌≡◌, ◌⊎◌, Bool, true, false, List, [], ◌∷◌, Option, Some, None}
use Rattle.ci_store.specs.Prelude.{Trees, Ghosts, Held, state}
use Rattle.ci_memory.specs.declared.remembering.Remembering.{Remembering}
use Rattle.ci_machine_steps.specs.Prelude.{Answer, Outcome, Stepped, LackedMemory, StoreFailed, outcome_of, State, Past, Leads, Laws}
use Rattle.ci_server.specs.declared.fail_stop.FailStop.{FailStop}
use Rattle.ci_server.specs.Holding.{HoldsIn, StandsFor, KeepsGroups}
use Rattle.ci_server.specs.Handling.{Call}
use Rattle.ci_server.specs.Server.{IsHonest}
use Rattle.ci_server.specs.Runs.{line, GoesOn}
use Rattle.ci_server.specs.Lifetime.{Beginning, earlier_of, Operation, called, opened, unopened, ComesOf, has_failed, is_of_2}

-- ---- the one unanswered call

-- the call in which the store failed, if it hadn't failed before
abbrev pub first_failed : Bool → Outcome → Call → Option Call → Option Call
first_failed true outcome c earlier = earlier
first_failed false Stepped c earlier = None
first_failed false LackedMemory c earlier = None
first_failed false StoreFailed c earlier = Some c

-- the call in which the store has failed since the last opening, if it has
abbrev pub unanswered : Beginning → List Operation → Option Call
unanswered began [] = None
unanswered began (called c a ∷ before) = first_failed (has_failed began before) (outcome_of a) c (unanswered began before)
unanswered began (opened ∷ before) = None
unanswered began (unopened ∷ before) = None

-- the history g is h, or h with one line more, which is of the one unanswered call
abbrev pub AddsUnanswered : Beginning → List Operation → List Past → List Past → Type 0
AddsUnanswered began operations h g = (g ≡ h) ⊎ ((c : Call) × (s : State) × (a : Answer) × (unanswered began operations ≡ Some c) × (g ≡ line s c a ∷ h))

-- ---- what stands by a history

-- the file stands for the state, as one of version 2 where only that may be, and its table `holder` has rows for just the live attempts of jobs with a
-- resource group
abbrev pub IsFileOf : Bool → State → Trees → Type 0
IsFileOf of_2 s db = StandsFor of_2 s db × KeepsGroups s db

-- the state after the history and one step more, which is that of the one unanswered call
pub record IsAfterUnanswered (began : Beginning) (operations : List Operation) (h : List Past) (t : State) : Type 0 where
  pub call : Call
  pub before : State
  pub answer : Answer
  pub is : unanswered began operations ≡ Some call
  pub leads : Leads (line before call answer ∷ h) t
  pub laws : Laws (line before call answer ∷ h) t

-- each file that a stop may leave of the server stands for the state
abbrev pub LeavesOne : {S : Type 0} → Ghosts S → Bool → State → FailStop (Remembering (Held S)) → Type 0
LeavesOne g of_2 s server = (db : Trees) → (state g server.store.store).may_leave db → IsFileOf of_2 s db

-- each of them stands for the state, or for the one after the one unanswered call
pub record LeavesTwo {S : Type 0} (g : Ghosts S) (began : Beginning) (operations : List Operation) (h : List Past) (s : State) (server : FailStop (Remembering (Held S))) : Type 0 where
  pub after : State
  pub is_after : IsAfterUnanswered began operations h after
  pub each : (db : Trees) → (state g server.store.store).may_leave db → IsFileOf (is_of_2 began operations) s db ⊎ IsFileOf (is_of_2 began operations) after db

-- The history is that of a server which came of this beginning and these operations: it leads to one state, whose laws hold. An open server holds
-- this state, with what follows from it; and a stop leaves this state alone, or besides it the one after the one unanswered call.
pub record StandsBy {S : Type 0} (g : Ghosts S) (began : Beginning) (operations : List Operation) (server : FailStop (Remembering (Held S))) (h : List Past) : Type 0 where
  pub state : State
  pub leads : Leads h state
  pub laws : Laws h state
  pub held : server.closed ≡ false → HoldsIn g state server.store
  pub left : LeavesOne g (is_of_2 began operations) state server ⊎ LeavesTwo g began operations h state server

-- ---- over a life

-- a history of each life: of its beginning and operations, a server that came of them, and its disk, which has given back what was written to it
abbrev pub Histories : {S : Type 0} → Ghosts S → Type 0
Histories {S} g =
    (began : Beginning) (operations : List Operation) (server : FailStop (Remembering (Held S))) → ComesOf g began operations server → IsHonest g server.store → List Past

-- Each life has the one history that its beginning had, gone on by its last operation. A server that was made has none, and over a store that was found
-- a life has the one that led to it, also where that is of version 1 and where its opening failed. A call adds its line where it was answered, and else
-- nothing. An opening, also one that fails, settles whether the one unanswered call since the opening before it took place, and adds its line if so: from
-- then on that line is in the history, or it never is. And each server stands by its history.
pub record AreSettled {S : Type 0} (g : Ghosts S) (history : Histories g) : Type 0 where
  pub new : (began : Beginning) (server : FailStop (Remembering (Held S))) (came : ComesOf g began [] server) (honest : IsHonest g server.store) → history began [] server came honest ≡ earlier_of began
  pub call : (began : Beginning) (c : Call) (a : Answer) (before : List Operation) (server : FailStop (Remembering (Held S))) (came : ComesOf g began (called c a ∷ before) server) (honest : IsHonest g server.store)
      → GoesOn (history began before came.0 came.1 (came.2.was_honest honest)) (c ∷ []) (a ∷ []) (history began (called c a ∷ before) server came honest)
  pub opening : (began : Beginning) (before : List Operation) (server : FailStop (Remembering (Held S))) (came : ComesOf g began (opened ∷ before) server) (honest : IsHonest g server.store)
      → AddsUnanswered began before (history began before came.0 came.2 came.3) (history began (opened ∷ before) server came honest)
  pub failed_opening : (began : Beginning) (before : List Operation) (server : FailStop (Remembering (Held S))) (came : ComesOf g began (unopened ∷ before) server) (honest : IsHonest g server.store)
      → AddsUnanswered began before (history began before came.0 came.2 came.3) (history began (unopened ∷ before) server came honest)
  pub stands : (began : Beginning) (operations : List Operation) (server : FailStop (Remembering (Held S))) (came : ComesOf g began operations server) (honest : IsHonest g server.store)
      → StandsBy g began operations server (history began operations server came honest)

-- there is such a history of each life
abbrev pub HasOneHistory : {S : Type 0} → Ghosts S → Type 0
HasOneHistory g = (history : Histories g) × AreSettled g history
