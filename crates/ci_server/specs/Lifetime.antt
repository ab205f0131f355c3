-- What is done with a server over its whole life: events, stops and openings; and the history that leads to what it holds. A life may go on from
-- that of an earlier program, whose store is of version 1.
use Rattle.std.specs.Prelude.{◌≡◌, ◌⊎◌, Bool, true, false, not, List, [], ◌∷◌, IsTrue}
use Rattle.ci_store.specs.Prelude.{Trees, Ghosts, Held, state}
use Rattle.ci_memory.specs.declared.remembering.Remembering.{Remembering}
use Rattle.ci_machine_steps.specs.Prelude.{Answer, outcome_of, State, Kept, Past, Leads, Laws}
use Rattle.ci_store_sqlite.specs.Prelude.{LeavesAny}
use Rattle.ci_server.specs.declared.fail_stop.FailStop.{FailStop}
use Rattle.ci_server.specs.Holding.{IsKeptOf, HoldsIn, StandsFor, KeepsGroups}
use Rattle.ci_server.specs.Handling.{Call, closed_by}
use Rattle.ci_server.specs.Server.{IsHonest, Handles, Creates, Opens, FailsToOpen}
use Rattle.ci_server.specs.Runs.{line, by_outcome}

-- How a life begins: a server is made; or a store is found, to whose state this history leads, and it is opened, or that opening fails.
pub data Beginning : Type 0 where
  was_made : Beginning
  was_found : List Past → Beginning
  was_found_shut : List Past → Beginning

-- the history before the beginning, which a server that is made has none of
abbrev pub earlier_of : Beginning → List Past
earlier_of was_made = []
earlier_of (was_found earlier) = earlier
earlier_of (was_found_shut earlier) = earlier

-- did the first opening fail?
abbrev pub begins_shut : Beginning → Bool
begins_shut was_made = false
begins_shut (was_found earlier) = false
begins_shut (was_found_shut earlier) = true

-- An operation on a server: an event came and had this answer; the server was opened again; or an opening failed.
pub data Operation : Type 0 where
  called : Call → Answer → Operation
  opened : Operation
  unopened : Operation

-- The connection is open, and has a database that a stop may have left of the store.
pub record Recovers {S : Type 0} (g : Ghosts S) (old conn : Held S) : Type 0 where
  pub is_open : IsTrue (state g conn).is_open
  pub left : (state g old).may_leave (state g conn).committed.trees

-- The history leads to a state for which each file that a stop may leave of the store stands, with what follows from it, as one of version 1 or 2.
pub record IsFound {S : Type 0} (g : Ghosts S) (earlier : List Past) (conn : Held S) : Type 0 where
  pub state : State
  pub leads : Leads earlier state
  pub kept : Kept
  pub is_of : IsKeptOf state kept
  pub left : LeavesAny g kept conn

-- The server is new: it was made in a store that listed nothing, or opened over one that was found; that may be one of version 1, or the empty tables,
-- which a creation that fails may leave. Where the opening failed, what comes back is a server that is closed.
abbrev pub Begins : {S : Type 0} → Ghosts S → Beginning → FailStop (Remembering (Held S)) → Type 0
Begins {S} g was_made new = (conn : Held S) × Creates g conn new
Begins {S} g (was_found earlier) new = (conn : Held S) × IsFound g earlier conn × Opens g conn new
Begins {S} g (was_found_shut earlier) new = (conn : Held S) × IsFound g earlier conn × FailsToOpen g conn new

-- The server came of this beginning and these operations, the newest first: it is new, events came, and it was opened again over what a stop may
-- have left of it, at whatever call it was stopped. Where the opening failed, what comes back is a server that is closed.
abbrev pub ComesOf : {S : Type 0} → Ghosts S → Beginning → List Operation → FailStop (Remembering (Held S)) → Type 0
ComesOf {S} g began [] new = Begins g began new
ComesOf {S} g began (called c a ∷ before) new = (old : FailStop (Remembering (Held S))) × ComesOf g began before old × Handles g old c new a
ComesOf {S} g began (opened ∷ before) new =
    (old : FailStop (Remembering (Held S))) × (conn : Held S) × ComesOf g began before old × IsHonest g old.store × Recovers g old.store.store conn × Opens g conn new
ComesOf {S} g began (unopened ∷ before) new =
    (old : FailStop (Remembering (Held S))) × (conn : Held S) × ComesOf g began before old × IsHonest g old.store × Recovers g old.store.store conn × FailsToOpen g conn new

-- and then these calls, the first of them first
abbrev pub called_each : List Call → List Answer → List Operation → List Operation
called_each [] rs before = before
called_each (c ∷ cs) [] before = before
called_each (c ∷ cs) (a ∷ rs) before = called_each cs rs (called c a ∷ before)

-- the store has failed since the last opening, or in it
abbrev pub has_failed : Beginning → List Operation → Bool
has_failed began [] = begins_shut began
has_failed began (called c a ∷ before) = closed_by (outcome_of a) (has_failed began before)
has_failed began (opened ∷ before) = false
has_failed began (unopened ∷ before) = true

-- The server was made, or opened once. From then on its files are of version 2.
abbrev pub is_of_2 : Beginning → List Operation → Bool
is_of_2 began [] = not (begins_shut began)
is_of_2 began (called c a ∷ before) = is_of_2 began before
is_of_2 began (opened ∷ before) = true
is_of_2 began (unopened ∷ before) = is_of_2 began before

-- the newest line of the history is of this call with this answer, and Earlier is so of the lines before it
pub record HasNewest (Earlier : List Past → Type 0) (c : Call) (a : Answer) (h : List Past) : Type 0 where
  pub before : State
  pub earlier : List Past
  pub newest : h ≡ line before c a ∷ earlier
  pub rest : Earlier earlier

-- The history is one of these operations, the newest first in both, behind the one before the beginning. Each call that was answered has its line, and
-- one that lacked memory has none. The call in which the store failed has a line or none, and those after it, up to the next opening, have none.
abbrev pub IsHistoryOf : Beginning → List Operation → List Past → Type 0
IsHistoryOf began [] h = h ≡ earlier_of began
IsHistoryOf began (called c a ∷ before) h =
    by_outcome (outcome_of a)
    (HasNewest (λ g. IsHistoryOf began before g) c a h)
    (IsHistoryOf began before h)
    (IsHistoryOf began before h ⊎ ((has_failed began before ≡ false) × (answer : Answer) × HasNewest (λ g. IsHistoryOf began before g) c answer h))
IsHistoryOf began (opened ∷ before) h = IsHistoryOf began before h
IsHistoryOf began (unopened ∷ before) h = IsHistoryOf began before h

-- a history of the operations leads to the state, and its laws hold
pub record IsReachedBy (began : Beginning) (operations : List Operation) (s : State) : Type 0 where
  pub history : List Past
  pub is_history : IsHistoryOf began operations history
  pub leads : Leads history s
  pub laws : Laws history s

-- No step of the operations is lost: an open server holds a state that they reach, with what follows from it, and each file that a stop may
-- leave stands for one, what is beside it being what is recomputed from it. It is of version 2, but where no opening has gone well yet.
pub record LosesNoStep {S : Type 0} (g : Ghosts S) (began : Beginning) (operations : List Operation) (server : FailStop (Remembering (Held S))) : Type 0 where
  pub held : server.closed ≡ false → (s : State) × IsReachedBy began operations s × HoldsIn g s server.store
  pub left : (db : Trees) → (state g server.store.store).may_leave db → (s : State) × IsReachedBy began operations s × StandsFor (is_of_2 began operations) s db

-- Each file that a stop may leave stands for a state that the operations reach, and its table `holder` has rows for just the live attempts of
-- that state whose jobs have a resource group.
abbrev pub KeepsItsGroups : {S : Type 0} → Ghosts S → Beginning → List Operation → FailStop (Remembering (Held S)) → Type 0
KeepsItsGroups g began operations server =
    (db : Trees) → (state g server.store.store).may_leave db
    → (s : State) × IsReachedBy began operations s × StandsFor (is_of_2 began operations) s db × KeepsGroups s db
