-- The life of a server whose store failed as it made a grant, which was opened again over what a stop had left.
use Rattle.std.specs.Prelude.{◌≡◌, ◌⊎◌, true, List, ◌∷◌}
use Rattle.sqlite.specs.Tree.{Trees}
use Rattle.sqlite.specs.Store.{Ghosts}
use Rattle.sqlite.specs.Held.{Held, state}
use Rattle.ci_memory.specs.declared.remembering.Remembering.{Remembering}
use Rattle.ci_machine_steps.specs.Prelude.{AskJob, Answer, M17, refusal, Past}
use Rattle.ci_machine_laws.specs.Examples.{token}
use Rattle.ci_server.specs.declared.fail_stop.FailStop.{FailStop}
use Rattle.ci_server.specs.Prelude.{HoldsIn, StandsFor, IsHonest, line, Beginning, Operation, called, opened, ComesOf, IsFileOf, Histories, AreSettled}
use Rattle.ci_server_witness.specs.Life.{granted, with_pipeline, with_attempt, at_1000, before_grant}

-- the runner asked for a job, and the store failed in that call, which was answered M17
abbrev pub until_failure : List Operation
until_failure = called (at_1000 (AskJob token)) (Answer.Reply (refusal M17)) ∷ before_grant

-- and then the server was opened again
abbrev pub stopped_life : List Operation
stopped_life = opened ∷ until_failure

-- the line that the grant has if it took place: the machine's own reply, which nobody was given
abbrev pub grant_line : Past
grant_line = line with_pipeline (at_1000 (AskJob token)) (Answer.Reply granted.0)

-- Before it is opened again: it is closed, and each file that a stop may leave is of the state before the grant, or of the one after it.
pub record IsStopped {S : Type 0} (g : Ghosts S) (server : FailStop (Remembering (Held S))) : Type 0 where
  pub is_closed : server.closed ≡ true
  pub left : (db : Trees) → (state g server.store.store).may_leave db → IsFileOf true with_pipeline db ⊎ IsFileOf true with_attempt db

-- By the history h before the failure, what is settled once the server is opened again: the grant did not take place, and the server holds the
-- state before it; or it did, its line is in the history for good, and the server holds the state after it.
pub data IsSettledAs {S : Type 0} (g : Ghosts S) (h settled : List Past) (server : FailStop (Remembering (Held S))) : Type 0 where
  not_granted : settled ≡ h → HoldsIn g with_pipeline server.store → IsSettledAs g h settled server
  was_granted : settled ≡ grant_line ∷ h → HoldsIn g with_attempt server.store → IsSettledAs g h settled server

-- Of each server over these stores that came of this life: what a stop may leave of it, what is settled once it is opened again, and that the grant
-- is held where a stop left the file that the commit was to make.
pub record NamesStoppedLife {S : Type 0} (g : Ghosts S) (began : Beginning) : Type 0 where
  pub stopped : (server : FailStop (Remembering (Held S))) → ComesOf g began until_failure server → IsHonest g server.store → IsStopped g server
  pub settled : (history : Histories g) → AreSettled g history → (server : FailStop (Remembering (Held S))) (came : ComesOf g began stopped_life server) (honest : IsHonest g server.store)
      → let old = came.2.0 in
      let was_honest = came.2.2.was_honest came.3 in
      IsSettledAs g (history began before_grant old came.2.1 was_honest) (history began stopped_life server came honest) server
  pub committed : (server : FailStop (Remembering (Held S))) (came : ComesOf g began stopped_life server) → IsHonest g server.store → StandsFor true with_attempt (state g came.1).committed.trees → HoldsIn g with_attempt server.store
