-- What a report does to a server: it tells what the server holds, and changes nothing.
use Rattle.std.specs.Prelude.{◌≡◌, ℕ, Bool, true, false, List, Option, Result, Ok, Err}
use Rattle.std.specs.Global.{Vec}
use Rattle.ci_store.specs.Prelude.{Ghosts, Held}
use Rattle.ci_memory.specs.declared.remembering.Remembering.{Remembering}
use Rattle.ci_machine_steps.specs.Prelude.{BoardRow, Code, M16, M17, QueueRow, PipelineRows, RunnerRow, pipeline_at, queue_rows, runner_rows, State, AreBoard, IsReached}
use Rattle.ci_server_lookups.specs.Prelude.{StoreFault}
use Rattle.ci_server_events.specs.Told.{TellsPipeline}
use Rattle.ci_server.specs.declared.fail_stop.FailStop.{FailStop}
use Rattle.ci_server.specs.Handling.{code_of}
use Rattle.ci_server.specs.Holding.{HoldsIn, LeavesIn}
use Rattle.ci_server.specs.Server.{IsHonest}

-- ---- what is told of a state: by the rows of its jobs' statuses

-- the pending jobs, by number
abbrev pub TellsQueue : State → Vec QueueRow → Type 0
TellsQueue s told = (board : List BoardRow) × AreBoard s board × (told.items ≡ queue_rows s board)

-- the pipeline with this number and its jobs, or that there is none
abbrev pub TellsPipelineAt : ℕ → State → Option PipelineRows → Type 0
TellsPipelineAt id s told = (board : List BoardRow) × AreBoard s board × TellsPipeline s board (pipeline_at s id) told

-- the runners, by number
abbrev pub TellsRunners : State → Vec RunnerRow → Type 0
TellsRunners s told = told.items ≡ runner_rows s

-- nothing: what was looked up is remembered alone
abbrev pub TellsNothing : State → Unit {0} → Type 0
TellsNothing s told = Unit {0}

-- ---- the answer

-- what is answered, by what the look-ups found
abbrev pub report_of : {A : Type 0} → Result A StoreFault → Result A Code
report_of (Ok told) = Ok told
report_of (Err fault) = Err (code_of fault)

-- whether a server is closed after a report with this answer, which was so before
abbrev pub closed_after : {A : Type 0} → Result A Code → Bool → Bool
closed_after (Err M17) before = true
closed_after _ before = before

module _ {T : Type 0} (holds : T → State → Type 0) (leaves : T → State → State → Type 0) where
  -- How a report of an open server ended, whose store held this state. It is told, and the store holds the state still, alone; so it does where memory was
  -- refused. Where the store failed the server is closed, and a stop leaves that state alone.
  abbrev pub Reported : {A : Type 0} → (State → A → Type 0) → State → T → Bool → Result A Code → Type 0
  Reported Tells s new closed (Ok told) = Tells s told × holds new s × (closed ≡ false)
  Reported Tells s new closed (Err M16) = holds new s × (closed ≡ false)
  Reported Tells s new closed (Err M17) = leaves new s s × (closed ≡ true)
  Reported Tells s new closed (Err _) = ⊥

-- What a report does: on an open server that holds a state which a history leads to, what `Reported` says; on a closed one nothing, and the answer is
-- M17. Over any disk it closes the server exactly where its answer is M17.
pub record ReportsBy {T A : Type 0} (honest : T → Type 0) (holds : T → State → Type 0) (leaves : T → State → State → Type 0) (old new : FailStop T) (Tells : State → A → Type 0) (answer : Result A Code) : Type 0 where
  pub was_honest : honest new.store → honest old.store
  pub while_open : old.closed ≡ false → honest new.store → (s : State) → IsReached s → holds old.store s → Reported holds leaves Tells s new.store new.closed answer
  pub once_closed : old.closed ≡ true → (answer ≡ Err M17) × (new ≡ old)
  pub closes : new.closed ≡ closed_after answer old.closed
  -- whether the opening migrated the store stays
  pub same_opening : new.migrated ≡ old.migrated

-- over tables
abbrev pub Reports : {S A : Type 0} → Ghosts S → FailStop (Remembering (Held S)) → FailStop (Remembering (Held S)) → (State → A → Type 0) → Result A Code → Type 0
Reports g old new Tells answer = ReportsBy (IsHonest g) (λ h s. HoldsIn g s h) (λ h s t. LeavesIn g s t h) old new Tells answer
