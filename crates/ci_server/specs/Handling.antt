-- What one event does: to the store that it is handled over, and to a server.
use Rattle.std.specs.Prelude.{◌≡◌, ◌⊎◌, ℕ, Bool, true, false, Result, Ok, Err}
use Rattle.ci_machine_steps.specs.Prelude.{Answer, Code, M16, M17, Swept, Event, Seed, refusal, Outcome, Stepped, LackedMemory, StoreFailed, State, Step}
use Rattle.ci_server_lookups.specs.Prelude.{StoreFault, Memory, Broken}

-- an event, with its moment and its seed
abbrev pub Call : Type 0
Call = Event × ℕ × Seed

-- the answer that refuses an event
abbrev pub refused : Event → Code → Answer
refused (Event.Request request) code = Answer.Reply (refusal code)
refused Event.Sweep code = Answer.Swept (Swept.Refused code)

-- the code of the refusal for a fault of the store
abbrev pub code_of : StoreFault → Code
code_of Memory = M16
code_of Broken = M17

-- the answer to an event, by how it ended
abbrev pub answer_by : {A : Type 0} → (A → Answer) → Event → Result A StoreFault → Answer
answer_by as_answer e (Ok a) = as_answer a
answer_by as_answer e (Err fault) = refused e (code_of fault)

-- whether a server is closed after a call with this outcome, which was so before
abbrev pub closed_by : Outcome → Bool → Bool
closed_by Stepped before = before
closed_by LackedMemory before = before
closed_by StoreFailed before = true

module _ {T : Type 0} (holds : T → State → Type 0) (leaves : T → State → State → Type 0) where
  -- What an event did to a store that held the state s, by how it ended. It was answered: the store holds the state after the machine's step.
  -- Memory was refused: it holds s. It failed: in a look-up, and a stop leaves s alone, or in the commit, and a stop leaves s or the state after
  -- the step.
  abbrev pub Performs : {A : Type 0} → (A → Answer) → Call → State → T → Result A StoreFault → Type 0
  Performs as_answer c s new (Ok a) = (t : State) × Step s c.0 c.1 c.2 (as_answer a) t × holds new t
  Performs as_answer c s new (Err Memory) = holds new s
  Performs as_answer c s new (Err Broken) = leaves new s s ⊎ ((b : Answer) × (t : State) × Step s c.0 c.1 c.2 b t × leaves new s t)

-- How an event of an open server ended, whose store held this state before: the store now, whether the server is closed, and the answer.
pub data Handled {T : Type 0} (holds : T → State → Type 0) (leaves : T → State → State → Type 0) (c : Call) (s : State) (new : T) (closed : Bool) (a : Answer) : Type 0 where
  -- the answer is the machine's, and the store holds the state after its step, alone
  answered : (t : State) → Step s c.0 c.1 c.2 a t → holds new t → closed ≡ false → Handled holds leaves c s new closed a
  -- memory was refused: the store holds the state before, alone
  no_memory : a ≡ refused c.0 M16 → holds new s → closed ≡ false → Handled holds leaves c s new closed a
  -- the store failed in a look-up: a stop leaves the state before alone
  look_failed : a ≡ refused c.0 M17 → leaves new s s → closed ≡ true → Handled holds leaves c s new closed a
  -- the store failed in the commit: a stop leaves the state before or the one after the machine's step
  commit_failed : (b : Answer) (t : State) → Step s c.0 c.1 c.2 b t → a ≡ refused c.0 M17 → leaves new s t → closed ≡ true → Handled holds leaves c s new closed a
