-- What is planned of an event over what a store keeps: changes of records, and what changes beside them.
use Rattle.std.specs.Prelude.{◌≡◌, ◌⊎◌, List, [], ◌∷◌, if◌then◌else◌, Option, Some, None}
use Rattle.ci_machine_steps.specs.Prelude.{Attempt, Record, RowChange, Put, is_live, State, applied, Kept, cleared, put_rows, written, AreBoard, AreIndexes}
use Rattle.ci_server_lookups.specs.Prelude.{HasLive}
use Rattle.ci_server_events.specs.declared.planned.Beside.{Beside}
use Rattle.ci_server_events.specs.declared.planned.Planned.{Planned}

-- the rows that are put make the rows of the state after the changes, and with the changes of indexes all beside it is right
pub record Settles (k : Kept) (changes : List RowChange) (beside : Beside) : Type 0 where
  pub board : AreBoard (applied changes k.state) (put_rows beside.rows.items k.board)
  pub indexes : AreIndexes (written changes beside.rows.items beside.indexes.items k)

-- What is planned is what the machine makes, and what changes beside its records settles it, once the rows are gone that go first.
pub record PlansFor {A : Type 0} (k : Kept) (Makes : Type 0) (p : Planned A) : Type 0 where
  pub made : Makes
  pub settled : Settles (cleared p.cleared.items k) p.changes p.beside

-- the changes are none, or they put a live attempt of the state as it stands then
abbrev pub MovesOne : State → List RowChange → Type 0
MovesOne s changes = (changes ≡ []) ⊎ ((after : Attempt) × HasLive s after × (changes ≡ Put (Record.Attempt after) ∷ []))

-- the attempt that the changes end, where they put it alone
abbrev pub attempt_ended : List RowChange → Option Attempt
attempt_ended (Put (Record.Attempt after) ∷ []) = if is_live after then None else Some after
attempt_ended _ = None
