-- What the statements of one change did.
use Rattle.std.specs.Prelude.{◌≡◌, ◌⊎◌, ℕ, List, Ok, IsTrue}
use Rattle.sqlite.specs.Order.{Row}
use Rattle.sqlite.specs.Store.{Ghosts}
use Rattle.sqlite.specs.State.{HasCleanDisk, KeepsCommit, Survives, Executes}
use Rattle.sqlite.specs.Held.{Held, state}

-- inside a transaction, what is committed stays
abbrev pub KeepsInside : {S : Type 0} → Ghosts S → Held S → Held S → Type 0
KeepsInside g old new = HasCleanDisk (state g new) → IsTrue old.in_transaction → KeepsCommit (state g old) (state g new)

-- a stop leaves nothing that it might not have left before
abbrev pub CommitsNothing : {S : Type 0} → Ghosts S → Held S → Held S → Type 0
CommitsNothing g old new = Survives (state g old) (state g new) (λ _. ⊥)

-- the statement ran and changed so many rows
abbrev pub Changes : {S : Type 0} → Ghosts S → List ℕ → Row → ℕ → Held S → Held S → Type 0
Changes g sql params count old new = Executes sql params (state g old) (state g new) (Ok count)

-- one row was updated; or else, perhaps after an update that found none, the row was inserted
abbrev pub HasPut : {S : Type 0} → Ghosts S → List ℕ → List ℕ → Row → Held S → Held S → Type 0
HasPut {S} g update insert params old new =
    Changes g update params 1 old new
    ⊎ ((mid : Held S) × ((mid ≡ old) ⊎ Changes g update params 0 old mid) × (count : ℕ) × Changes g insert params count mid new)
