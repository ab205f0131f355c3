-- What a statement inside a transaction makes of what the tables keep.
use Rattle.std.specs.Prelude.{◌≡◌, ℕ, List, [], ◌∷◌, Result, IsTrue, OnOk}
use Rattle.ci_store.specs.Prelude.{Row, HasCleanDisk, Shown, Ghosts, Held, state, Kept, State, changed, trace_of, Append, BoardRow, Holder, Changes}
use Rattle.ci_store_rows.specs.declared.block.Block.{Block}
use Rattle.ci_store_rows.specs.Blocks.{StaysWithin}
use Rattle.ci_store_rows.specs.Stands.{Stands}

-- a change of the state, which leaves the rows beside it
abbrev pub in_state : (State → State) → Kept → Kept
in_state change k = record k { state = change k.state }

-- a change of the rows of the statuses, which leaves the rest
abbrev pub in_board : (List BoardRow → List BoardRow) → Kept → Kept
in_board change k = record k { board = change k.board }

-- a change of the groups that are held, which leaves the rest
abbrev pub in_holders : (List Holder → List Holder) → Kept → Kept
in_holders change k = record k { holders = change k.holders }

-- inside a transaction the tables follow this change of what they keep
abbrev pub Makes : {S : Type 0} → Ghosts S → (Kept → Kept) → Held S → Held S → Type 0
Makes g change old new = IsTrue new.in_transaction × ((k : Kept) → Stands k (state g old).now → Stands (change k) (state g new).now)

-- where a call inside a transaction ends well, the tables follow this change of what they keep
abbrev pub MakesInside : {S A E : Type 0} → Ghosts S → (Kept → Kept) → Held S → Held S → Result A E → Type 0
MakesInside g change old new result = HasCleanDisk (state g new) → IsTrue old.in_transaction → OnOk result (Makes g change old new)

-- bytes behind the trace of an attempt
abbrev pub appended : ℕ → List ℕ → Kept → Kept
appended attempt bytes = in_state (changed (Append (record { attempt = attempt; bytes = bytes })))

-- a block is put inside a transaction: the tables follow bytes behind its attempt's trace, where they stay within it
abbrev pub PutsBlock : {S : Type 0} → Ghosts S → Block → Held S → Held S → Type 0
PutsBlock g b old new =
    IsTrue new.in_transaction × ((k : Kept) (bytes : List ℕ) → Stands k (state g old).now → StaysWithin (trace_of k.state b.attempt) bytes b.seq b.bytes → Stands (appended b.attempt bytes k) (state g new).now)

-- the queries, each after the one before, show no row
abbrev pub ShowsNone : {S : Type 0} → Ghosts S → List (List ℕ) → Row → Held S → Held S → Type 0
ShowsNone g [] key old new = old ≡ new
ShowsNone {S} g (query ∷ more) key old new = (mid : Held S) × Shown query key (state g old) (state g mid) [] × ShowsNone g more key mid new

-- no query showed a row that refers to the key, and then the statement removed the key's row
pub record RemovesUnreferred {S : Type 0} (g : Ghosts S) (queries : List (List ℕ)) (delete : List ℕ) (key : Row) (old new : Held S) : Type 0 where
  pub mid : Held S
  pub none : ShowsNone g queries key old mid
  pub count : ℕ
  pub removed : Changes g delete key count mid new
