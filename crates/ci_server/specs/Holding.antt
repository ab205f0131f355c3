-- What the store of a server holds: a state, and beside it what follows from it: the rows of its jobs' statuses, the resource groups that
-- are held, and the pipelines that aren't finished.
use Rattle.std.specs.Prelude.{◌≡◌, Bool, true, false, List, map}
use Rattle.ci_store.specs.Prelude.{Trees, Ghosts, Held}
use Rattle.ci_memory.specs.declared.remembering.Remembering.{Remembering}
use Rattle.ci_memory.specs.Right.{IsRight}
use Rattle.ci_machine_steps.specs.Prelude.{Holder, State, Kept, AreBoard, AreHolders, AreIndexes}
use Rattle.ci_store.specs.Stands as tables
use Rattle.ci_store_sqlite.specs.Schema as table
use Rattle.ci_store_sqlite.specs.Prelude.{holder_row, StandsIn, LeavesOnly, LeavesEither, StandsInAny}

-- what is kept is this state, and all that is beside it follows from it
pub record IsKeptOf (s : State) (k : Kept) : Type 0 where
  pub state : k.state ≡ s
  pub are_board : AreBoard s k.board
  pub are_indexes : AreIndexes k

-- the store holds the state, with what follows from it
pub record Holds {T : Type 0} (keeps : T → Kept → Type 0) (store : T) (s : State) : Type 0 where
  pub kept : Kept
  pub is_of : IsKeptOf s kept
  pub held : keeps store kept

-- a stop leaves one of the two states, each with what follows from it
pub record Leaves {T : Type 0} (leaves : T → Kept → Kept → Type 0) (store : T) (s t : State) : Type 0 where
  pub before : Kept
  pub after : Kept
  pub is_before : IsKeptOf s before
  pub is_after : IsKeptOf t after
  pub left : leaves store before after

-- ---- over tables

-- The tables hold the state with what follows from it: each file that a stop may leave stands for that. Whether they are open still they
-- ask by themselves, where a want of memory left that in doubt.
abbrev pub HoldsIn : {S : Type 0} → Ghosts S → State → Remembering (Held S) → Type 0
HoldsIn g s h = Holds (λ t k. LeavesOnly g k t.store × IsRight t.memory k) h s

-- each file that a stop may leave stands for one of the two states, with what follows from it
abbrev pub LeavesIn : {S : Type 0} → Ghosts S → State → State → Remembering (Held S) → Type 0
LeavesIn g s t h = Leaves (λ u k l. LeavesEither g k l u.store) h s t

-- the file stands for what is kept: as one of version 2 where it must be of that, and else as one of version 1 or 2
abbrev pub StandsAs : Bool → Kept → Trees → Type 0
StandsAs true k db = StandsIn k db
StandsAs false k db = StandsInAny k db

-- The file stands for the state: what is in it beside the state is what follows from the state, the rows of statuses from its jobs, needs
-- and attempts, the groups that are held from its live attempts, and the pipelines that aren't finished from these rows.
pub record StandsFor (of_2 : Bool) (s : State) (db : Trees) : Type 0 where
  pub kept : Kept
  pub is_of : IsKeptOf s kept
  pub stands : StandsAs of_2 kept db

-- The table `holder` of the file has a row for each live attempt whose job has a resource group, once, and no other row; and no two of them
-- are of the same group of a project.
pub record KeepsGroups (s : State) (db : Trees) : Type 0 where
  pub holders : List Holder
  pub are_holders : AreHolders s holders
  pub rows : tables.Holds table.holder (map holder_row holders) db
