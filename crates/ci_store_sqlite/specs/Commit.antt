-- What a transaction of changes makes of the tables.
use Rattle.std.specs.Prelude.{◌≡◌, ℕ, Bool, true, false, List, IsTrue, if◌then◌else◌}
use Rattle.std.specs.List.{list_any}
use Rattle.ci_store.specs.Prelude.{Trees, Ghosts, Held, state, Kept, RowChange, Put, Record, Counter}
use Rattle.ci_store_sqlite.specs.declared.commit.Ended.{Ended}
use Rattle.ci_store_sqlite.specs.declared.commit.Ended.TheVariants.{Done, Undone}
use Rattle.ci_store_rows.specs.Prelude.{Stands, StandsIn}

-- a change puts the next number of jobs
abbrev pub is_next_job : RowChange → Bool
is_next_job (Put (Record.Next Counter.Job n)) = true
is_next_job _ = false

-- the number from which on jobs are new, where this one is next: that one, where the changes put the next; else the greatest of 64 bits
abbrev pub first_new_job : List RowChange → ℕ → ℕ
first_new_job changes next = if list_any is_next_job changes then next else 18446744073709551615

-- what is committed stands for what is kept after the change
abbrev pub CommitsAll : {S : Type 0} → Ghosts S → (Kept → Kept) → Held S → Trees → Type 0
CommitsAll g change old db = (k : Kept) → Stands k (state g old).now → StandsIn (change k) db

abbrev pub is_done : Ended → Bool
is_done Done = true
is_done _ = false

abbrev pub is_undone : Ended → Bool
is_undone (Undone fault) = true
is_undone _ = false

-- the store is as the last commit left it
pub record IsBack {S : Type 0} (g : Ghosts S) (old new : Held S) : Type 0 where
  pub was_open : IsTrue (state g new).is_open → IsTrue (state g old).is_open
  pub back : IsTrue (state g new).is_open → ((state g new).now ≡ (state g old).committed) × ((state g new).committed ≡ (state g old).committed)

-- the change is made, and all of it is committed
pub record IsDone {S : Type 0} (g : Ghosts S) (change : Kept → Kept) (old new : Held S) : Type 0 where
  pub is_open : IsTrue (state g new).is_open
  pub stands : (k : Kept) → Stands k (state g old).now → Stands (change k) (state g new).now
  pub committed : (state g new).committed ≡ (state g new).now
